use Rattle.std.proofs.Common.{◌≡◌, ℕ, ◌≤◌, length, get_or, drop, sym, ◌∙◌, ap, refl, arith, rules}
use Rattle.std.proofs.lemmas.Bool.{false≢true}
use Rattle.std.proofs.lemmas.List.{get_or-drop, length-drop}
use Rattle.drt_check_searches.specs.Subjects.{subject_of_search}
use Rattle.drt_check_searches.proofs.TaskSearches.{are_all, are_each}
use Rattle.drt_check_searches.proofs.subjects.are_of_task.Goals as goal
use Rattle.drt_check_searches.proofs.subjects.are_of_task.Goals.{then-search-task-via-then-search-task, then-search-task-via-else-search-task+then-search-v}

pub returns-then-search-task : goal.returns-then-search-task
returns-then-search-task c = (
  λ e. absurd (false≢true e),
  λ are. (
      let p = c.index-searches-first.result in
      let few : c.args.count ≤ length (drop c.args.first c.args.searches.now) = omega (arith, length-drop c.args.first c.args.searches.now, c.requires) in
      let at : p ≡ get_or (drop c.args.first c.args.searches.now) c.loop-v.v p = c.index-searches-first.is ∙ sym (get_or-drop c.args.first c.args.searches.now c.loop-v.v p) in
      let is : subject_of_search p ≡ (c.args.task, c.loop-v.v) = are_each (drop c.args.first c.args.searches.now) c.args.task c.args.count c.loop-v.v p few c.loop-v-test.true at are in
      let task : p.task ≡ c.args.task = ap (λ (x : ℕ × ℕ). x.0) is in
      let vertex : p.vertex ≡ c.loop-v.v = ap (λ (x : ℕ × ℕ). x.1) is in
      elim c.then-search-task.branch [
        | then-search-task-via-then-search-task w ↦ absurd (search (rules, w.if-search-task.true))
        | then-search-task-via-else-search-task+then-search-v w ↦ absurd (search (rules, w.if-search-v.true))
      ]),
)

pub returns : goal.returns
returns c = (
  λ e. are_all (drop c.args.first c.args.searches.now) c.args.task c.args.count (omega (arith, length-drop c.args.first c.args.searches.now, c.requires))
      (λ k d l. ap subject_of_search (get_or-drop c.args.first c.args.searches.now k d) ∙ c.loop-v.invariant k d (omega arith)),
  λ are. refl,
)
