use Rattle.std.proofs.Common.{◌≡◌, ℕ, ◌≤◌, length, get_or, drop, sym, ◌∙◌, ap, refl, arith, rules}
use Rattle.std.proofs.lemmas.Bool.{false≢true}
use Rattle.std.proofs.lemmas.List.{get_or-drop, length-drop}
use Rattle.drt_check_proofs.specs.Subjects.{subject_of_proof}
use Rattle.drt_check_proofs.proofs.TaskProofs.{are_all, are_each}
use Rattle.drt_check_proofs.proofs.subjects.are_of_task.Goals as goal
use Rattle.drt_check_proofs.proofs.subjects.are_of_task.Goals.{then-proof-task-via-then-proof-task, then-proof-task-via-else-proof-task+then-proof-v}

pub returns-then-proof-task : goal.returns-then-proof-task
returns-then-proof-task c = (
  λ e. absurd (false≢true e),
  λ are. (
      let p = c.index-proofs-first.result in
      let few : c.args.count ≤ length (drop c.args.first c.args.proofs.now) = omega (arith, length-drop c.args.first c.args.proofs.now, c.requires) in
      let at : p ≡ get_or (drop c.args.first c.args.proofs.now) c.loop-v.v p = c.index-proofs-first.is ∙ sym (get_or-drop c.args.first c.args.proofs.now c.loop-v.v p) in
      let is : subject_of_proof p ≡ (c.args.task, c.loop-v.v) = are_each (drop c.args.first c.args.proofs.now) c.args.task c.args.count c.loop-v.v p few c.loop-v-test.true at are in
      let task : p.task ≡ c.args.task = ap (λ (x : ℕ × ℕ). x.0) is in
      let vertex : p.vertex ≡ c.loop-v.v = ap (λ (x : ℕ × ℕ). x.1) is in
      elim c.then-proof-task.branch [
        | then-proof-task-via-then-proof-task w ↦ absurd (search (rules, w.if-proof-task.true))
        | then-proof-task-via-else-proof-task+then-proof-v w ↦ absurd (search (rules, w.if-proof-v.true))
      ]),
)

pub returns : goal.returns
returns c = (
  λ e. are_all (drop c.args.first c.args.proofs.now) c.args.task c.args.count (omega (arith, length-drop c.args.first c.args.proofs.now, c.requires))
      (λ k d l. ap subject_of_proof (get_or-drop c.args.first c.args.proofs.now k d) ∙ c.loop-v.invariant k d (omega arith)),
  λ are. refl,
)
