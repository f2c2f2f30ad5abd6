use Rattle.std.proofs.Common.{ℕ, ◌≤◌, ◌<◌, List, ap, arith, length, sym, take, ◌∙◌}
use Rattle.std.proofs.lemmas.List.{length-take-le}
use Rattle.std.proofs.lemmas.List.Elements.{All-take}
use Rattle.drt_model.specs.Digraph.{digraph_of}
use Rattle.drt_model.specs.Walk.{deadline, wcet}
use Rattle.drt_model.specs.declared.tasks.Task.{Task}
use Rattle.drt_claims.specs.Sorting.{sorted_places}
use Rattle.drt_states.specs.Tails.{IsTail, Place}
use Rattle.drt_states.specs.declared.claims.TailClaim.{TailClaim}
use Rattle.drt_check_states.specs.Crests.{IsCrest}
use Rattle.drt_check_states.specs.Curves.{HasRisingCurves}
use Rattle.drt_check_states.proofs.Sums.{tails_rise}
use Rattle.drt_check_states.proofs.Zips.{zip_long}
use Rattle.drt_check_searches.proofs.Eachs.{passes_by, zip_take}
use Rattle.drt_check_searches.proofs.Orders.{count_few, count_is, places_long, some_at, task_same}
use Rattle.drt_check_searches.proofs.passing.is_passing.Goals as goal

-- There are as many tails as the count needs.
enough : (c : goal.After-numbers-wcet) → c.higher_count-count.result ≤ length c.args.tails.now
enough c =
    let tasks : List Task = c.args.set.now.tasks in
    let k : ℕ = c.args.search.now.task in
    let l : k < length tasks = omega (arith, c.if-search-tasks.false, ap length c.tasks-tasks.ensures.tasks) in
    let few = count_few tasks c.tasks-tasks.result.now k c.index-tasks-search.result c.tasks-tasks.ensures.tasks l c.index-tasks-search.is c.higher_count-count.result c.higher_count-count.ensures in
    let long = zip_long (λ (p : Place) (tail : TailClaim). IsTail p.bound p.graph tail) (sorted_places tasks) c.args.tails.now c.requires.tails in
    omega (arith, few, long, places_long tasks)

pub slice_bounds-have_passing_times-end : goal.slice_bounds-have_passing_times-end
slice_bounds-have_passing_times-end c = sym (length-take-le c.higher_count-count.result c.args.tails.now (enough c))

pub slice_bounds-have_passing_times-end-2 : goal.slice_bounds-have_passing_times-end-2
slice_bounds-have_passing_times-end-2 c =
    let long = zip_long IsCrest c.args.tails.now c.args.crests.now c.requires.crests in
    sym (length-take-le c.higher_count-count.result c.args.crests.now (omega (arith, enough c, long)))

pub have_passing_times-requires-clause-rising : goal.have_passing_times-requires-clause-rising
have_passing_times-requires-clause-rising c =
    All-take HasRisingCurves c.higher_count-count.result c.args.tails.now (tails_rise (sorted_places c.args.set.now.tasks) c.args.tails.now c.requires.tails)

pub have_passing_times-requires-clause-crests : goal.have_passing_times-requires-clause-crests
have_passing_times-requires-clause-crests c = zip_take IsCrest c.args.tails.now c.args.crests.now c.higher_count-count.result c.requires.crests

pub returns : goal.returns
returns c =
    let tasks : List Task = c.args.set.now.tasks in
    let k : ℕ = c.args.search.now.task in
    let l : k < length tasks = omega (arith, c.if-search-tasks.false, ap length c.tasks-tasks.ensures.tasks) in
    let v : ℕ = c.args.search.now.vertex in
    let n : ℕ = c.higher_count-count.result in (
      λ e t at.
          let same = task_same tasks c.tasks-tasks.result.now k c.index-tasks-search.result c.tasks-tasks.ensures.tasks l c.index-tasks-search.is t at in
          let count = count_is tasks c.tasks-tasks.result.now k c.index-tasks-search.result c.tasks-tasks.ensures.tasks l c.index-tasks-search.is n t c.higher_count-count.ensures at in
          passes_by _ _ _ _ _ _ _ _ (c.numbers-wcet.ensures.deadline ∙ ap (λ (x : Task). deadline (digraph_of x) v) same) (c.numbers-wcet.ensures.wcet ∙ ap (λ (x : Task). wcet (digraph_of x) v) same)
          (ap (λ (m : ℕ). take m c.args.tails.now) count) c.as_slice.ensures (c.have_passing_times.ensures.0 e),
      λ has.
          let here = some_at tasks k l in
          let same = task_same tasks c.tasks-tasks.result.now k c.index-tasks-search.result c.tasks-tasks.ensures.tasks l c.index-tasks-search.is here.0 here.1 in
          let count = count_is tasks c.tasks-tasks.result.now k c.index-tasks-search.result c.tasks-tasks.ensures.tasks l c.index-tasks-search.is n here.0 c.higher_count-count.ensures here.1 in
          c.have_passing_times.ensures.1 (passes_by _ _ _ _ _ _ _ _ (sym (c.numbers-wcet.ensures.deadline ∙ ap (λ (x : Task). deadline (digraph_of x) v) same))
          (sym (c.numbers-wcet.ensures.wcet ∙ ap (λ (x : Task). wcet (digraph_of x) v) same)) (sym (ap (λ (m : ℕ). take m c.args.tails.now) count)) (sym c.as_slice.ensures) (has here.0 here.1)),
    )
