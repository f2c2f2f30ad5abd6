-- The tasks of higher priority have graphs, and their tails rise.
use Rattle.std.proofs.Common.{List, sym, subst, ◌∙◌}
use Rattle.std.specs.List.{All}
use Rattle.drt_states.specs.declared.claims.TailClaim.{TailClaim}
use Rattle.drt_check_states.specs.Curves.{HasRisingCurves}
use Rattle.drt_check_states.specs.Places.{graphs_at}
use Rattle.drt_fixed_task.proofs.Vertices.{higher_counted, tails_rise}
use Rattle.drt_fixed_task.proofs.by_states.decide_by_states.Goals as goal

pub find_tails-requires-clause-tasks : goal.find_tails-requires-clause-tasks
find_tails-requires-clause-tasks g c =
    higher_counted c.args.set.now.tasks c.args.task c.graphs-graphs.result.now c.as_slice-higher.result.now c.graphs-graphs.ensures.graphs (c.as_slice-higher.ensures.value ∙ c.in_ok-numbers.ensures)

pub find_crests-requires : goal.find_crests-requires
find_crests-requires g c =
    let are = rw c.in-Some.is at c.in_ok-found.ensures in
    let rise = tails_rise c.latest_deadline-bound.result (graphs_at c.graphs-graphs.result.now c.as_slice-higher.result.now) c.in-Some.found.items are in
    subst (λ (ts : List TailClaim). All HasRisingCurves ts) (sym c.as_slice-tails.ensures.value) rise
