use Rattle.drt_margin.specs.Margin.{IsVertexOf}
use Rattle.drt_margin.proofs.Limits.{timed_kept}
use Rattle.drt_margin.proofs.times.with_wcet.Goals as goal

pub invariant_of-result : goal.invariant_of-result
invariant_of-result c =
    let old = c.into_parts-version.result in
    let same = c.into_parts-version.ensures.tasks in
    let there : IsVertexOf old.1 c.args.task c.args.vertex = rw same c.requires.vertex in
    rw c.time_row-tasks.ensures (timed_kept old.0 old.1 c.args.task c.args.vertex c.args.wcet c.into_parts-version.ensures.limits there.0 there.1 c.requires.time)
