use Rattle.std.proofs.Common.{arith}
use Rattle.drt_graph.proofs.Rests.{summed_starts, summed_step, summed_ends}
use Rattle.drt_graph.proofs.cycles.cycle_sums.Goals as goal

pub sums-init : goal.sums-init
sums-init c = record { summed = summed_starts c.args.graph.now c.args.cycle.now c.requires; work_small = omega arith; span_small = omega arith }

pub sums-preserved : goal.sums-preserved
sums-preserved c =
    let s = summed_step c.args.graph.now c.args.cycle.now c.sums.work c.sums.span c.sums.at c.sums.v-index (omega arith) c.sums.invariant.summed in
    rw (c.wcet_of.ensures.value, c.gap_of.ensures.value) (record { summed = s; work_small = omega arith; span_small = omega arith })

pub returns-clause-work : goal.returns-clause-work
returns-clause-work c = (summed_ends c.args.graph.now c.args.cycle.now c.sums.work c.sums.span c.sums.at c.sums.v-index (omega arith) c.sums.invariant.summed).0

pub returns-clause-span : goal.returns-clause-span
returns-clause-span c = (summed_ends c.args.graph.now c.args.cycle.now c.sums.work c.sums.span c.sums.at c.sums.v-index (omega arith) c.sums.invariant.summed).1
