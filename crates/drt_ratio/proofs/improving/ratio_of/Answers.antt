use Rattle.std.proofs.Common.{arith}
use Rattle.drt_ratio.proofs.Optima.{cycle_sums}
use Rattle.drt_ratio.proofs.improving.ratio_of.Goals as goal

pub new-requires : goal.new-requires
new-requires c =
    let sums = cycle_sums c.args.graph.now c.keep_limits.ensures c.args.cycle.now c.requires.is in
    omega (arith, sums.span_some, c.cycle_sums-work.ensures.span)

pub returns-clause-num_small : goal.returns-clause-num_small
returns-clause-num_small c =
    let sound = c.keep_limits.ensures in
    let sums = cycle_sums c.args.graph.now sound c.args.cycle.now c.requires.is in
    omega (arith, sums.work_most, c.cycle_sums-work.ensures.work, c.new.ensures.num_most, c.requires.few, sound.few)

pub returns-clause-den_small : goal.returns-clause-den_small
returns-clause-den_small c =
    let sound = c.keep_limits.ensures in
    let sums = cycle_sums c.args.graph.now sound c.args.cycle.now c.requires.is in
    omega (arith, sums.span_most, c.cycle_sums-work.ensures.span, c.new.ensures.den_most, c.requires.few, sound.few)

pub returns-clause-work_some : goal.returns-clause-work_some
returns-clause-work_some c = (cycle_sums c.args.graph.now c.keep_limits.ensures c.args.cycle.now c.requires.is).work_some
