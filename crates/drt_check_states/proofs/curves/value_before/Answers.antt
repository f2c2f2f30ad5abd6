use Rattle.std.proofs.Common.{◌+◌, ◌-◌, ◌/◌, arith}
use Rattle.drt_states.specs.Tails.{no_jump}
use Rattle.drt_check_states.proofs.Values.{cut_down, cut_up, value_last, value_none}
use Rattle.drt_check_states.proofs.curves.value_before.Goals as goal

pub loop-from-preserved-then-jumps-middle : goal.loop-from-preserved-then-jumps-middle
loop-from-preserved-then-jumps-middle c =
    cut_up c.args.jumps.now c.args.t c.loop-from.from c.loop-from.to (c.loop-from.from + (c.loop-from.to - c.loop-from.from) / 2) no_jump c.requires c.loop-from.invariant
    (omega arith) c.if-jumps-middle.true

pub loop-from-preserved : goal.loop-from-preserved
loop-from-preserved c =
    cut_down c.args.jumps.now c.args.t c.loop-from.from c.loop-from.to (c.loop-from.from + (c.loop-from.to - c.loop-from.from) / 2) no_jump c.requires c.loop-from.invariant
    (omega arith) (omega arith) c.if-jumps-middle.false

pub returns-then-from-eq0 : goal.returns-then-from-eq0
returns-then-from-eq0 c = value_none c.args.jumps.now c.args.t c.loop-from.from c.loop-from.to c.loop-from.invariant c.if-from-eq0.true c.loop-from-test.false

pub returns-else-from-eq0 : goal.returns-else-from-eq0
returns-else-from-eq0 c = value_last c.args.jumps.now c.args.t c.loop-from.from c.loop-from.to no_jump c.loop-from.invariant (omega (arith, c.if-from-eq0.false)) c.loop-from-test.false
