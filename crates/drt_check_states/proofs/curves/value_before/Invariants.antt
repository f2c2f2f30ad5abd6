-- The jumps before the first number come before t, and those from the second one on don't.
use Rattle.std.proofs.Common.{◌-◌}
use Rattle.drt_check_states.proofs.Values.{IsCut}
use Rattle.drt_check_states.proofs.curves.value_before.Given as goal

abbrev pub invariant-loop-from : goal.invariant-loop-from
invariant-loop-from l = IsCut l.jumps l.t l.from l.to

abbrev pub decreases-loop-from : goal.decreases-loop-from
decreases-loop-from l = l.to - l.from
