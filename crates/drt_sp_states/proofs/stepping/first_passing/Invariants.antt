use Rattle.std.specs.Prelude.{◌-◌, ◌+◌}
use Rattle.drt_sp_states.proofs.stepping.first_passing.Given as goal

-- Each time is greater than the one before, and the last is the deadline.
abbrev pub decreases-times : goal.decreases-times
decreases-times l = l.subject.deadline + 1 - l.t
