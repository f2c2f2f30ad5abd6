-- The states so far that pass do.
use Rattle.std.proofs.Common.{ℕ, ◌<◌, get_or}
use Rattle.drt_states.specs.States.{IsPassing}
use Rattle.drt_states.specs.declared.claims.StateClaim.{StateClaim}
use Rattle.drt_check_states.proofs.passing.have_passing_times.Given as goal

abbrev pub invariant-loop-i : goal.invariant-loop-i
invariant-loop-i l = (k : ℕ) (d : StateClaim) → k < l.i → IsPassing l.bound l.wcet l.tails (get_or l.states k d) (get_or l.states k d).end
