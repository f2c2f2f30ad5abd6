-- The jumps so far rise.
use Rattle.std.proofs.Common.{ℕ, ◌+◌, ◌<◌, get_or}
use Rattle.drt_states.specs.declared.claims.Jump.{Jump}
use Rattle.drt_check_states.specs.Curves.{IsRise}
use Rattle.drt_check_states.proofs.curves.is_rising.Given as goal

abbrev pub invariant-loop-i : goal.invariant-loop-i
invariant-loop-i l = (k : ℕ) (d : Jump) → k + 1 < l.i → IsRise (get_or l.jumps k d) (get_or l.jumps (k + 1) d)
