-- The functions so far rise below the bound.
use Rattle.std.proofs.Common.{ℕ, ◌<◌, List, get_or}
use Rattle.drt_states.specs.Tails.{IsCurve}
use Rattle.drt_states.specs.declared.claims.Jump.{Jump}
use Rattle.drt_check_states.proofs.tails.is_tail.Given as goal

abbrev pub invariant-loop-i : goal.invariant-loop-i
invariant-loop-i l = (k : ℕ) (d : List Jump) → k < l.i → IsCurve l.bound (get_or l.curves k d)
