-- The jumps so far lie below the bound.
use Rattle.std.proofs.Common.{ℕ, ◌<◌, get_or}
use Rattle.drt_states.specs.declared.claims.Jump.{Jump}
use Rattle.drt_check_states.proofs.curves.are_below.Given as goal

abbrev pub invariant-loop-jump : goal.invariant-loop-jump
invariant-loop-jump l = (k : ℕ) (d : Jump) → k < l.jump-index → (get_or l.jumps k d).offset < l.bound
