-- The function is above the jumps so far.
use Rattle.std.proofs.Common.{ℕ, ◌<◌, get_or}
use Rattle.drt_states.specs.declared.claims.Jump.{Jump}
use Rattle.drt_check_states.specs.Curves.{IsJumpOver}
use Rattle.drt_check_states.proofs.tails.is_over.Given as goal

abbrev pub invariant-loop-jump : goal.invariant-loop-jump
invariant-loop-jump l = (k : ℕ) (d : Jump) → k < l.jump-index → IsJumpOver l.bound l.wcet l.sep l.own (get_or l.other k d)
