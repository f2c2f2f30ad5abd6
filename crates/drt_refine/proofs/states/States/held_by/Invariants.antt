use Rattle.std.proofs.Common.{◌≡◌, ℕ, ◌<◌, Some, false}
use Rattle.std.specs.Prelude.{slice_get}
use Rattle.drt_refine.specs.Combination.{is_held_state}
use Rattle.drt_refine.specs.declared.step.CombinationState.{CombinationState}
use Rattle.drt_refine.proofs.states.States.held_by.Given as goal

abbrev pub invariant-loop-j : goal.invariant-loop-j
invariant-loop-j l = (i k : ℕ) (s : CombinationState) → i < l.j → slice_get l.self-inside.taken.items i ≡ Some k → slice_get l.self-inside.items.items k ≡ Some s → is_held_state l.worker s ≡ false
