-- The task stands at none of the places so far.
use Rattle.std.proofs.Common.{◌≡◌, ℕ, ◌<◌, Some}
use Rattle.std.specs.Prelude.{slice_get}
use Rattle.drt_sp_task.proofs.trees.place_of.Given as goal

abbrev pub invariant-places : goal.invariant-places
invariant-places l = (j : ℕ) → j < l.i → slice_get l.order j ≡ Some l.task → ⊥
