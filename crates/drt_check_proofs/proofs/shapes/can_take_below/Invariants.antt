-- The items can be taken at the places so far.
use Rattle.std.proofs.Common.{◌≡◌, ℕ, ◌<◌}
use Rattle.std.specs.Prelude.{Some, slice_get}
use Rattle.drt_claims.specs.declared.evidence.TreeClaim.{TreeClaim}
use Rattle.drt_check_proofs.specs.Shapes.{CanTakeAt}
use Rattle.drt_check_proofs.proofs.shapes.can_take_below.Given as goal

abbrev pub invariant-places : goal.invariant-places
invariant-places l = (i : ℕ) (tree : TreeClaim) → i < l.i → slice_get l.trees i ≡ Some tree → CanTakeAt tree i l.items
