-- The shape of a proof, place by place.
use Rattle.std.specs.Prelude.{◌≡◌, ℕ, ◌<◌, Some, List, [], ◌∷◌, slice_get, IsSome}
use Rattle.drt_claims.specs.Trees.{root}
use Rattle.drt_claims.specs.declared.evidence.Item.{Item}
use Rattle.drt_claims.specs.declared.evidence.TreeClaim.{TreeClaim}
use Rattle.drt_check_proofs.specs.Places.{after_all_at, depth_after_all}

-- The items can be taken one after another as far as their number goes, and none is left over or missing.
abbrev pub IsWholeProof : ℕ → List Item → Type 0
IsWholeProof width items = depth_after_all width items (Some 1) ≡ Some 0

-- The items can be taken one after another at a place of the tree, from its root on.
abbrev pub CanTakeAt : TreeClaim → ℕ → List Item → Type 0
CanTakeAt tree i items = IsSome (after_all_at tree i items (Some (root tree ∷ [])))

-- They can at each of the first places.
abbrev pub CanTakeBelow : List TreeClaim → ℕ → List Item → Type 0
CanTakeBelow trees width items = (i : ℕ) (tree : TreeClaim) → i < width → slice_get trees i ≡ Some tree → CanTakeAt tree i items
