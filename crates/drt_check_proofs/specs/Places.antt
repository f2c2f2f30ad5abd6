-- A proof seen at one place: the nodes that its combinations have there, the topmost combination's first.
use Rattle.std.specs.Prelude.{ℕ, zero, suc, ◌==◌, nat_lt, if◌then◌else◌, Option, None, Some, List, [], ◌∷◌, map, slice_index_or}
use Rattle.drt_claims.specs.Proofs.{node_parts}
use Rattle.drt_claims.specs.declared.evidence.Item.{Item}
use Rattle.drt_claims.specs.declared.evidence.Item.TheVariants.{Pass, Split}
use Rattle.drt_claims.specs.declared.evidence.TreeClaim.{TreeClaim}

-- The node of a combination at a place.
abbrev pub node_at : ℕ → List ℕ → ℕ
node_at i nodes = slice_index_or nodes i 0

-- The nodes of some combinations at a place.
abbrev pub at_place : ℕ → List (List ℕ) → List ℕ
at_place i stack = map (node_at i) stack

-- The nodes at a place of the two halves of a combination that has this node there: the node's parts where the combination is
-- split at this very place, and elsewhere the node itself.
abbrev pub halves_at : TreeClaim → ℕ → ℕ → ℕ → Option (ℕ × ℕ)
halves_at tree i place n = if place == i then node_parts tree n else Some (n, n)

-- The nodes with the two of the halves before them.
abbrev pub with_halves : List ℕ → Option (ℕ × ℕ) → Option (List ℕ)
with_halves nodes None = None
with_halves nodes (Some p) = Some (p.0 ∷ p.1 ∷ nodes)

-- The nodes at a place after an item, if it can be taken there.
abbrev pub after_at : TreeClaim → ℕ → Item → List ℕ → Option (List ℕ)
after_at tree i item [] = None
after_at tree i (Pass t) (n ∷ nodes) = Some nodes
after_at tree i (Split place) (n ∷ nodes) = with_halves nodes (halves_at tree i place n)

-- The nodes at a place after some items.
unfoldable pub after_all_at : TreeClaim → ℕ → List Item → Option (List ℕ) → Option (List ℕ)
after_all_at tree i items None = None
after_all_at tree i [] (Some nodes) = Some nodes
after_all_at tree i (item ∷ items) (Some nodes) = after_all_at tree i items (after_at tree i item nodes)

-- How many combinations there are after an item that splits below so many places, if it can be taken.
abbrev pub depth_after : ℕ → Item → ℕ → Option ℕ
depth_after width item zero = None
depth_after width (Pass t) (suc n) = Some n
depth_after width (Split place) (suc n) = if nat_lt place width then Some (suc (suc n)) else None

-- How many combinations there are after some items.
unfoldable pub depth_after_all : ℕ → List Item → Option ℕ → Option ℕ
depth_after_all width items None = None
depth_after_all width [] (Some n) = Some n
depth_after_all width (item ∷ items) (Some n) = depth_after_all width items (depth_after width item n)
