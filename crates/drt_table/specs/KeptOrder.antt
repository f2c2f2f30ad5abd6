-- The order in which the kept nodes of a vertex are walked: in descending order of offset, the least number first in a tie.
use Rattle.std.specs.Prelude.{◌≡◌, ℕ, ◌+◌, ◌*◌, ◌-◌, ◌<◌, ◌⊎◌, Option, Some, None, List, length, slice_get}
use Rattle.drt_label.specs.Algebra.{Algebra}
use Rattle.drt_table.specs.Node.{NodeOf}

-- Node i, which is m, comes before node k, which is n.
abbrev pub ComesBefore : {L : Type 0} → Algebra L → ℕ → NodeOf L → ℕ → NodeOf L → Type 0
ComesBefore a i m k n = (a.offset n.label < a.offset m.label) ⊎ ((a.offset n.label ≡ a.offset m.label) × (i < k))

module _ {L : Type 0} (a : Algebra L) (nodes : List (NodeOf L)) (v : ℕ) where
  -- Node i is this one. It is kept, and its label is of the vertex.
  pub record IsKeptOf (i : ℕ) (n : NodeOf L) : Type 0 where
    pub at : slice_get nodes i ≡ Some n
    pub kept : n.dropped_by ≡ None
    pub vertex : a.vertex n.label ≡ v

  -- The kept node of the vertex that comes before all others of it; none where there is no kept one.
  abbrev pub IsFirstKept : Option ℕ → Type 0
  IsFirstKept None = (k : ℕ) (n : NodeOf L) → IsKeptOf k n → ⊥
  IsFirstKept (Some i) = (m : NodeOf L) × IsKeptOf i m × ((k : ℕ) (n : NodeOf L) → IsKeptOf k n → (k ≡ i) ⊎ ComesBefore a i m k n)

  -- Of the kept nodes of the vertex that come after node id, which is n, the one that comes before all others; none where there is none.
  abbrev pub IsNextKept : ℕ → NodeOf L → Option ℕ → Type 0
  IsNextKept id n None = (k : ℕ) (x : NodeOf L) → IsKeptOf k x → ComesBefore a id n k x → ⊥
  IsNextKept id n (Some i) =
      (m : NodeOf L) × IsKeptOf i m × ComesBefore a id n i m × ((k : ℕ) (x : NodeOf L) → IsKeptOf k x → ComesBefore a id n k x → (k ≡ i) ⊎ ComesBefore a i m k x)

module _ {L : Type 0} (a : Algebra L) (nodes : List (NodeOf L)) where
  -- A number that falls with each node of such a walk.
  abbrev pub left_at : ℕ → Option (NodeOf L) → ℕ
  left_at i None = 0
  left_at i (Some n) = a.offset n.label * length nodes + (length nodes - i)

  abbrev pub left_from : Option ℕ → ℕ
  left_from None = 0
  left_from (Some i) = left_at i (slice_get nodes i)
