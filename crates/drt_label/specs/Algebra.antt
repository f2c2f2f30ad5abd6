-- What a label of a walk is, as values: how labels are made, read and compared, and the laws that they keep.
use Rattle.std.specs.Prelude.{◌≡◌, ℕ, ◌+◌, ◌≤◌, ◌⊎◌, Bool, IsTrue, List, slice_index}

-- How the labels of one kind are made, read and compared.
pub record Algebra (L : Type 0) : Type 0 where
  -- the bounds that an opening label is made for
  pub takes_bound : ℕ → Bool
  -- the label of the walk of one vertex: its number, its execution time, the bound
  pub opening : ℕ → ℕ → ℕ → L
  -- a label extended by an edge: the separation, the target, the target's execution time
  pub extend : L → ℕ → ℕ → ℕ → L
  -- the last vertex of the walk
  pub vertex : L → ℕ
  -- the sum of the walk's separations
  pub offset : L → ℕ
  -- a label is in range of a deadline and a bound
  pub in_range : L → ℕ → ℕ → Bool
  -- a label dominates another one
  pub dominates : L → L → Bool
  -- a label is of a bound
  pub is_of : L → ℕ → Bool
  -- a walk with that label may go on
  pub is_extendable : L → Bool
  -- of three labels of one vertex in ascending order of offset, the first dominates the last only where the middle one
  -- comes between them
  pub is_chain : Bool
  -- samples of what a walk with that label asks for
  pub samples : L → List ℕ

-- Of the labels x, y and z of one vertex, in ascending order of offset, the first dominates the last only where it dominates
-- the middle one, or the middle one dominates the last.
abbrev pub IsChain : {L : Type 0} → Algebra L → Type 0
IsChain {L} a =
    (x y z : L) → a.vertex x ≡ a.vertex y → a.vertex y ≡ a.vertex z → a.offset x ≤ a.offset y → a.offset y ≤ a.offset z
    → IsTrue (a.dominates x z) → IsTrue (a.dominates x y) ⊎ IsTrue (a.dominates y z)

-- What each kind of label keeps: dominance is an order that an extension and a range respect.
pub record Laws {L : Type 0} (a : Algebra L) : Type 0 where
  -- dominance is reflexive, transitive and antisymmetric
  pub reflexive : (x : L) → IsTrue (a.dominates x x)
  pub transitive : (x y z : L) → IsTrue (a.dominates x y) → IsTrue (a.dominates y z) → IsTrue (a.dominates x z)
  pub antisymmetric : (x y : L) → IsTrue (a.dominates x y) → IsTrue (a.dominates y x) → x ≡ y
  -- where the other label is extendable, so is this one, and the extension keeps the order
  pub extends : (x y : L) → IsTrue (a.dominates x y) → IsTrue (a.is_extendable y) → IsTrue (a.is_extendable x)
  pub monotone : (x y : L) (sep target wcet : ℕ) → IsTrue (a.dominates x y) → IsTrue (a.is_extendable y) → IsTrue (a.dominates (a.extend x sep target wcet) (a.extend y sep target wcet))
  -- a label that dominates one in range is in range
  pub ranges : (x y : L) (deadline bound : ℕ) → IsTrue (a.dominates x y) → IsTrue (a.in_range y deadline bound) → IsTrue (a.in_range x deadline bound)
  -- a label dominates only labels of its vertex, none of them with a smaller offset
  pub same_vertex : (x y : L) → IsTrue (a.dominates x y) → a.vertex x ≡ a.vertex y
  pub no_later : (x y : L) → IsTrue (a.dominates x y) → a.offset x ≤ a.offset y
  -- of two labels of one bound, one dominates the other only where none of its samples is less
  pub sampled : (x y : L) (bound k : ℕ) → IsTrue (a.is_of x bound) → IsTrue (a.is_of y bound) → IsTrue (a.dominates x y) → slice_index (a.samples y) k ≤ slice_index (a.samples x) k
  -- where the kind says so, dominance is a chain
  pub chain : IsTrue a.is_chain → IsChain a
  -- the vertex and the offset of an opening label, and of an extended one
  pub opening_vertex : (number wcet bound : ℕ) → a.vertex (a.opening number wcet bound) ≡ number
  pub opening_offset : (number wcet bound : ℕ) → a.offset (a.opening number wcet bound) ≡ 0
  pub extended_vertex : (x : L) (sep target wcet : ℕ) → a.vertex (a.extend x sep target wcet) ≡ target
  pub extended_offset : (x : L) (sep target wcet : ℕ) → a.offset (a.extend x sep target wcet) ≡ a.offset x + sep
  -- an opening label is of its bound, an extended label is of the same bounds, and one in range is extendable
  pub opening_of : (number wcet bound : ℕ) → IsTrue (a.takes_bound bound) → IsTrue (a.is_of (a.opening number wcet bound) bound)
  pub extended_of : (x : L) (sep target wcet bound : ℕ) → IsTrue (a.is_of x bound) → IsTrue (a.is_of (a.extend x sep target wcet) bound)
  pub extendable : (x : L) (deadline bound : ℕ) → IsTrue (a.is_of x bound) → IsTrue (a.in_range x deadline bound) → IsTrue (a.is_extendable x)
