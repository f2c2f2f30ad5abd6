-- Walks in range, and their labels.
use Rattle.std.specs.Prelude.{◌≡◌, ℕ, ◌<◌, IsTrue, List, [], ◌∷◌, length, reverse}
use Rattle.drt_label.specs.Algebra.{Algebra}
use Rattle.drt_model.specs.Digraph.{edge_of, out_degree}
use Rattle.drt_table.specs.Machine.{Setting, opening_label, in_range, extended}

module _ {L : Type 0} (a : Algebra L) (t : Setting) where
  -- The vertices of the list, the last first, and then v are a walk, the label of each of its prefixes is in range, and l is its
  -- label: the opening label of a walk of one vertex, and else the label of the walk without its last vertex, extended by the
  -- last edge.
  abbrev pub WalkTo : ℕ → List ℕ → L → Type 0
  WalkTo v [] l = (v < length t.graph.vertices) × (l ≡ opening_label a t v) × IsTrue (in_range a t l)
  WalkTo v (u ∷ before) l =
      (k : ℕ) × (m : L) × WalkTo u before m × (k < out_degree t.graph u) × ((edge_of t.graph u k).to ≡ v) × (l ≡ extended a t m k) × IsTrue (in_range a t l)

  -- The label is that of an in-range walk.
  abbrev pub IsWalkLabel : L → Type 0
  IsWalkLabel l = (v : ℕ) × (before : List ℕ) × WalkTo v before l

  -- The vertices, the last first, are an in-range walk with the label.
  abbrev pub IsWalkBack : List ℕ → L → Type 0
  IsWalkBack [] l = ⊥
  IsWalkBack (v ∷ before) l = WalkTo v before l

  -- The vertices are an in-range walk with the label.
  abbrev pub IsWalkOf : List ℕ → L → Type 0
  IsWalkOf walk l = IsWalkBack (reverse walk) l
