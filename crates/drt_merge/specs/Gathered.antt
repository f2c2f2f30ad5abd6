-- The entries that are gathered from the lists, and the front.
use Rattle.std.specs.Prelude.{◌≡◌, ℕ, ◌<◌, ◌⊎◌, List, length, Contains}
use Rattle.drt_model.specs.Digraph.{Digraph}
use Rattle.drt_model.specs.Legal.{AllNeighbours}
use Rattle.drt_graph.specs.declared.front.FrontEntry.{FrontEntry}
use Rattle.drt_claims.specs.Ranges.{IsCounted}
use Rattle.drt_wave.specs.Fronts.{IsWalkEntry, IsExactFront, CoversAll}
use Rattle.drt_graph.specs.FrontEntry.{IsNextEntry}
use Rattle.drt_merge.specs.declared.mark.Mark.{Mark}
use Rattle.drt_merge.specs.Marks.{row, mark_at, entry_of}

-- The entry is of the mark at this place of its vertex.
pub record IsOfMark (lists : List (List Mark)) (e : FrontEntry) : Type 0 where
  pub place : ℕ
  pub vertex : e.vertex < length lists
  pub there : place < length (row lists e.vertex)
  pub is : e ≡ entry_of e.vertex (mark_at (row lists e.vertex) place)

-- The place stands before mark i of vertex v.
abbrev pub IsMarkBefore : ℕ → ℕ → ℕ → ℕ → Type 0
IsMarkBefore v i u j = (u < v) ⊎ ((u ≡ v) × (j < i))

-- The entries are, in order, those of the marks before mark i of vertex v.
pub record AreMarksGathered (lists : List (List Mark)) (v i : ℕ) (entries : List FrontEntry) : Type 0 where
  pub each : (e : FrontEntry) → Contains entries e → (m : IsOfMark lists e) × IsMarkBefore v i e.vertex m.place
  pub all : (u j : ℕ) → u < length lists → j < length (row lists u) → IsMarkBefore v i u j → Contains entries (entry_of u (mark_at (row lists u) j))
  pub ordered : AllNeighbours IsNextEntry entries

-- The entries are those of the marks.
pub record AreMarkEntries (lists : List (List Mark)) (entries : List FrontEntry) : Type 0 where
  pub each : (e : FrontEntry) → Contains entries e → IsOfMark lists e
  pub all : (u j : ℕ) → u < length lists → j < length (row lists u) → Contains entries (entry_of u (mark_at (row lists u) j))
  pub ordered : AllNeighbours IsNextEntry entries

-- The front of the walks of a graph that are due within the bound: in order, exactly the labels that no other one covers, so that each label is
-- covered by one of them.
pub record IsMergedFront (g : Digraph) (bound : ℕ) (front : List FrontEntry) : Type 0 where
  pub ordered : AllNeighbours IsNextEntry front
  pub exact : IsExactFront bound g front
  pub covers : CoversAll (IsWalkEntry g bound) front
  pub counted : IsCounted front
