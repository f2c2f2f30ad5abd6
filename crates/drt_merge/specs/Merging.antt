-- Lists while they are merged, and merged lists.
use Rattle.std.specs.Prelude.{◌≡◌, ℕ, ◌+◌, ◌<◌, ◌≤◌, ◌⊎◌, List, length, slice_index, Option, Some, None}
use Rattle.drt_model.specs.Digraph.{Digraph, vertex_count, out_degree}
use Rattle.drt_merge.specs.declared.mark.Mark.{Mark}
use Rattle.drt_merge.specs.declared.arcs.Arc.{Arc}
use Rattle.drt_merge.specs.Arcs.{arc_at, arc_of, extended}
use Rattle.drt_merge.specs.Marks.{row, mark_at, IsCovered, AreRows, AreOpenedTo}

-- The cursor of each arc stands in the list of its source, and what the marks before it give is covered in the list of its target.
pub record AreTaken (arcs : List Arc) (lists : List (List Mark)) (cursors : List ℕ) : Type 0 where
  pub count : length cursors ≡ length arcs
  pub within : (k : ℕ) → k < length arcs → slice_index cursors k ≤ length (row lists (arc_at arcs k).source)
  pub covered : (k i : ℕ) → k < length arcs → i < slice_index cursors k
      → IsCovered (row lists (arc_at arcs k).target) (extended (arc_at arcs k) (mark_at (row lists (arc_at arcs k).source) i))

-- The invariant of merging: the marks are of walks, cover the walks of one vertex, and cover what the cursors have passed.
pub record IsMerging (g : Digraph) (bound : ℕ) (arcs : List Arc) (lists : List (List Mark)) (cursors : List ℕ) : Type 0 where
  pub rows : AreRows g bound lists
  pub opened : AreOpenedTo g bound (vertex_count g) lists
  pub taken : AreTaken arcs lists cursors

-- The candidate of an arc, by the mark at a place of its source: None where there is no mark, or where it isn't due within the bound.
abbrev pub IsCandidate : ℕ → List (List Mark) → Arc → ℕ → Option Mark → Type 0
IsCandidate bound lists a place None =
    (length (row lists a.source) ≤ place) ⊎ (bound < (mark_at (row lists a.source) place).offset + a.sep + a.deadline)
IsCandidate bound lists a place (Some m) =
    (place < length (row lists a.source)) × (m ≡ extended a (mark_at (row lists a.source) place)) × (m.offset + a.deadline ≤ bound)

-- The target of an arc covers what the marks of its source from one place on and below another give.
abbrev pub AreCoveredFrom : List (List Mark) → Arc → ℕ → ℕ → Type 0
AreCoveredFrom lists a from to = (i : ℕ) → from ≤ i → i < to → IsCovered (row lists a.target) (extended a (mark_at (row lists a.source) i))

-- No arc below n has a candidate.
abbrev pub AreSpentTo : ℕ → List Arc → List (List Mark) → List ℕ → ℕ → Type 0
AreSpentTo bound arcs lists cursors n = (k : ℕ) → k < n → IsCandidate bound lists (arc_at arcs k) (slice_index cursors k) None

-- Merged lists: the label of each mark, extended by an edge, is due past the bound or covered.
pub record AreMerged (g : Digraph) (bound : ℕ) (lists : List (List Mark)) : Type 0 where
  pub rows : AreRows g bound lists
  pub opened : AreOpenedTo g bound (vertex_count g) lists
  pub closed : (v i j : ℕ) → v < vertex_count g → i < length (row lists v) → j < out_degree g v
      → (bound < (mark_at (row lists v) i).offset + (arc_of g v j).sep + (arc_of g v j).deadline)
      ⊎ IsCovered (row lists (arc_of g v j).target) (extended (arc_of g v j) (mark_at (row lists v) i))
