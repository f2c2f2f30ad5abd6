-- The marks of each vertex.
use Rattle.std.specs.Prelude.{◌≡◌, ℕ, ◌+◌, ◌*◌, ◌<◌, ◌≤◌, List, [], length, slice_index_or, Option, Some, None}
use Rattle.drt_model.specs.Numbers.{most_time}
use Rattle.drt_model.specs.Digraph.{Digraph, vertex_count}
use Rattle.drt_model.specs.Walk.{wcet, deadline}
use Rattle.drt_graph.specs.declared.front.FrontEntry.{FrontEntry}
use Rattle.drt_wave.specs.Fronts.{IsWalkEntry}
use Rattle.drt_merge.specs.declared.mark.Mark.{Mark}

-- What stands for a mark past the last one.
abbrev pub no_mark : Mark
no_mark = record { offset = 0; work = 0 }

-- The marks of vertex v.
abbrev pub row : List (List Mark) → ℕ → List Mark
row lists v = slice_index_or lists v []

-- The mark at a place.
abbrev pub mark_at : List Mark → ℕ → Mark
mark_at marks i = slice_index_or marks i no_mark

-- There are `count` lists, and none has a mark.
abbrev pub AreEmpty : ℕ → List (List Mark) → Type 0
AreEmpty count lists = (length lists ≡ count) × ((v : ℕ) → v < count → row lists v ≡ [])

-- The last mark, where there is one.
abbrev pub IsLastMark : List Mark → Option Mark → Type 0
IsLastMark marks None = length marks ≡ 0
IsLastMark marks (Some m) = (i : ℕ) × (i + 1 ≡ length marks) × (m ≡ mark_at marks i)

-- The first mark has at most the offset of the second, and at least its work.
abbrev pub IsMarkOver : Mark → Mark → Type 0
IsMarkOver a b = (a.offset ≤ b.offset) × (b.work ≤ a.work)

-- The mark at this place covers another one.
pub record IsCovered (marks : List Mark) (m : Mark) : Type 0 where
  pub place : ℕ
  pub there : place < length marks
  pub over : IsMarkOver (mark_at marks place) m

-- The work is at most 1,000,000 for each tick of the offset and one more.
abbrev pub IsSmallMark : Mark → Type 0
IsSmallMark m = m.work ≤ most_time * (m.offset + 1)

-- The label that has this mark.
abbrev pub entry_of : ℕ → Mark → FrontEntry
entry_of v m = record { vertex = v; offset = m.offset; work = m.work }

-- The marks are of walks to v that are due within the bound, and rise in offset and in work.
pub record IsMarkRow (g : Digraph) (bound v : ℕ) (marks : List Mark) : Type 0 where
  pub walks : (i : ℕ) → i < length marks → IsWalkEntry g bound (entry_of v (mark_at marks i))
  pub small : (i : ℕ) → i < length marks → IsSmallMark (mark_at marks i)
  pub offsets : (i j : ℕ) → i < j → j < length marks → (mark_at marks i).offset < (mark_at marks j).offset
  pub works : (i j : ℕ) → i < j → j < length marks → (mark_at marks i).work < (mark_at marks j).work

-- Such a row for each vertex.
pub record AreRows (g : Digraph) (bound : ℕ) (lists : List (List Mark)) : Type 0 where
  pub count : length lists ≡ vertex_count g
  pub each : (v : ℕ) → v < vertex_count g → IsMarkRow g bound v (row lists v)

-- Each mark is where it was.
pub record AreMarksGrown (old new : List (List Mark)) : Type 0 where
  pub count : length new ≡ length old
  pub longer : (v : ℕ) → length (row old v) ≤ length (row new v)
  pub same : (v i : ℕ) → i < length (row old v) → mark_at (row new v) i ≡ mark_at (row old v) i

-- The mark of the walk of one vertex.
abbrev pub opening_mark : Digraph → ℕ → Mark
opening_mark g v = record { offset = 0; work = wcet g v }

-- It is covered for each vertex below n whose job is due within the bound.
abbrev pub AreOpenedTo : Digraph → ℕ → ℕ → List (List Mark) → Type 0
AreOpenedTo g bound n lists = (v : ℕ) → v < n → deadline g v ≤ bound → IsCovered (row lists v) (opening_mark g v)
