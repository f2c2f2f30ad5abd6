-- Claimed fronts: for each task labels that are to dominate the labels of all its walks within the horizon.
use Rattle.std.specs.Prelude.{◌≡◌, ℕ, ◌+◌, ◌≤◌, ◌<◌, ◌⊎◌, List, All, Any}
use Rattle.drt_model.specs.Digraph.{Digraph, vertex_count, out_degree, edge_of}
use Rattle.drt_graph.specs.FrontEntry.{due, IsNextEntry, Covers}
use Rattle.drt_model.specs.Walk.{wcet, deadline}
use Rattle.drt_model.specs.Legal.{AllNeighbours}
use Rattle.drt_sweep.specs.Dues.{greatest_due, sum_due}
use Rattle.drt_graph.specs.declared.front.FrontEntry.{FrontEntry}
use Rattle.drt_model.specs.Each.{Each}

-- The entry names a vertex, and its last job is due within the bound.
abbrev pub IsEntryWithin : Digraph → ℕ → FrontEntry → Type 0
IsEntryWithin g bound e = (e.vertex < vertex_count g) × (due g e ≤ bound)

-- The entries are within the bound, and stand in order of vertices and then of offsets; for one vertex their works rise.
abbrev pub IsOrdered : ℕ → Digraph → List FrontEntry → Type 0
IsOrdered bound g front = All (IsEntryWithin g bound) front × AllNeighbours IsNextEntry front

-- The walk of each single vertex that is due within the bound is covered by an entry.
abbrev pub HasOpenings : ℕ → Digraph → List FrontEntry → Type 0
HasOpenings bound g front = (v : ℕ) → v < vertex_count g → deadline g v ≤ bound → Any (Covers v 0 (wcet g v)) front

-- The entry extended by the k-th edge out of its vertex is covered by an entry, or due past the bound.
abbrev pub IsExtended : ℕ → Digraph → List FrontEntry → FrontEntry → ℕ → Type 0
IsExtended bound g front e k =
    (bound < e.offset + (edge_of g e.vertex k).sep + deadline g (edge_of g e.vertex k).to)
    ⊎ Any (Covers (edge_of g e.vertex k).to (e.offset + (edge_of g e.vertex k).sep) (e.work + wcet g (edge_of g e.vertex k).to)) front

-- It is so for each entry and each edge out of its vertex.
abbrev pub IsClosedFront : ℕ → Digraph → List FrontEntry → Type 0
IsClosedFront bound g front = All (λ e. (k : ℕ) → k < out_degree g e.vertex → IsExtended bound g front e k) front

-- The greatest work of an entry that is due by t, and 0 where there is none.
abbrev pub work_due : Digraph → List FrontEntry → ℕ → ℕ
work_due g front t = greatest_due (due g) (λ e. e.work) front t

-- The sum of these over the tasks.
abbrev pub works_due : List Digraph → List (List FrontEntry) → ℕ → ℕ
works_due graphs fronts t = sum_due due (λ e. e.work) graphs fronts t

-- At each time at which an entry is due, the works that are due by then have room.
abbrev pub HaveRoom : List Digraph → List (List FrontEntry) → Type 0
HaveRoom graphs fronts = Each (λ g front. All (λ e. works_due graphs fronts (due g e) ≤ due g e) front) graphs fronts
