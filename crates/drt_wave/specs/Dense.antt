-- The cells of a table that was worked to its end.
use Rattle.std.specs.Prelude.{◌≡◌, ℕ, ◌<◌, ◌≤◌, List, [], length, slice_index, slice_index_or, Option, Some, None}
use Rattle.std.specs.Mem.Slots.{slots_items}
use Rattle.std.specs.declared.alloc.Global.{Global}
use Rattle.atomic_table.specs.declared.owned.Closed.{Closed}
use Rattle.drt_model.specs.Digraph.{vertex_count}
use Rattle.drt_wave.specs.declared.plan.Plan.{Plan}
use Rattle.drt_wave.specs.Net.{IsGreatestReaching}
use Rattle.drt_wave.specs.Cells.{cell_at, net_of, width}

-- the words of a lane's table that is closed, and none where there is no table
abbrev pub cells_of : Option (Closed (Unit {0}) Global) → List ℕ
cells_of None = []
cells_of (Some closed) = slots_items closed.words

-- What the table is of, and the cells of each vertex.
pub record Dense : Type 0 where
  pub plan : Plan
  pub columns : List (List ℕ)

-- Each cell holds the greatest work that reaches it.
abbrev pub AreBest : Plan → List (List ℕ) → Type 0
AreBest p columns = (v s : ℕ) → v < vertex_count p.graph → s ≤ p.bound → IsGreatestReaching (net_of p) (cell_at p v s) (slice_index (slice_index_or columns v []) s)

-- There is a list for each vertex, with as many cells as there are offsets.
abbrev pub AreWhole : Plan → List (List ℕ) → Type 0
AreWhole p columns = (length columns ≡ vertex_count p.graph) × ((v : ℕ) → v < length columns → length (slice_index_or columns v []) ≡ width p)

-- What the cell of a vertex and an offset holds.
abbrev pub work_at : Dense → ℕ → ℕ → ℕ
work_at d v s = slice_index (slice_index_or d.columns v []) s
