-- The entries of a front that are gathered so far.
use Rattle.std.specs.Prelude.{◌≡◌, ℕ, ◌+◌, ◌*◌, ◌<◌, ◌≤◌, ◌⊎◌, List, length, Contains}
use Rattle.drt_graph.specs.FrontEntry.{IsNextEntry}
use Rattle.drt_model.specs.Digraph.{vertex_count}
use Rattle.drt_model.specs.Legal.{AllNeighbours}
use Rattle.drt_graph.specs.declared.front.FrontEntry.{FrontEntry}
use Rattle.drt_wave.specs.Dense.{Dense, work_at}

-- The entry has the work of its cell, which is more than that of each cell of its vertex at a smaller offset.
pub record IsCellKept (d : Dense) (e : FrontEntry) : Type 0 where
  pub vertex : e.vertex < vertex_count d.plan.graph
  pub offset : e.offset ≤ d.plan.bound
  pub works : e.work ≡ work_at d e.vertex e.offset
  pub some : 0 < e.work
  pub above : (t : ℕ) → t < e.offset → work_at d e.vertex t < e.work

-- The entry is of an earlier vertex than v, or of v with a smaller offset than s.
abbrev pub IsCellBefore : ℕ → ℕ → FrontEntry → Type 0
IsCellBefore v s e = (e.vertex < v) ⊎ ((e.vertex ≡ v) × (e.offset < s))

-- The list has, in order, exactly the entries to be kept before a vertex and an offset. There are no more than cells.
pub record AreCellsGathered (d : Dense) (v s : ℕ) (entries : List FrontEntry) : Type 0 where
  pub kept : (e : FrontEntry) → Contains entries e → IsCellKept d e × IsCellBefore v s e
  pub all : (e : FrontEntry) → IsCellKept d e → IsCellBefore v s e → Contains entries e
  pub ordered : AllNeighbours IsNextEntry entries
  pub few : length entries ≤ v * (d.plan.bound + 1) + s

-- The greatest work of the cells of v at offsets below s, and 0 where there is none.
pub record IsMost (d : Dense) (v s most : ℕ) : Type 0 where
  pub least : (t : ℕ) → t < s → work_at d v t ≤ most
  pub found : 0 < most → (t : ℕ) × (t < s) × (work_at d v t ≡ most)
