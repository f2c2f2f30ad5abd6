-- What a search of a graph's walks is, and what it needs.
use Rattle.std.specs.Prelude.{ℕ, ◌+◌, ◌*◌, ◌≤◌}
use Rattle.drt_wave.specs.Cells.{most_cells}
use Rattle.drt_graph.specs.Degrees.{most_out}
use Rattle.drt_model.specs.Digraph.{Digraph, vertex_count}
use Rattle.drt_table.specs.Machine.{Setting}

-- No search of a graph's walks up to the bound makes so many steps: vertices, times offsets, times what is done at one of them.
abbrev pub table_need : Digraph → ℕ → ℕ
table_need g bound = vertex_count g * (bound + 1) * (most_out g.out + 2)

-- The walks of the graph up to the bound are worked in a wave table: one cell for each vertex and offset, and no budget is spent. So it is
-- where the budget is enough for any search, and there are at most 2^22 cells.
abbrev pub HasWaveTable : Digraph → ℕ → ℕ → Type 0
HasWaveTable g bound budget = (vertex_count g * (bound + 1) ≤ most_cells) × (table_need g bound ≤ budget)
