-- Labels of walks, as the entries of a front give them.
use Rattle.std.specs.Prelude.{◌≡◌, ℕ, ◌+◌, ◌≤◌, ◌<◌, ◌⊎◌}
use Rattle.drt_graph.specs.declared.front.FrontEntry.{FrontEntry}
use Rattle.drt_model.specs.Digraph.{Digraph}
use Rattle.drt_model.specs.Walk.{deadline}

-- When the last job of an entry's walk is due: its offset and its vertex's deadline.
abbrev pub due : Digraph → FrontEntry → ℕ
due g e = e.offset + deadline g e.vertex

-- The next entry is of a later vertex, or of the same one with a greater offset and a greater work.
abbrev pub IsNextEntry : FrontEntry → FrontEntry → Type 0
IsNextEntry d e = (d.vertex < e.vertex) ⊎ ((d.vertex ≡ e.vertex) × (d.offset < e.offset) × (d.work < e.work))

-- The entry is of that vertex, has at most that offset and at least that work.
abbrev pub Covers : ℕ → ℕ → ℕ → FrontEntry → Type 0
Covers vertex offset work e = (e.vertex ≡ vertex) × (e.offset ≤ offset) × (work ≤ e.work)
