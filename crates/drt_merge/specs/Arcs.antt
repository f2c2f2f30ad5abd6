-- The edges of a graph in one row.
use Rattle.std.specs.Prelude.{◌≡◌, ℕ, ◌+◌, ◌<◌, ◌⊎◌, List, slice_index_or, All, Contains}
use Rattle.drt_model.specs.Digraph.{Digraph, vertex_count, out_degree, edge_of}
use Rattle.drt_model.specs.Walk.{wcet, deadline}
use Rattle.drt_merge.specs.declared.arcs.Arc.{Arc}
use Rattle.drt_merge.specs.declared.mark.Mark.{Mark}

-- What stands for an arc past the last one.
abbrev pub no_arc : Arc
no_arc = record { source = 0; target = 0; sep = 0; wcet = 0; deadline = 0 }

-- The arc of number k.
abbrev pub arc_at : List Arc → ℕ → Arc
arc_at arcs k = slice_index_or arcs k no_arc

-- The k-th edge out of u, with what is read of its target.
abbrev pub arc_of : Digraph → ℕ → ℕ → Arc
arc_of g u k = record { source = u; target = (edge_of g u k).to; sep = (edge_of g u k).sep; wcet = wcet g (edge_of g u k).to; deadline = deadline g (edge_of g u k).to }

-- The arc is an edge of the graph.
pub record IsArc (g : Digraph) (a : Arc) : Type 0 where
  pub number : ℕ
  pub vertex : a.source < vertex_count g
  pub edge : number < out_degree g a.source
  pub is : a ≡ arc_of g a.source number

-- The arcs are edges of the graph, and have those out of the vertices before u and the first k of those out of u.
pub record AreArcsTo (g : Digraph) (u k : ℕ) (arcs : List Arc) : Type 0 where
  pub each : All (IsArc g) arcs
  pub all : (v j : ℕ) → v < vertex_count g → j < out_degree g v → (v < u) ⊎ ((v ≡ u) × (j < k)) → Contains arcs (arc_of g v j)

-- The arcs are the edges of the graph.
pub record AreArcs (g : Digraph) (arcs : List Arc) : Type 0 where
  pub each : All (IsArc g) arcs
  pub all : (v j : ℕ) → v < vertex_count g → j < out_degree g v → Contains arcs (arc_of g v j)

-- The mark of a walk that goes on by an arc.
abbrev pub extended : Arc → Mark → Mark
extended a m = record { offset = m.offset + a.sep; work = m.work + a.wcet }
