-- What the graphs of a task set keep.
use Rattle.std.specs.Prelude.{ℕ, ◌≤◌, List, [], length, All, slice_index_or}
use Rattle.drt_model.specs.Digraph.{Digraph, IsSoundGraph, IsConstrainedGraph}

-- What stands for a graph past the last one.
abbrev pub no_graph : Digraph
no_graph = record { vertices = []; out = [] }

-- The graph of the task of number i.
abbrev pub graph_of : List Digraph → ℕ → Digraph
graph_of graphs i = slice_index_or graphs i no_graph

-- There are 1 to 32 graphs, each keeps the limits, and on each edge the deadline of the source is at most the separation.
pub record AreGraphs (graphs : List Digraph) : Type 0 where
  pub some : 1 ≤ length graphs
  pub few : length graphs ≤ 32
  pub sound : All IsSoundGraph graphs
  pub constrained : All IsConstrainedGraph graphs
