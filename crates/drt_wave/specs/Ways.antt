-- The edges of a graph, as the work on cells follows them.
use Rattle.std.specs.Prelude.{◌≡◌, ℕ, ◌+◌, ◌-◌, ◌<◌, List, [], length, slice_index_or}
use Rattle.drt_model.specs.declared.tasks.Edge.{Edge}
use Rattle.drt_model.specs.Digraph.{vertex_count, out_degree, edge_of}
use Rattle.drt_model.specs.Walk.{wcet, deadline}
use Rattle.drt_wave.specs.declared.plan.Plan.{Plan}
use Rattle.drt_wave.specs.declared.ways.Way.{Way}
use Rattle.drt_wave.specs.Cells.{width}

-- what stands for a way past the last one
abbrev pub no_way : Way
no_way = record { end = 0; vertex = 0; gap = 0; work = 0 }

-- The way is that of the edge: below its end the second job is due within the bound.
pub record IsWay (p : Plan) (e : Edge) (y : Way) : Type 0 where
  pub end : y.end ≡ width p - (e.sep + deadline p.graph e.to)
  pub vertex : y.vertex ≡ e.to
  pub gap : y.gap ≡ e.sep
  pub work : y.work ≡ wcet p.graph e.to

-- They are the ways of the edges out of vertex u.
pub record IsWayRow (p : Plan) (u : ℕ) (ways : List Way) : Type 0 where
  pub count : length ways ≡ out_degree p.graph u
  pub each : (k : ℕ) → k < length ways → IsWay p (edge_of p.graph u k) (slice_index_or ways k no_way)

-- They are the ways out of each vertex.
pub record AreWays (p : Plan) (rows : List (List Way)) : Type 0 where
  pub count : length rows ≡ vertex_count p.graph
  pub each : (u : ℕ) → u < length rows → IsWayRow p u (slice_index_or rows u [])
