-- The vertices so far are placed.
use Rattle.std.specs.List.{All}
use Rattle.drt_fixed.specs.Searching.{IsVertexPlaced}
use Rattle.drt_fixed.proofs.vertices.add_vertices.Given as goal

abbrev pub invariant-loop-vertex : goal.invariant-loop-vertex
invariant-loop-vertex l = All (IsVertexPlaced l.given) l.vertices.items
