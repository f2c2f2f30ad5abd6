-- The vertices so far are placed.
use Rattle.std.specs.List.{All}
use Rattle.drt_fixed.specs.Searching.{IsVertexPlaced}
use Rattle.drt_fixed.proofs.vertices.list_vertices.Given as goal

abbrev pub invariant-loop-place : goal.invariant-loop-place
invariant-loop-place l = All (IsVertexPlaced l.given) l.vertices.items
