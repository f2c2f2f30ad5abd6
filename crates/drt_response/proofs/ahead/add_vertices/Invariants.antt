-- The vertices so far are the set's.
use Rattle.std.specs.List.{All}
use Rattle.drt_response.specs.Subjects.{IsVertexAt}
use Rattle.drt_response.proofs.ahead.add_vertices.Given as goal

abbrev pub invariant-vertices : goal.invariant-vertices
invariant-vertices l = All (IsVertexAt l.given) l.vertices.items
