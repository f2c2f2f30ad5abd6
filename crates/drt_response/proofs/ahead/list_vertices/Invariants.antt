-- The vertices so far are the set's.
use Rattle.std.specs.List.{All}
use Rattle.drt_response.specs.Subjects.{IsVertexAt}
use Rattle.drt_response.proofs.ahead.list_vertices.Given as goal

abbrev pub invariant-tasks : goal.invariant-tasks
invariant-tasks l = All (IsVertexAt l.given) l.vertices.items
