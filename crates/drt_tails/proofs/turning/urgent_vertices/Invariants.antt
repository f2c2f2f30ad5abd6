use Rattle.std.proofs.Common.{◌≡◌, map, take}
use Rattle.drt_tails.specs.Turned.{urgent}
use Rattle.drt_tails.proofs.turning.urgent_vertices.Given as goal

abbrev pub invariant-vertices : goal.invariant-vertices
invariant-vertices l = l.vertices.items ≡ map urgent (take l.v l.graph.vertices)
