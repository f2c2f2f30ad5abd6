use Rattle.std.proofs.Common.{◌≡◌, ◌++◌, map, take}
use Rattle.drt_file.specs.trusted.Canonical.{written, vertex_line}
use Rattle.drt_file.proofs.printing.push_vertices.Given as goal

abbrev pub invariant-loop-vertex : goal.invariant-loop-vertex
invariant-loop-vertex l = l.text.items ≡ l.initial.text.items ++ written (map vertex_line (take l.vertex-index l.vertices))
