use Rattle.std.proofs.Common.{◌≡◌, ◌++◌, drop}
use Rattle.drt_classic.specs.Digraphs.{vertices_from}
use Rattle.drt_classic.proofs.digraphs.vertices_of.Given as goal

abbrev pub invariant-loop-i : goal.invariant-loop-i
invariant-loop-i l = l.vertices.items ++ vertices_from l.i (drop l.i l.frames) ≡ vertices_from 0 l.frames
