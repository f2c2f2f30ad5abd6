use Rattle.std.proofs.Common.{◌≡◌, ◌++◌, drop}
use Rattle.drt_classic.specs.Digraphs.{frame_edges, frames_after}
use Rattle.drt_classic.proofs.digraphs.edges_of.Given as goal

abbrev pub invariant-loop-i : goal.invariant-loop-i
invariant-loop-i l = l.edges.items ++ frame_edges (frames_after l.task) l.i (drop l.i l.frames) ≡ frame_edges (frames_after l.task) 0 l.frames
