use Rattle.std.proofs.Common.{◌∙◌}
use Rattle.drt_classic.specs.Digraphs.{frame_edges, frames_after}
use Rattle.drt_classic.proofs.Loops.{edges_more, edges_all}
use Rattle.drt_classic.proofs.digraphs.edges_of.Goals as goal

pub loop-i-preserved : goal.loop-i-preserved
loop-i-preserved c =
    rw (c.in_ok-push_edges.ensures, c.as_slice.ensures.value, c.in_ok-after.ensures)
    (edges_more (frames_after c.args.task.now) c.loop-i.edges.items c.args.frames.now c.loop-i.i _ (frame_edges (frames_after c.args.task.now) 0 c.args.frames.now)
    c.loop-i-test.true c.loop-i.invariant)

pub returns : goal.returns
returns c =
    c.from_vec.ensures ∙ edges_all (frames_after c.args.task.now) c.loop-i.edges.items c.args.frames.now c.loop-i.i (frame_edges (frames_after c.args.task.now) 0 c.args.frames.now)
    c.loop-i-test.false c.loop-i.invariant
