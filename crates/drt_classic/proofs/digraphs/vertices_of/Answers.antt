use Rattle.std.proofs.Common.{◌∙◌}
use Rattle.drt_classic.specs.Digraphs.{vertices_from}
use Rattle.drt_classic.proofs.Loops.{vertices_more, vertices_all}
use Rattle.drt_classic.proofs.digraphs.vertices_of.Goals as goal

pub loop-i-preserved : goal.loop-i-preserved
loop-i-preserved c =
    rw (c.in_ok-push.ensures.items, c.in_ok-vertex_name.ensures)
    (vertices_more c.loop-i.vertices.items c.args.frames.now c.loop-i.i _ (vertices_from 0 c.args.frames.now) c.loop-i-test.true c.loop-i.invariant)

pub returns : goal.returns
returns c = c.from_vec.ensures ∙ vertices_all c.loop-i.vertices.items c.args.frames.now c.loop-i.i (vertices_from 0 c.args.frames.now) c.loop-i-test.false c.loop-i.invariant
