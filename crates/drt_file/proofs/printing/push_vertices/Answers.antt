use Rattle.drt_file.specs.trusted.Canonical.{vertex_line}
use Rattle.drt_file.proofs.Joins.{line_more}
use Rattle.drt_file.proofs.printing.push_vertices.Goals as goal

pub loop-vertex-preserved : goal.loop-vertex-preserved
loop-vertex-preserved c =
    line_more vertex_line c.args.text.now.items c.loop-vertex.text.items c.push_vertex.new.text.items c.args.vertices.now c.loop-vertex.vertex-index
    c.vertex-item.result c.loop-vertex-test.true c.vertex-item.is c.loop-vertex.invariant c.in_ok-push_vertex.ensures
