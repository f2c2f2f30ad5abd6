use Rattle.std.proofs.Common.{refl}
use Rattle.drt_evidence.proofs.Forms.{line_is, line_other, line_broken}
use Rattle.drt_evidence.proofs.Shapes.{entry_shape}
use Rattle.drt_evidence.proofs.reading.line_forms.entry_of.Goals as goal

pub returns-in_err-rest : goal.returns-in_err-rest
returns-in_err-rest c = rw c.from_residual.ensures (line_other entry_shape c.args.line.now c.in_err-rest.ensures)

pub returns-in_err-vertex : goal.returns-in_err-vertex
returns-in_err-vertex c = rw c.from_residual-in_err-vertex.ensures (line_broken entry_shape c.args.line.now c.in_ok-rest.rest.now c.in_ok-rest.ensures c.in_err-vertex.ensures)

pub returns : goal.returns
returns c =
    line_is entry_shape c.args.line.now c.in_ok-rest.rest.now (c.in_ok-vertex.vertex, (c.in_ok-vertex.offset, c.in_ok-vertex.work))
    (record { vertex = c.in_ok-vertex.vertex; offset = c.in_ok-vertex.offset; work = c.in_ok-vertex.work }) c.in_ok-rest.ensures c.in_ok-vertex.ensures refl
