use Rattle.std.proofs.Common.{refl}
use Rattle.drt_evidence.proofs.Forms.{line_is, line_other, line_broken}
use Rattle.drt_evidence.proofs.Shapes.{search_shape}
use Rattle.drt_evidence.proofs.reading.line_forms.search_of.Goals as goal

pub returns-in_err-rest : goal.returns-in_err-rest
returns-in_err-rest c = rw c.from_residual.ensures (line_other search_shape c.args.line.now c.in_err-rest.ensures)

pub returns-in_err-task : goal.returns-in_err-task
returns-in_err-task c = rw c.from_residual-in_err-task.ensures (line_broken search_shape c.args.line.now c.in_ok-rest.rest.now c.in_ok-rest.ensures c.in_err-task.ensures)

pub returns : goal.returns
returns c =
    let s = c.in_ok-task in
    line_is search_shape c.args.line.now c.in_ok-rest.rest.now (s.task, (s.vertex, s.count)) (record { task = s.task; vertex = s.vertex; count = s.count })
    c.in_ok-rest.ensures s.ensures refl
