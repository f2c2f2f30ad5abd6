use Rattle.std.proofs.Common.{refl}
use Rattle.drt_evidence.proofs.Forms.{line_is, line_other, line_broken}
use Rattle.drt_responses.proofs.Headings.{opening_shape}
use Rattle.drt_responses.proofs.reading.lines.opening_of.Goals as goal

pub returns-in_err-rest : goal.returns-in_err-rest
returns-in_err-rest c = rw c.from_residual.ensures (line_other opening_shape c.args.line.now c.in_err-rest.ensures)

pub returns-in_err-task : goal.returns-in_err-task
returns-in_err-task c = rw c.from_residual-in_err-task.ensures (line_broken opening_shape c.args.line.now c.in_ok-rest.rest.now c.in_ok-rest.ensures c.in_err-task.ensures)

pub returns : goal.returns
returns c =
    let s = c.in_ok-task in
    line_is opening_shape c.args.line.now c.in_ok-rest.rest.now (s.task, (s.vertex, s.ticks)) (record { task = s.task; vertex = s.vertex; ticks = s.ticks })
    c.in_ok-rest.ensures s.ensures refl
