use Rattle.std.proofs.Common.{refl}
use Rattle.drt_evidence.proofs.Forms.{line_is, line_other, line_broken}
use Rattle.drt_evidence.proofs.Shapes.{release_shape}
use Rattle.drt_responses.proofs.reading.lines.release_of.Goals as goal

pub returns-in_err-behind_word : goal.returns-in_err-behind_word
returns-in_err-behind_word c = rw c.from_residual.ensures (line_other release_shape c.args.line.now c.in_err-behind_word.ensures)

pub returns-in_err-task : goal.returns-in_err-task
returns-in_err-task c = rw c.from_residual-in_err-task.ensures (line_broken release_shape c.args.line.now c.in_ok-behind_word.field-0.now c.in_ok-behind_word.ensures c.in_err-task.ensures)

pub returns : goal.returns
returns c =
    line_is release_shape c.args.line.now c.in_ok-behind_word.field-0.now (c.in_ok-task.task, (c.in_ok-task.vertex, (c.in_ok-task.time, c.in_ok-task.need)))
    (record { task = c.in_ok-task.task; vertex = c.in_ok-task.vertex; time = c.in_ok-task.time; need = c.in_ok-task.need }) c.in_ok-behind_word.ensures c.in_ok-task.ensures refl
