use Rattle.std.proofs.Common.{refl}
use Rattle.drt_evidence.proofs.Forms.{line_is, line_other, line_broken}
use Rattle.drt_evidence.proofs.Shapes.{miss_shape}
use Rattle.drt_evidence.proofs.reading.line_forms.miss_of.Goals as goal

pub returns-in_err-rest : goal.returns-in_err-rest
returns-in_err-rest c = rw c.from_residual.ensures (line_other miss_shape c.args.line.now c.in_err-rest.ensures)

pub returns-in_err-task : goal.returns-in_err-task
returns-in_err-task c = rw c.from_residual-in_err-task.ensures (line_broken miss_shape c.args.line.now c.in_ok-rest.rest.now c.in_ok-rest.ensures c.in_err-task.ensures)

pub returns : goal.returns
returns c =
    line_is miss_shape c.args.line.now c.in_ok-rest.rest.now (c.in_ok-task.task, (c.in_ok-task.index, c.in_ok-task.deadline))
    (record { task = c.in_ok-task.task; index = c.in_ok-task.index; deadline = c.in_ok-task.deadline }) c.in_ok-rest.ensures c.in_ok-task.ensures refl
