use Rattle.drt_busy.proofs.OneTask.{one_task_decides}
use Rattle.drt_busy.proofs.one_task.one_task_decides.Goals as goal

pub returns : goal.returns
returns c = one_task_decides
