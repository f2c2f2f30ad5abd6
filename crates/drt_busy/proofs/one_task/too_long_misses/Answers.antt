use Rattle.drt_busy.proofs.OneTask.{too_long_misses}
use Rattle.drt_busy.proofs.one_task.too_long_misses.Goals as goal

pub returns : goal.returns
returns c = too_long_misses
