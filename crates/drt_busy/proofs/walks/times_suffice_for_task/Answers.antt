use Rattle.drt_busy.proofs.FixedWalks.{times_suffice_for_task}
use Rattle.drt_busy.proofs.walks.times_suffice_for_task.Goals as goal

pub returns : goal.returns
returns c = times_suffice_for_task
