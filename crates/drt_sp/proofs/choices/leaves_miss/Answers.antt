use Rattle.drt_sp.proofs.Missed.{leaves_miss}
use Rattle.drt_sp.proofs.choices.leaves_miss.Goals as goal

pub returns : goal.returns
returns c = leaves_miss c.requests_miss.ensures c.times_suffice_for_task.ensures
