use Rattle.drt_sp.proofs.Responses.{leaves_respond}
use Rattle.drt_sp.proofs.choices.leaves_respond.Goals as goal

pub returns : goal.returns
returns c = leaves_respond c.response_decides.ensures c.releases_reach.ensures c.times_suffice_for_task.ensures
