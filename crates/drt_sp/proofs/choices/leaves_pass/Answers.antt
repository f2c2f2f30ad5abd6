use Rattle.drt_sp.proofs.Covered.{leaves_pass}
use Rattle.drt_sp.proofs.choices.leaves_pass.Goals as goal

pub returns : goal.returns
returns c = leaves_pass
