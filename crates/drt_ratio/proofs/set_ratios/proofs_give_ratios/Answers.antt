use Rattle.drt_ratio.proofs.Scales.{proofs_give_ratios}
use Rattle.drt_ratio.proofs.set_ratios.proofs_give_ratios.Goals as goal

pub returns : goal.returns
returns c = proofs_give_ratios
