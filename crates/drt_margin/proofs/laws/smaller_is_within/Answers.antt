use Rattle.drt_margin.proofs.Within.{all_smaller}
use Rattle.drt_margin.proofs.laws.smaller_is_within.Goals as goal

pub returns : goal.returns
returns c = all_smaller
