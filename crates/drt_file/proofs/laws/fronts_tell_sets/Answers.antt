use Rattle.drt_file.proofs.Fronts.{one_front}
use Rattle.drt_file.proofs.laws.fronts_tell_sets.Goals as goal

pub returns : goal.returns
returns c = one_front
