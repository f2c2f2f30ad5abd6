use Rattle.drt_evidence.proofs.Unique.{one_dossier}
use Rattle.drt_evidence.proofs.laws.texts_tell_dossiers.Goals as goal

pub returns : goal.returns
returns c = one_dossier
