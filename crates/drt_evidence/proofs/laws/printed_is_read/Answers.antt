use Rattle.std.proofs.Common.{refl}
use Rattle.drt_evidence.specs.Text.{text}
use Rattle.drt_evidence.proofs.Unique.{one_dossier}
use Rattle.drt_evidence.proofs.laws.printed_is_read.Goals as goal

pub returns : goal.returns
returns c = λ s is. (record { stated = is; is = refl }, λ other reads. one_dossier (text s) other s reads (record { stated = is; is = refl }))
