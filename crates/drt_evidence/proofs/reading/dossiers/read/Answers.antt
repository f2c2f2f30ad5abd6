use Rattle.std.proofs.Common.{◌<◌, arith, length, subst, sym}
use Rattle.std.proofs.lemmas.Grind.{common_steps}
use Rattle.drt_evidence.specs.Reading.{IsDossierCause}
use Rattle.drt_evidence.proofs.Dossiers.{followed_cause, whole_one}
use Rattle.drt_evidence.proofs.reading.dossiers.read.Goals as goal

pub returns-then-is_empty-clause-found : goal.returns-then-is_empty-clause-found
returns-then-is_empty-clause-found c = λ s is. sym (whole_one c.args.bytes.now c.in-Ok.dossier c.read_dossier.new.from.rest.now c.in-Ok.ensures.read s is)

pub returns-else-is_empty-clause-found : goal.returns-else-is_empty-clause-found
returns-else-is_empty-clause-found c = λ s is.
    let some : 0 < length c.read_dossier.new.from.rest.now = grind (arith, common_steps) in
    absurd ((followed_cause c.args.bytes.now c.in-Ok.dossier c.read_dossier.new.from.rest.now c.in-Ok.ensures.read some).0 s is)

pub returns-else-is_empty-clause-fault : goal.returns-else-is_empty-clause-fault
returns-else-is_empty-clause-fault c =
    let some : 0 < length c.read_dossier.new.from.rest.now = grind (arith, common_steps) in
    subst (IsDossierCause c.args.bytes.now) (sym c.fault.ensures) (followed_cause c.args.bytes.now c.in-Ok.dossier c.read_dossier.new.from.rest.now c.in-Ok.ensures.read some)
