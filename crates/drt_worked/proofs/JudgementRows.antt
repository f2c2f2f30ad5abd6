-- What judgements say of worked dossiers.
use Rattle.std.proofs.Common.{[], ◌∷◌, refl}
use Rattle.drt_model.specs.declared.jobs.Policy.TheVariants.{Edf}
use Rattle.drt_claims.specs.declared.evidence.Evidence.{Evidence}
use Rattle.drt_check.specs.Judging.{IsStatementJudged, IsSoundJudgement}
use Rattle.drt_check.specs.declared.judgement.Judgement.TheVariants as judgements
use Rattle.drt_rows.proofs.Sets.{too_long}
use Rattle.drt_rows.proofs.SchedulableRows.{short_is_schedulable, too_long_is_not_schedulable}
use Rattle.drt_worked.proofs.DossierRows.{undecided}
use Rattle.drt_worked.proofs.TextRows.{edf_statement}

-- Of a dossier that nothing is decided there is nothing to check.
pub undecided_is_judged : IsStatementJudged undecided judgements.NothingToCheck
undecided_is_judged = refl

-- What a yes says of the dossier that `edf` writes is true.
pub yes_is_sound : IsSoundJudgement edf_statement judgements.Schedulable
yes_is_sound = short_is_schedulable Edf

-- What a yes would say of the vertex (6, 5) is false, and what a no says is true, whatever the evidence.
pub yes_is_not_sound : (evidence : Evidence) → ¬ IsSoundJudgement (record { policy = Edf; set = record { version = 1; tasks = too_long ∷ [] }; evidence = evidence }) judgements.Schedulable
yes_is_not_sound evidence s = too_long_is_not_schedulable Edf s

pub no_is_sound : (evidence : Evidence) → IsSoundJudgement (record { policy = Edf; set = record { version = 1; tasks = too_long ∷ [] }; evidence = evidence }) judgements.Unschedulable
no_is_sound evidence = too_long_is_not_schedulable Edf
