-- What is written is the verdict.
use Rattle.std.proofs.Common.{◌≡◌, ◌⊎◌, ℕ, List, Result, Ok, Err, IfOk, inl, inr, refl}
use Rattle.drt_model.specs.Contents.{Contents}
use Rattle.drt_model.specs.Schedulable.{Schedulable}
use Rattle.drt_model.specs.declared.jobs.Policy.{Policy}
use Rattle.drt_model.specs.declared.jobs.Policy.TheVariants.{Edf}
use Rattle.drt_claims.specs.declared.evidence.Evidence.TheVariants.{EdfYes, EdfNo, UtilisationOne, Undecided}
use Rattle.drt_outcome.specs.declared.outcome.Trail.{Trail}
use Rattle.drt_command.specs.declared.report.Report.{Report}
use Rattle.drt_command.specs.declared.report.Unmade.{Unmade}
use Rattle.drt_command_files.specs.AtOne.{IsUtilisationOne}
use Rattle.drt_command_files.specs.Verdicts.{IsAbout, SetVerdict}
use Rattle.drt_command_files.proofs.Abouts.{about_of}
use Rattle.drt_command_files.proofs.AtOneLemmas.{one_of}
use Rattle.drt_command_edf.specs.Besides.{Besides, under_edf}
use Rattle.drt_command_edf.specs.Edf.{edf_rules}
use Rattle.drt_command_edf.proofs.EdfLemmas.{IsEdfAnswer}

-- What the status says under EDF.
abbrev Says : Contents → ℕ → Type 0
Says set status =
    ((status ≡ 0) × Schedulable set.tasks Edf)
    ⊎ (((status ≡ 1) × ¬ Schedulable set.tasks Edf)
    ⊎ (((status ≡ 2) × ◌≡◌ {A = Policy} Edf Edf × IsUtilisationOne set.tasks)
    ⊎ (status ≡ 3)))

says : (set : Contents) (budget status : ℕ) (written : List ℕ) (trail : Trail) → IsEdfAnswer set budget status written trail → IsAbout Edf set written × Says set status
says set budget status written trail (inl a) = (about_of (under_edf set (EdfYes a.1.ratios a.1.fronts)) written a.1.is.is, inl (a.0, a.1.yes.schedulable))
says set budget status written trail (inr (inl a)) = (about_of (under_edf set (EdfNo a.1.releases a.1.miss)) written a.1.is.is, inr (inl (a.0, a.1.no.not_schedulable)))
says set budget status written trail (inr (inr (inl a))) =
    let about = about_of (under_edf set (UtilisationOne a.1.ratios)) written a.1.is.is in
    (about, inr (inr (inl (a.0, refl, one_of set.version set.tasks about.reads.limits.each a.1.one.at_one))))
says set budget status written trail (inr (inr (inr a))) = (about_of (under_edf set Undecided) written a.1.is, inr (inr (inr a.0)))

verdict_of : (budget : ℕ) (bytes : List ℕ) (m : Report) → Besides budget bytes m → SetVerdict Edf bytes m
verdict_of budget bytes m d =
    let s = says d.set budget m.status m.text m.trail d.answer in
    record { set = d.set; accepted = d.accepted; about = s.0; answer = s.1 }

-- What stands besides has its verdict.
pub with_verdict : (budget : ℕ) (bytes : List ℕ) (r : Result Report Unmade) → IfOk r (Besides budget bytes) → IfOk r ((edf_rules budget).makes bytes)
with_verdict budget bytes (Ok m) d = (verdict_of budget bytes m d, d)
with_verdict budget bytes (Err e) d = tt
