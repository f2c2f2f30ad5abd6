-- What is written is the verdict.
use Rattle.std.proofs.Common.{◌≡◌, ◌<◌, ◌⊎◌, ℕ, List, Result, Ok, Err, IfOk, codes, inl, inr, arith}
use Rattle.drt_model.specs.Limits.{IsTaskSet}
use Rattle.drt_model.specs.Schedulable.{Schedulable}
use Rattle.drt_claims.specs.Statement.{Statement}
use Rattle.drt_check.specs.Judging.{IsSoundJudgement}
use Rattle.drt_check.specs.declared.judgement.Judgement.{Judgement}
use Rattle.drt_check.specs.declared.judgement.Judgement.TheVariants as judgements
use Rattle.drt_command.specs.declared.report.Report.{Report}
use Rattle.drt_command.specs.declared.report.Unmade.{Unmade}
use Rattle.drt_command_check.specs.Check.{Checks, check_rules, judged_status, verdict}
use Rattle.drt_command_check.specs.Verdict.{Verdict}
use Rattle.drt_command_files.specs.AtOne.{IsUtilisationOne}
use Rattle.drt_command_files.proofs.Abouts.{about_of}
use Rattle.drt_command_files.proofs.AtOneLemmas.{one_of}

-- What a status and a line say of a dossier.
abbrev Says : Statement → ℕ → List ℕ → Type 0
Says s status line =
    ((status ≡ 0) × (line ≡ codes "schedulable\n") × Schedulable s.set.tasks s.policy)
    ⊎ (((status ≡ 1) × (line ≡ codes "unschedulable\n") × ¬ Schedulable s.set.tasks s.policy)
    ⊎ (((status ≡ 2) × (line ≡ codes "utilisation-one\n") × IsUtilisationOne s.set.tasks)
    ⊎ ((status ≡ 3) × (line ≡ codes "nothing-to-check\n"))))

says : (s : Statement) (j : Judgement) (status : ℕ) (line : List ℕ) → IsTaskSet s.set.version s.set.tasks → IsSoundJudgement s j
    → status ≡ judged_status j → status < 4 → line ≡ verdict j
    → Says s status line
says s judgements.Schedulable status line limits sound is low line_is = inl (is, line_is, sound)
says s judgements.Unschedulable status line limits sound is low line_is = inr (inl (is, line_is, sound))
says s judgements.UtilisationOne status line limits sound is low line_is =
    inr (inr (inl (is, line_is, one_of s.set.version s.set.tasks limits.each sound)))
says s judgements.NothingToCheck status line limits sound is low line_is = inr (inr (inr (is, line_is)))
says s (judgements.Rejected number) status line limits sound is low line_is = absurd (omega (arith, is, low))

verdict_of : (bytes : List ℕ) (m : Report) → Checks bytes m → Verdict bytes m
verdict_of bytes m d =
    let about = about_of d.of.statement bytes d.of.dossier.is in
    record {
      policy = d.of.statement.policy;
      set = d.of.statement.set;
      about = about;
      answer = says d.of.statement d.judgement m.status m.text about.reads.limits d.of.sound d.status_is d.not_rejected d.text_is;
    }

-- What stands besides has its verdict.
pub with_verdict : (bytes : List ℕ) (r : Result Report Unmade) → IfOk r (Checks bytes) → IfOk r (check_rules.makes bytes)
with_verdict bytes (Ok m) d = (verdict_of bytes m d, d)
with_verdict bytes (Err e) d = tt
