-- What is promised of `sp` agrees.
use Rattle.std.proofs.Common.{◌≡◌, ◌<◌, ◌⊎◌, ℕ, List, Option, Result, Ok, Err, IfOk, inl, inr, refl, ap, sym, subst, arith}
use Rattle.drt_model.specs.Contents.{Contents}
use Rattle.drt_model.specs.Limits.{IsTaskSet}
use Rattle.drt_file.specs.trusted.Laws.{TextsReadAsOneSet}
use Rattle.drt_claims.specs.Ranges.{IsEvidenceInRange}
use Rattle.drt_evidence.specs.Text.{text}
use Rattle.drt_claims.specs.declared.evidence.Evidence.{Evidence}
use Rattle.drt_claims.specs.declared.evidence.Evidence.TheVariants.{EdfYes, EdfNo, UtilisationOne, FixedYes, FixedStates, FixedNo, Undecided}
use Rattle.drt_command.specs.declared.report.Report.{Report}
use Rattle.drt_command.specs.declared.report.Unmade.{Unmade}
use Rattle.drt_command.specs.Rules.{AreLawful}
use Rattle.drt_outcome.specs.declared.outcome.Trail.{Trail}
use Rattle.drt_outcome.specs.declared.outcome.Trail.TheVariants as trails
use Rattle.drt_fixed.specs.Answers.{IsSaid}
use Rattle.drt_sp.specs.Evidence.{under_fixed}
use Rattle.drt_sp.specs.Laws.{BudgetsSuffice}
use Rattle.drt_trails.specs.declared.FixedTrail.{FixedTrail}
use Rattle.drt_command_files.specs.Dossiers.{evidence_status}
use Rattle.drt_command_files.specs.TaskFiles.{IsAccepted}
use Rattle.drt_command_sp.specs.Besides.{Besides, IsSpNoText, IsSpUndecidedText, IsSpYesText, trail_after}
use Rattle.drt_command_sp.specs.Sp.{SpEnds, sp_rules}
use Rattle.drt_command_files.proofs.TaskFileLemmas.{accepted_one, accepted_well, fault_one, long_file}

-- The answer, by its parts.
abbrev pub IsSpAnswer : Contents → ℕ → ℕ → List ℕ → Trail → Type 0
IsSpAnswer set budget status written trail =
    ((status ≡ 0) × IsSpYesText set written × (trail ≡ trails.Nothing))
    ⊎ (((status ≡ 1) × IsSpNoText set written × (trail ≡ trails.Nothing))
    ⊎ ((status ≡ 3) × IsSpUndecidedText set budget written trail))

-- The answer of what is said with evidence and a trail.
answer_is : (set : Contents) (budget : ℕ) (evidence : Evidence) (trail : Option FixedTrail) → IsTaskSet set.version set.tasks
    → IsSaid set budget evidence trail → IsEvidenceInRange evidence
    → IsSpAnswer set budget (evidence_status evidence) (text (under_fixed set evidence)) (trail_after trail)
answer_is set budget (EdfYes ratios fronts) trail limits said range = absurd said
answer_is set budget (EdfNo releases miss) trail limits said range = absurd said
answer_is set budget (UtilisationOne ratios) trail limits said range = absurd said
answer_is set budget (FixedYes trees proofs) trail limits said range =
    inl (refl, record { evidence = FixedYes trees proofs; yes = said.1; is = record { stated = (limits, range); is = refl } }, ap trail_after said.0)
answer_is set budget (FixedStates tails searches) trail limits said range =
    inl (refl, record { evidence = FixedStates tails searches; yes = said.1; is = record { stated = (limits, range); is = refl } }, ap trail_after said.0)
answer_is set budget (FixedNo releases miss) trail limits said range =
    inr (inl (refl, record { releases = releases; miss = miss; no = said.1; is = record { stated = (limits, range); is = refl } }, ap trail_after said.0))
answer_is set budget Undecided trail limits said range =
    inr (inr (refl, record { spent = said.0; cause = said.2; trail_is = ap trail_after said.1; is = record { stated = (limits, range); is = refl } }))

-- It is the answer of the report that is made of them.
pub analysed : (bytes : List ℕ) (set : Contents) (budget : ℕ) (evidence : Evidence) (trail : Option FixedTrail) → IsAccepted bytes set
    → IsSaid set budget evidence trail → IsEvidenceInRange evidence → (r : Result Report Unmade)
    → IfOk r (λ m. m ≡ record { status = evidence_status evidence; text = text (under_fixed set evidence); trail = trail_after trail })
    → IfOk r (Besides budget bytes)
analysed bytes set budget evidence trail accepted said range (Ok m) is =
    subst (Besides budget bytes) (sym is)
    (record { set = set; accepted = accepted; answer = answer_is set budget evidence trail accepted.reads.limits said range })
analysed bytes set budget evidence trail accepted said range (Err e) is = tt

answer_low : (set : Contents) (budget status : ℕ) (written : List ℕ) (trail : Trail) → IsSpAnswer set budget status written trail → status < 4
answer_low set budget status written trail (inl a) = omega (arith, a.0)
answer_low set budget status written trail (inr (inl a)) = omega (arith, a.0)
answer_low set budget status written trail (inr (inr a)) = omega (arith, a.0)

module _ (law : TextsReadAsOneSet) (suffice : BudgetsSuffice) (b : ℕ) where
  answer_ends : (set : Contents) → IsTaskSet set.version set.tasks → (status : ℕ) (written : List ℕ) (trail : Trail) → IsSpAnswer set b status written trail → SpEnds set b status
  answer_ends set limits status written trail (inl a) = λ enough. inl (a.0, a.1.yes.schedulable)
  answer_ends set limits status written trail (inr (inl a)) = λ enough. inr (a.0, a.1.no.not_schedulable)
  answer_ends set limits status written trail (inr (inr a)) = λ enough. absurd (suffice set b a.1.spent limits a.1.cause enough)

  pub sp_lawful : AreLawful (sp_rules b)
  sp_lawful = record {
    low = λ bytes m d. answer_low d.1.set b m.status m.text m.trail d.1.answer;
    apart = λ bytes m f d h. accepted_well law bytes d.1.set f d.1.accepted h;
    one_fault = λ bytes f g h k. fault_one law bytes f g h k;
    longer = λ bytes f h. long_file bytes f h;
    made_ends = λ bytes m d set a.
        answer_ends set a.reads.limits m.status m.text m.trail (subst (λ s. IsSpAnswer s b m.status m.text m.trail) (accepted_one law bytes d.1.set set d.1.accepted a) d.1.answer);
    refused_ends = λ bytes f h set a. absurd (accepted_well law bytes set f a h);
  }
