-- What is promised of `response` agrees. A no is that of `sp`.
use Rattle.std.proofs.Common.{◌≡◌, ◌<◌, ◌⊎◌, ℕ, List, Result, Ok, Err, IfOk, inl, inr, refl, sym, subst, arith}
use Rattle.drt_model.specs.Contents.{Contents}
use Rattle.drt_model.specs.Limits.{IsTaskSet}
use Rattle.drt_file.specs.trusted.Laws.{TextsReadAsOneSet}
use Rattle.drt_evidence.specs.Text.{text}
use Rattle.drt_claims.specs.declared.evidence.Evidence.{Evidence}
use Rattle.drt_claims.specs.declared.evidence.Evidence.TheVariants.{FixedNo}
use Rattle.drt_command.specs.declared.report.Report.{Report}
use Rattle.drt_command.specs.declared.report.Unmade.{Unmade}
use Rattle.drt_command.specs.Rules.{AreLawful}
use Rattle.drt_outcome.specs.declared.outcome.Trail.{Trail}
use Rattle.drt_outcome.specs.declared.outcome.Trail.TheVariants as trails
use Rattle.drt_response.specs.Answers.{AreResponses, IsRefused}
use Rattle.drt_response.specs.Laws.{ResponseBudgetsSuffice}
use Rattle.drt_responses.specs.Text.{response_text}
use Rattle.drt_responses.specs.declared.response.Response.{Response}
use Rattle.drt_sp.specs.Evidence.{under_fixed}
use Rattle.drt_command_files.specs.Dossiers.{evidence_status}
use Rattle.drt_command_files.specs.TaskFiles.{IsAccepted}
use Rattle.drt_command_response.specs.Besides.{Besides, IsResponseText, IsResponseUndecidedText}
use Rattle.drt_command_response.specs.Response.{response_rules}
use Rattle.drt_command_sp.specs.Besides.{IsSpNoText}
use Rattle.drt_command_sp.specs.Sp.{SpEnds}
use Rattle.drt_command_files.proofs.TaskFileLemmas.{accepted_one, accepted_well, fault_one, long_file}

-- The answer, by its parts.
abbrev pub IsResponseAnswer : Contents → ℕ → ℕ → List ℕ → Trail → Type 0
IsResponseAnswer set budget status written trail =
    ((status ≡ 0) × IsResponseText set written × (trail ≡ trails.Nothing))
    ⊎ (((status ≡ 1) × IsSpNoText set written × (trail ≡ trails.Nothing))
    ⊎ ((status ≡ 3) × IsResponseUndecidedText set budget written trail))

-- The answer of the responses is that of the report that is made of them.
pub done_responds : (bytes : List ℕ) (set : Contents) (budget : ℕ) (responses : List Response) → IsAccepted bytes set → AreResponses set responses
    → (r : Result Report Unmade) → IfOk r (λ m. m ≡ record { status = 0; text = response_text responses; trail = trails.Nothing })
    → IfOk r (Besides budget bytes)
done_responds bytes set budget responses accepted are (Ok m) is =
    subst (Besides budget bytes) (sym is)
    (record { set = set; accepted = accepted; answer = inl (refl, record { responses = responses; are = are; text_is = refl }, refl) })
done_responds bytes set budget responses accepted are (Err e) is = tt

-- The answer of a no is that of the report that is made of its evidence.
pub missed_responds : (bytes : List ℕ) (set : Contents) (budget : ℕ) (evidence : Evidence) → IsAccepted bytes set → IsRefused set evidence
    → (r : Result Report Unmade) → IfOk r (λ m. m ≡ record { status = evidence_status evidence; text = text (under_fixed set evidence); trail = trails.Nothing })
    → IfOk r (Besides budget bytes)
missed_responds bytes set budget evidence accepted refused (Ok m) is =
    let no : IsSpNoText set (text (under_fixed set (FixedNo refused.releases refused.miss))) = record {
      releases = refused.releases;
      miss = refused.miss;
      no = refused.no;
      is = record { stated = (accepted.reads.limits, refused.in_range); is = refl };
    } in
    let made : m ≡ record { status = 1; text = text (under_fixed set (FixedNo refused.releases refused.miss)); trail = trails.Nothing } = rw refused.evidence_is at is in
    subst (Besides budget bytes) (sym made) (record { set = set; accepted = accepted; answer = inr (inl (refl, no, refl)) })
missed_responds bytes set budget evidence accepted refused (Err e) is = tt

answer_low : (set : Contents) (budget status : ℕ) (written : List ℕ) (trail : Trail) → IsResponseAnswer set budget status written trail → status < 4
answer_low set budget status written trail (inl a) = omega (arith, a.0)
answer_low set budget status written trail (inr (inl a)) = omega (arith, a.0)
answer_low set budget status written trail (inr (inr a)) = omega (arith, a.0)

module _ (law : TextsReadAsOneSet) (suffice : ResponseBudgetsSuffice) (b : ℕ) where
  answer_ends : (set : Contents) → IsTaskSet set.version set.tasks → (status : ℕ) (written : List ℕ) (trail : Trail)
      → IsResponseAnswer set b status written trail → SpEnds set b status
  answer_ends set limits status written trail (inl a) = λ enough. inl (a.0, a.1.are.schedulable)
  answer_ends set limits status written trail (inr (inl a)) = λ enough. inr (a.0, a.1.no.not_schedulable)
  answer_ends set limits status written trail (inr (inr a)) = λ enough. absurd (suffice set b a.1.spent limits a.1.cause enough)

  -- What is made, what is refused and with which status it ends agree.
  pub response_lawful : AreLawful (response_rules b)
  response_lawful = record {
    low = λ bytes m d. answer_low d.1.set b m.status m.text m.trail d.1.answer;
    apart = λ bytes m f d h. accepted_well law bytes d.1.set f d.1.accepted h;
    one_fault = λ bytes f g h k. fault_one law bytes f g h k;
    longer = λ bytes f h. long_file bytes f h;
    made_ends = λ bytes m d set a.
        answer_ends set a.reads.limits m.status m.text m.trail
        (subst (λ s. IsResponseAnswer s b m.status m.text m.trail) (accepted_one law bytes d.1.set set d.1.accepted a) d.1.answer);
    refused_ends = λ bytes f h set a. absurd (accepted_well law bytes set f a h);
  }
