-- What is promised of `margin` agrees, and each answer keeps it.
use Rattle.std.proofs.Common.{◌≡◌, ◌<◌, ◌⊎◌, ℕ, Bool, List, Result, Ok, Err, IfOk, inl, inr, refl, ap, sym, subst, arith, ◌∙◌}
use Rattle.drt_model.specs.Contents.{Contents}
use Rattle.drt_model.specs.Limits.{IsTaskSet}
use Rattle.drt_model.specs.Schedulable.{Schedulable}
use Rattle.drt_model.specs.declared.jobs.Policy.{Policy}
use Rattle.drt_model.specs.declared.jobs.Policy.TheVariants.{Edf, Fixed}
use Rattle.drt_model.specs.declared.tasks.Task.{Task}
use Rattle.drt_file.specs.trusted.Laws.{TextsReadAsOneSet}
use Rattle.drt_claims.specs.declared.evidence.Evidence.{Evidence}
use Rattle.drt_claims.specs.declared.evidence.Evidence.TheVariants.{EdfYes, EdfNo, UtilisationOne, FixedYes, FixedStates, FixedNo, Undecided}
use Rattle.drt_margin.specs.Answers.{IsMarginAnswer, IsOtherFor}
use Rattle.drt_margin.specs.declared.answer.MarginAnswer.{MarginAnswer}
use Rattle.drt_margin.specs.declared.answer.MarginAnswer.TheVariants as answers
use Rattle.drt_outcome.specs.Stops.{fault_status}
use Rattle.drt_outcome.specs.declared.fault.Fault.{Fault}
use Rattle.drt_command.specs.declared.report.Report.{Report}
use Rattle.drt_command.specs.declared.report.Unmade.{Unmade}
use Rattle.drt_command.specs.Rules.{AreLawful}
use Rattle.drt_command_files.specs.AtOne.{IsUtilisationOne}
use Rattle.drt_command_files.specs.Dossiers.{evidence_status}
use Rattle.drt_command_files.specs.Spots.{IsSpot}
use Rattle.drt_command_files.specs.TaskFiles.{IsAccepted}
use Rattle.drt_command_margin.specs.Besides.{Besides, IsReportOf}
use Rattle.drt_command_margin.specs.Margin.{HasNoSpot, IsMarginFault, IsProbed, margin_rules, policy_of}
use Rattle.drt_command_margin.specs.Text.{margin_text}
use Rattle.drt_command_margin.specs.Verdict.{IsMarginText, Verdict, grown_tasks}
use Rattle.drt_command_margin.proofs.Grown.{text_of}
use Rattle.drt_command_margin.proofs.Heads.{behind_head, head_is}
use Rattle.drt_command_files.proofs.AtOneLemmas.{one_of}
use Rattle.drt_command_files.proofs.TaskFileLemmas.{accepted_one, accepted_well, fault_one, long_file}

-- What the verdict says of a status and a text.
abbrev IsVerdict : Policy → Contents → (ℕ → List Task) → ℕ → List ℕ → Type 0
IsVerdict policy set with_more status written =
    ((status ≡ 0) × IsMarginText policy set.version with_more written)
    ⊎ (((status ≡ 1) × (Schedulable set.tasks policy → ⊥))
    ⊎ (((status ≡ 2) × (policy ≡ Edf) × IsUtilisationOne set.tasks)
    ⊎ (status ≡ 3)))

-- The verdict of a set that isn't a yes as it is.
at_zero : (policy : Policy) (set : Contents) (with_more : ℕ → List Task) (written : List ℕ) (evidence : Evidence)
    → IsTaskSet set.version set.tasks
    → IsOtherFor policy set evidence
    → IsVerdict policy set with_more (evidence_status evidence) written
at_zero Edf set with_more written (EdfYes ratios fronts) limits a = absurd (a.kind tt)
at_zero Edf set with_more written (EdfNo releases miss) limits a = inr (inl (refl, a.verdict.0.not_schedulable))
at_zero Edf set with_more written (UtilisationOne ratios) limits a =
    inr (inr (inl (refl, refl, one_of set.version set.tasks limits.each a.verdict.0.at_one)))
at_zero Edf set with_more written (FixedYes trees proofs) limits a = absurd (a.kind tt)
at_zero Edf set with_more written (FixedStates tails searches) limits a = absurd (a.kind tt)
at_zero Edf set with_more written (FixedNo releases miss) limits a = absurd a.verdict.0
at_zero Edf set with_more written Undecided limits a = absurd a.verdict.0
at_zero Fixed set with_more written (EdfYes ratios fronts) limits a = absurd (a.kind tt)
at_zero Fixed set with_more written (EdfNo releases miss) limits a = absurd a.verdict
at_zero Fixed set with_more written (UtilisationOne ratios) limits a = absurd a.verdict
at_zero Fixed set with_more written (FixedYes trees proofs) limits a = absurd (a.kind tt)
at_zero Fixed set with_more written (FixedStates tails searches) limits a = absurd (a.kind tt)
at_zero Fixed set with_more written (FixedNo releases miss) limits a = inr (inl (refl, a.verdict.not_schedulable))
at_zero Fixed set with_more written Undecided limits a = absurd a.verdict

-- The verdict of the report of an answer.
verdict : (policy : Policy) (task vertex : List ℕ) (set : Contents) (k v budget : ℕ) → IsTaskSet set.version set.tasks
    → (spot : IsSpot set.tasks task vertex k v) (answer : MarginAnswer) → IsMarginAnswer set policy k v budget answer
    → (m : Report) → IsReportOf policy set k v answer m
    → IsVerdict policy set (grown_tasks set.tasks k spot.of v spot.at) m.status m.text
verdict policy task vertex set k v budget limits spot (answers.Found add within next) a m is =
    subst (λ (x : Report). IsVerdict policy set (grown_tasks set.tasks k spot.of v spot.at) x.status x.text) (sym is)
    (inl (
      refl,
      text_of policy set task vertex k v add spot (behind_head policy set k v add within next) (margin_text policy set k v add within next) a.margin
          (head_is policy set k v add within next),
    ))
verdict policy task vertex set k v budget limits spot (answers.AtZero evidence) a m is =
    subst (λ (x : Report). IsVerdict policy set (grown_tasks set.tasks k spot.of v spot.at) x.status x.text) (sym is)
    (at_zero policy set (grown_tasks set.tasks k spot.of v spot.at) _ evidence limits a)
verdict policy task vertex set k v budget limits spot (answers.Beyond add beyond) a m is = absurd is
verdict policy task vertex set k v budget limits spot (answers.Undecided add trail) a m is =
    subst (λ (x : Report). IsVerdict policy set (grown_tasks set.tasks k spot.of v spot.at) x.status x.text) (sym is) (inr (inr (inr refl)))

-- The report of an answer is as promised.
made_by : (policy : Policy) (task vertex bytes : List ℕ) (set : Contents) (k v budget : ℕ) → IsAccepted bytes set → IsSpot set.tasks task vertex k v
    → (answer : MarginAnswer) → IsMarginAnswer set policy k v budget answer → (m : Report) → IsReportOf policy set k v answer m
    → Verdict policy task vertex bytes m × Besides policy task vertex budget bytes m
made_by policy task vertex bytes set k v budget accepted spot answer a m is = (
  record {
    set = set;
    accepted = accepted;
    k = k;
    v = v;
    t = spot.of;
    task_is = (spot.task_is.here, spot.task_is.is);
    x = spot.at;
    vertex_is = (spot.vertex_is.here, spot.vertex_is.is);
    answer = verdict policy task vertex set k v budget accepted.reads.limits spot answer a m is;
  },
  record { set = set; accepted = accepted; k = k; v = v; spot = spot; answer = answer; are = a; is = is },
)

-- So is what becomes of it, a report or an end without one.
pub made_of : (policy : Policy) (task vertex bytes : List ℕ) (set : Contents) (k v budget : ℕ) → IsAccepted bytes set → IsSpot set.tasks task vertex k v
    → (answer : MarginAnswer) → IsMarginAnswer set policy k v budget answer → (r : Result Report Unmade) → IfOk r (IsReportOf policy set k v answer)
    → IfOk r (λ m. Verdict policy task vertex bytes m × Besides policy task vertex budget bytes m)
made_of policy task vertex bytes set k v budget accepted spot answer a (Ok m) is = made_by policy task vertex bytes set k v budget accepted spot answer a m is
made_of policy task vertex bytes set k v budget accepted spot answer a (Err e) is = tt

verdict_low : (policy : Policy) (task vertex bytes : List ℕ) (m : Report) → Verdict policy task vertex bytes m → m.status < 4
verdict_low policy task vertex bytes m d = elim d.answer [
  | inl a ↦ omega (arith, a.0)
  | inr (inl a) ↦ omega (arith, a.0)
  | inr (inr (inl a)) ↦ omega (arith, a.0)
  | inr (inr (inr e)) ↦ omega (arith, e)
]

module _ (law : TextsReadAsOneSet) (task vertex bytes : List ℕ) where
  -- Names that a set has it doesn't lack.
  spot_there : (set : Contents) (k v : ℕ) → IsAccepted bytes set → IsSpot set.tasks task vertex k v → HasNoSpot task vertex bytes → ⊥
  spot_there set k v a s h = h.none k v (subst (λ (x : Contents). IsSpot x.tasks task vertex k v) (accepted_one law bytes set h.set a h.accepted) s)

  fault_apart : (set : Contents) (k v : ℕ) (f : Fault) → IsAccepted bytes set → IsSpot set.tasks task vertex k v → IsMarginFault task vertex bytes f → ⊥
  fault_apart set k v f a s (inl h) = accepted_well law bytes set f a h
  fault_apart set k v f a s (inr h) = spot_there set k v a s h.0

  fault_is_one : (f g : Fault) → IsMarginFault task vertex bytes f → IsMarginFault task vertex bytes g → f ≡ g
  fault_is_one f g (inl h) (inl k) = fault_one law bytes f g h k
  fault_is_one f g (inl h) (inr k) = absurd (accepted_well law bytes k.0.set f k.0.accepted h)
  fault_is_one f g (inr h) (inl k) = absurd (accepted_well law bytes h.0.set g h.0.accepted k)
  fault_is_one f g (inr h) (inr k) = h.1 ∙ sym k.1

  refused_one : (policy : Policy) (f g : Fault) → IsMarginFault task vertex bytes f ⊎ IsProbed policy task vertex bytes f → IsMarginFault task vertex bytes g → f ≡ g
  refused_one policy f g (inl h) k = fault_is_one f g h k
  refused_one policy f g (inr p) k = absurd (fault_apart p.set p.k p.v g p.accepted p.spot k)

  refused_ends : (policy : Policy) (f : Fault) → IsMarginFault task vertex bytes f ⊎ IsProbed policy task vertex bytes f → HasNoSpot task vertex bytes → fault_status f ≡ 4
  refused_ends policy f (inl (inl h)) n = absurd (accepted_well law bytes n.set f n.accepted h)
  refused_ends policy f (inl (inr h)) n = ap fault_status h.1
  refused_ends policy f (inr p) n = absurd (spot_there p.set p.k p.v p.accepted p.spot n)

-- What is made, what is refused and with which status it ends agree.
pub margin_lawful : TextsReadAsOneSet → (fixed : Bool) (task vertex : List ℕ) (b : ℕ) → AreLawful (margin_rules fixed task vertex b)
margin_lawful law fixed task vertex b = record {
  low = λ bytes m d. verdict_low (policy_of fixed) task vertex bytes m d.0;
  apart = λ bytes m f d h. fault_apart law task vertex bytes d.1.set d.1.k d.1.v f d.1.accepted d.1.spot h;
  one_fault = λ bytes f g h k. refused_one law task vertex bytes (policy_of fixed) f g h k;
  longer = λ bytes f h. inl (inl (long_file bytes f h));
  made_ends = λ bytes m d n. absurd (spot_there law task vertex bytes d.1.set d.1.k d.1.v d.1.accepted d.1.spot n);
  refused_ends = λ bytes f h n. refused_ends law task vertex bytes (policy_of fixed) f h n;
}
