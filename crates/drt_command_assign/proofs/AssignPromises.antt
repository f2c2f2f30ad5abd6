-- What is promised of `assign` agrees, and each answer keeps it.
use Rattle.std.proofs.Common.{◌≡◌, ◌<◌, ◌⊎◌, ℕ, List, Result, Ok, Err, IfOk, inl, inr, refl, ap, sym, subst, arith, ◌∙◌}
use Rattle.drt_model.specs.Contents.{Contents}
use Rattle.drt_file.specs.trusted.Laws.{TextsReadAsOneSet}
use Rattle.drt_priorities.specs.Laws.{PrioritiesKeepLimits}
use Rattle.drt_priorities.specs.Priorities.{OrderExists}
use Rattle.drt_evidence.specs.Reading.{IsDossierText}
use Rattle.drt_evidence.specs.Text.{text}
use Rattle.drt_sp.specs.Evidence.{under_fixed}
use Rattle.drt_assign.specs.Assign.{IsAssigned, with_priorities}
use Rattle.drt_assign.specs.Laws.{AssignBudgetsSuffice, IsOrderDecided}
use Rattle.drt_assign.specs.declared.answer.AssignAnswer.{AssignAnswer}
use Rattle.drt_assign.specs.declared.answer.AssignAnswer.TheVariants as answers
use Rattle.drt_command.specs.declared.report.Report.{Report}
use Rattle.drt_command.specs.declared.report.Unmade.{Unmade}
use Rattle.drt_command.specs.Rules.{AreLawful}
use Rattle.drt_command_files.specs.TaskFiles.{IsAccepted}
use Rattle.drt_command_assign.specs.Assign.{AssignEnds, assign_rules}
use Rattle.drt_command_assign.specs.Besides.{Besides, report_of}
use Rattle.drt_command_assign.specs.Verdict.{IsOrderText, Verdict}
use Rattle.drt_command_files.proofs.Abouts.{about_of}
use Rattle.drt_command_files.proofs.TaskFileLemmas.{accepted_one, accepted_well, fault_one, long_file}

-- What the verdict says of a status and a text.
abbrev IsVerdict : Contents → ℕ → List ℕ → Type 0
IsVerdict set status written = ((status ≡ 0) × IsOrderText set written) ⊎ (((status ≡ 1) × ¬ OrderExists set.tasks) ⊎ (status ≡ 3))

module _ (keeps : PrioritiesKeepLimits) (bytes : List ℕ) (set : Contents) (budget : ℕ) (accepted : IsAccepted bytes set) where
  -- The verdict of the report of an answer.
  verdict : (answer : AssignAnswer) → IsAssigned set budget answer → Verdict bytes (report_of answer)
  verdict (answers.Done dossier) a =
      let limits = keeps set.version set.tasks a.priorities accepted.reads.limits a.by_rule.are in
      let ordered = with_priorities set.tasks a.priorities in
      record {
        set = set;
        accepted = accepted;
        answer = inl (
          refl,
          record {
            order = record { priorities = a.priorities; are = a.by_rule.are; schedulable = a.proved.yes.schedulable };
            about = about_of (under_fixed ordered a.proved.evidence) (text dossier)
                (subst (λ d. IsDossierText (under_fixed ordered a.proved.evidence) (text d)) (sym a.proved.dossier_is)
                (record { stated = (limits, a.proved.in_range); is = refl }));
          },
        );
      }
  verdict (answers.NoOrder same stuck) a =
      record {
        set = set;
        accepted = accepted;
        answer = inr (inl (refl, a.none));
      }
  verdict (answers.Undecided same higher task trail) a =
      record { set = set; accepted = accepted; answer = inr (inr refl) }
  verdict (answers.Unproved ordered trail) a = record { set = set; accepted = accepted; answer = inr (inr refl) }

  -- The report of an answer is as promised.
  pub made_by : (answer : AssignAnswer) → IsAssigned set budget answer → (r : Result Report Unmade) → IfOk r (λ m. m ≡ report_of answer)
      → IfOk r (λ m. Verdict bytes m × Besides budget bytes m)
  made_by answer a (Ok m) is =
      subst (λ x. Verdict bytes x × Besides budget bytes x) (sym is)
      (verdict answer a, record { set = set; accepted = accepted; answer = answer; assigned = a; is = refl })
  made_by answer a (Err e) is = tt

verdict_low : (bytes : List ℕ) (m : Report) → Verdict bytes m → m.status < 4
verdict_low bytes m d = elim d.answer [ inl a ↦ omega (arith, a.0) | inr (inl a) ↦ omega (arith, a.0) | inr (inr e) ↦ omega (arith, e) ]

-- The status of an answer that decides.
ends_by : (set : Contents) (budget : ℕ) (answer : AssignAnswer) → IsAssigned set budget answer → IsOrderDecided answer
    → (((report_of answer).status ≡ 0) × OrderExists set.tasks) ⊎ (((report_of answer).status ≡ 1) × (OrderExists set.tasks → ⊥))
ends_by set budget (answers.Done dossier) a d =
    inl (refl, record { priorities = a.priorities; are = a.by_rule.are; schedulable = a.proved.yes.schedulable })
ends_by set budget (answers.NoOrder same stuck) a d = inr (refl, a.none)
ends_by set budget (answers.Undecided same higher task trail) a d = absurd d
ends_by set budget (answers.Unproved ordered trail) a d = absurd d

module _ (law : TextsReadAsOneSet) (suffice : AssignBudgetsSuffice) (b : ℕ) where
  made_ends : (bytes : List ℕ) (m : Report) → Besides b bytes m → (set : Contents) → IsAccepted bytes set → AssignEnds set b m.status
  made_ends bytes m d set a =
      let same = accepted_one law bytes d.set set d.accepted a in
      let assigned = subst (λ s. IsAssigned s b d.answer) same d.assigned in
      λ enough. subst (λ (x : Report). ((x.status ≡ 0) × OrderExists set.tasks) ⊎ ((x.status ≡ 1) × (OrderExists set.tasks → ⊥))) (sym d.is)
      (ends_by set b d.answer assigned (suffice set b d.answer a.reads.limits assigned enough))

  -- What is made, what is refused and with which status it ends agree.
  pub assign_lawful : AreLawful (assign_rules b)
  assign_lawful = record {
    low = λ bytes m d. verdict_low bytes m d.0;
    apart = λ bytes m f d h. accepted_well law bytes d.0.set f d.0.accepted h;
    one_fault = λ bytes f g h k. fault_one law bytes f g h k;
    longer = λ bytes f h. long_file bytes f h;
    made_ends = λ bytes m d set a. made_ends bytes m d.1 set a;
    refused_ends = λ bytes f h set a. absurd (accepted_well law bytes set f a h);
  }
