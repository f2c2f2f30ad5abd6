-- What is promised of `edf` agrees.
use Rattle.std.proofs.Common.{◌≡◌, ◌<◌, ◌⊎◌, ℕ, List, inl, inr, ap, sym, ◌∙◌, subst}
use Rattle.drt_model.specs.Contents.{Contents}
use Rattle.drt_file.specs.trusted.Laws.{TextsReadAsOneSet}
use Rattle.drt_edf.specs.Answers.{IsBeyond}
use Rattle.drt_command.specs.declared.report.Report.{Report}
use Rattle.drt_command.specs.Rules.{AreLawful}
use Rattle.drt_outcome.specs.declared.fault.Fault.{Fault}
use Rattle.drt_outcome.specs.declared.fault.Fault.TheVariants.{Limit}
use Rattle.drt_outcome.specs.Stops.{fault_status}
use Rattle.drt_command_files.specs.TaskFiles.{IsAccepted, IsFileFault}
use Rattle.drt_command_edf.specs.Besides.{Besides}
use Rattle.drt_command_edf.specs.Edf.{EdfEnds, IsOutOfReach, beyond_code, edf_rules}
use Rattle.drt_command_files.proofs.TaskFileLemmas.{accepted_one, accepted_well, fault_one, long_file}
use Rattle.drt_command_edf.proofs.EdfLemmas.{IsEdfAnswer, answer_ends, answer_low, answer_near, beyond_ends, beyond_one}

reach_one : TextsReadAsOneSet → (bytes : List ℕ) (f g : Fault) → IsOutOfReach bytes f → IsOutOfReach bytes g → f ≡ g
reach_one law bytes f g h k =
    let e = accepted_one law bytes h.set k.set h.accepted k.accepted in
    let c = subst (λ (s : Contents). IsBeyond s.tasks h.beyond) e h.cause in
    let b = beyond_one k.set.version k.set.tasks k.accepted.reads.limits h.beyond k.beyond c k.cause in
    h.is ∙ ap (λ x. Limit (beyond_code x)) b ∙ sym k.is

module _ (law : TextsReadAsOneSet) (b : ℕ) where
  edf_apart : (bytes : List ℕ) (m : Report) (f : Fault) → Besides b bytes m → IsFileFault bytes f ⊎ IsOutOfReach bytes f → ⊥
  edf_apart bytes m f d (inl h) = accepted_well law bytes d.set f d.accepted h
  edf_apart bytes m f d (inr h) =
      answer_near d.set d.accepted.reads.limits b m.status m.text m.trail h.beyond d.answer
      (subst (λ (s : Contents). IsBeyond s.tasks h.beyond) (accepted_one law bytes h.set d.set h.accepted d.accepted) h.cause)

  edf_one : (bytes : List ℕ) (f g : Fault) → IsFileFault bytes f ⊎ IsOutOfReach bytes f → IsFileFault bytes g ⊎ IsOutOfReach bytes g → f ≡ g
  edf_one bytes f g (inl h) (inl k) = fault_one law bytes f g h k
  edf_one bytes f g (inl h) (inr k) = absurd (accepted_well law bytes k.set f k.accepted h)
  edf_one bytes f g (inr h) (inl k) = absurd (accepted_well law bytes h.set g h.accepted k)
  edf_one bytes f g (inr h) (inr k) = reach_one law bytes f g h k

  edf_refused : (bytes : List ℕ) (f : Fault) → IsFileFault bytes f ⊎ IsOutOfReach bytes f → (set : Contents) → IsAccepted bytes set → EdfEnds set b (fault_status f)
  edf_refused bytes f (inl h) set a = absurd (accepted_well law bytes set f a h)
  edf_refused bytes f (inr h) set a =
      subst (λ x. EdfEnds set b (fault_status x)) (sym h.is)
      (beyond_ends set a.reads.limits b h.beyond (subst (λ (s : Contents). IsBeyond s.tasks h.beyond) (accepted_one law bytes h.set set h.accepted a) h.cause))

  pub edf_lawful : AreLawful (edf_rules b)
  edf_lawful = record {
    low = λ bytes m d. answer_low d.1.set b m.status m.text m.trail d.1.answer;
    apart = λ bytes m f d. edf_apart bytes m f d.1;
    one_fault = edf_one;
    longer = λ bytes f h. inl (long_file bytes f h);
    made_ends = λ bytes m d set a.
        answer_ends set a.reads.limits b m.status m.text m.trail (subst (λ s. IsEdfAnswer s b m.status m.text m.trail) (accepted_one law bytes d.1.set set d.1.accepted a) d.1.answer);
    refused_ends = edf_refused;
  }
