-- What is promised of `util` agrees.
use Rattle.std.proofs.Common.{◌≡◌, ◌<◌, ◌⊎◌, ℕ, List, inl, inr, ap, sym, ◌∙◌, subst, arith}
use Rattle.drt_model.specs.Contents.{Contents}
use Rattle.drt_file.specs.trusted.Laws.{TextsReadAsOneSet}
use Rattle.drt_command.specs.declared.report.Report.{Report}
use Rattle.drt_command.specs.Rules.{AreLawful}
use Rattle.drt_outcome.specs.declared.fault.Fault.{Fault}
use Rattle.drt_outcome.specs.Stops.{fault_status}
use Rattle.drt_command_files.specs.TaskFiles.{IsAccepted, IsFileFault}
use Rattle.drt_command_util.specs.Util.{IsTooFineSet, IsTooFineFile, Utilises, util_rules}
use Rattle.drt_command_files.proofs.TaskFileLemmas.{accepted_one, accepted_well, fault_one, long_file}
use Rattle.drt_command_util.proofs.UtilLemmas.{text_is_not_too_fine}

module _ (law : TextsReadAsOneSet) where
  util_apart : (bytes : List ℕ) (m : Report) (f : Fault) → Utilises bytes m → IsFileFault bytes f ⊎ IsTooFineFile bytes f → ⊥
  util_apart bytes m f d (inl h) = accepted_well law bytes d.set f d.accepted h
  util_apart bytes m f d (inr h) = text_is_not_too_fine d.set m.text d.accepted.reads.limits d.text (subst IsTooFineSet (accepted_one law bytes h.set d.set h.accepted d.accepted) h.fine)

  util_one : (bytes : List ℕ) (f g : Fault) → IsFileFault bytes f ⊎ IsTooFineFile bytes f → IsFileFault bytes g ⊎ IsTooFineFile bytes g → f ≡ g
  util_one bytes f g (inl h) (inl k) = fault_one law bytes f g h k
  util_one bytes f g (inl h) (inr k) = absurd (accepted_well law bytes k.set f k.accepted h)
  util_one bytes f g (inr h) (inl k) = absurd (accepted_well law bytes h.set g h.accepted k)
  util_one bytes f g (inr h) (inr k) = h.is ∙ sym k.is

  util_refused : (bytes : List ℕ) (f : Fault) → IsFileFault bytes f ⊎ IsTooFineFile bytes f → (set : Contents) → IsAccepted bytes set → (fault_status f ≡ 0) ⊎ ((fault_status f ≡ 4) × IsTooFineSet set)
  util_refused bytes f (inl h) set a = absurd (accepted_well law bytes set f a h)
  util_refused bytes f (inr h) set a = inr (ap fault_status h.is, subst IsTooFineSet (accepted_one law bytes h.set set h.accepted a) h.fine)

  pub util_lawful : AreLawful util_rules
  util_lawful = record {
    low = λ bytes m d. omega (arith, d.status);
    apart = λ bytes m f d h. util_apart bytes m f d h;
    one_fault = util_one;
    longer = λ bytes f h. inl (long_file bytes f h);
    made_ends = λ bytes m d set a. inl d.status;
    refused_ends = util_refused;
  }
