-- What is promised of `check` agrees.
use Rattle.std.proofs.Common.{ℕ, List, inl, refl, sym, subst}
use Rattle.drt_check.specs.Laws.{JudgedOnce}
use Rattle.drt_command.specs.Inputs.{IsLonger}
use Rattle.drt_command.specs.Rules.{AreLawful}
use Rattle.drt_outcome.specs.declared.fault.Fault.{Fault}
use Rattle.drt_command_check.specs.Check.{IsDossierFault, check_rules, dossier_input}
use Rattle.drt_command_check.proofs.CheckLemmas.{dossier_fault_one, judged_ends, judged_well, rejected_ends}

-- a dossier that is too long is refused
long_dossier : (bytes : List ℕ) (f : Fault) → IsLonger dossier_input bytes f → IsDossierFault bytes f
long_dossier bytes f h = subst (IsDossierFault bytes) (sym h.1) (inl (h.0, refl, refl))

pub check_lawful : JudgedOnce → AreLawful check_rules
check_lawful rules = record {
  low = λ bytes m d. d.1.not_rejected;
  apart = λ bytes m f d h. judged_well rules bytes m f d.1 h;
  one_fault = dossier_fault_one;
  longer = long_dossier;
  made_ends = λ bytes m d s is small. judged_ends bytes m d.1 s is;
  refused_ends = rejected_ends;
}
