-- What trees show and what the checker accepts is decided.
use Rattle.std.proofs.Common.{inl, inr, refl, subst}
use Rattle.drt_model.specs.Contents.{Contents}
use Rattle.drt_model.specs.Schedulable.{Schedulable}
use Rattle.drt_model.specs.declared.jobs.Policy.TheVariants.{Fixed}
use Rattle.drt_claims.specs.Ranges.{IsEvidenceInRange}
use Rattle.drt_claims.specs.declared.evidence.Evidence.{Evidence}
use Rattle.drt_claims.specs.declared.evidence.Evidence.TheVariants.{EdfYes, EdfNo, UtilisationOne, FixedYes, FixedStates, FixedNo, Undecided}
use Rattle.drt_check.specs.Judging.{IsClaimed}
use Rattle.drt_check.specs.declared.judgement.Judgement.TheVariants as judgements
use Rattle.drt_sp.specs.Answers.{IsTreeNo, IsTreeYes, IsYesEvidence}
use Rattle.drt_sp.specs.Evidence.{under_fixed}
use Rattle.drt_fixed.specs.Answers.{IsDecision, IsOfStates}

-- A yes by trees.
pub tree_yes_decided : (set : Contents) (evidence : Evidence) → IsTreeYes set evidence → IsDecision set evidence
tree_yes_decided set (EdfYes ratios fronts) is = absurd is.0
tree_yes_decided set (EdfNo releases miss) is = absurd is.0
tree_yes_decided set (UtilisationOne ratios) is = absurd is.0
tree_yes_decided set (FixedYes trees proofs) is = record {
  in_range = is.1;
  says = λ budget. (refl, record { schedulable = is.0.schedulable; accepted = is.0.accepted; kind = inl tt; exact = λ ts ps e. subst (IsYesEvidence set) e is.0 });
}
tree_yes_decided set (FixedStates tails searches) is = absurd is.0
tree_yes_decided set (FixedNo releases miss) is = absurd is.0
tree_yes_decided set Undecided is = absurd is.0

-- A no by trees.
pub tree_no_decided : (set : Contents) (evidence : Evidence) → IsTreeNo set evidence → IsDecision set evidence
tree_no_decided set (EdfYes ratios fronts) is = absurd is.0
tree_no_decided set (EdfNo releases miss) is = absurd is.0
tree_no_decided set (UtilisationOne ratios) is = absurd is.0
tree_no_decided set (FixedYes trees proofs) is = absurd is.0
tree_no_decided set (FixedStates tails searches) is = absurd is.0
tree_no_decided set (FixedNo releases miss) is = record {
  in_range = is.1;
  says = λ budget. (refl, record { not_schedulable = is.0.not_schedulable; accepted = is.0.accepted; of_walks = is.0.of_walks });
}
tree_no_decided set Undecided is = absurd is.0

-- A yes by tails and states.
pub yes_decided : (set : Contents) (evidence : Evidence) → IsOfStates set.tasks evidence → IsEvidenceInRange evidence → IsClaimed (under_fixed set evidence) judgements.Schedulable
    → Schedulable set.tasks Fixed → IsDecision set evidence
yes_decided set (EdfYes ratios fronts) kind range claimed is = absurd kind
yes_decided set (EdfNo releases miss) kind range claimed is = absurd kind
yes_decided set (UtilisationOne ratios) kind range claimed is = absurd kind
yes_decided set (FixedYes trees proofs) kind range claimed is = absurd kind
yes_decided set (FixedStates tails searches) kind range claimed is = record {
  in_range = range;
  says = λ budget. (refl, record { schedulable = is; accepted = claimed.0; kind = inr tt; exact = λ trees proofs e. absurd (cc) });
}
yes_decided set (FixedNo releases miss) kind range claimed is = let e = claimed.1 in absurd (cc)
yes_decided set Undecided kind range claimed is = absurd kind

-- A no by tails and states.
pub no_decided : (set : Contents) (evidence : Evidence) → IsOfStates set.tasks evidence → IsEvidenceInRange evidence → IsClaimed (under_fixed set evidence) judgements.Unschedulable
    → ¬ Schedulable set.tasks Fixed → IsDecision set evidence
no_decided set (EdfYes ratios fronts) kind range claimed not = absurd kind
no_decided set (EdfNo releases miss) kind range claimed not = absurd kind
no_decided set (UtilisationOne ratios) kind range claimed not = absurd kind
no_decided set (FixedYes trees proofs) kind range claimed not = absurd kind
no_decided set (FixedStates tails searches) kind range claimed not = let e = claimed.1 in absurd (cc)
no_decided set (FixedNo releases miss) kind range claimed not = record {
  in_range = range;
  says = λ budget. (refl, record { not_schedulable = not; accepted = claimed.0; of_walks = kind });
}
no_decided set Undecided kind range claimed not = absurd kind
