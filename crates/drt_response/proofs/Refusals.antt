-- A no, by trees or by states.
use Rattle.std.proofs.Common.{None, refl}
use Rattle.drt_model.specs.Contents.{Contents}
use Rattle.drt_claims.specs.Ranges.{IsEvidenceInRange}
use Rattle.drt_claims.specs.declared.evidence.Evidence.{Evidence}
use Rattle.drt_claims.specs.declared.evidence.Evidence.TheVariants.{EdfYes, EdfNo, UtilisationOne, FixedYes, FixedStates, FixedNo, Undecided}
use Rattle.drt_fixed.specs.Answers.{IsSaid}
use Rattle.drt_sp.specs.Answers.{IsRefusalEvidence}
use Rattle.drt_response.specs.Answers.{IsRefused}

-- By trees.
pub refusal_is : (set : Contents) (evidence : Evidence) → IsRefusalEvidence set evidence → IsEvidenceInRange evidence → IsRefused set evidence
refusal_is set (EdfYes ratios fronts) refusal range = absurd refusal
refusal_is set (EdfNo releases miss) refusal range = absurd refusal
refusal_is set (UtilisationOne ratios) refusal range = absurd refusal
refusal_is set (FixedYes trees proofs) refusal range = absurd refusal
refusal_is set (FixedStates tails searches) refusal range = absurd refusal
refusal_is set (FixedNo releases miss) refusal range = record {
  releases = releases;
  miss = miss;
  evidence_is = refl;
  in_range = range;
  no = record { not_schedulable = refusal.not_schedulable; accepted = refusal.accepted; of_walks = refusal.of_walks };
}
refusal_is set Undecided refusal range = absurd refusal
