-- What a decision by states says: a yes has tails that bound walks, and a no is one.
use Rattle.std.proofs.Common.{◌≡◌, List, None, subst}
use Rattle.drt_model.specs.Contents.{Contents}
use Rattle.drt_model.specs.Schedulable.{Schedulable}
use Rattle.drt_model.specs.declared.jobs.Miss.{Miss}
use Rattle.drt_model.specs.declared.jobs.Policy.TheVariants.{Fixed}
use Rattle.drt_model.specs.declared.jobs.Release.{Release}
use Rattle.drt_claims.specs.Ranges.{IsEvidenceInRange}
use Rattle.drt_claims.specs.declared.evidence.Evidence.{Evidence}
use Rattle.drt_claims.specs.declared.evidence.Evidence.TheVariants.{FixedNo, FixedStates}
use Rattle.drt_claims.specs.declared.rule.Rule.TheVariants.{BoundingTails, RisingTails}
use Rattle.drt_states.specs.declared.claims.SearchClaim.{SearchClaim}
use Rattle.drt_states.specs.declared.claims.TailClaim.{TailClaim}
use Rattle.drt_fixed.specs.Answers.{IsDecision, IsSaid}
use Rattle.drt_response.specs.Answers.{IsRefused}
use Rattle.drt_response.specs.Tails.{HaveTails}

module _ (set : Contents) (evidence : Evidence) (is : IsDecision set evidence) where
  -- A yes.
  pub yes_given : (tails : List TailClaim) (searches : List SearchClaim) → evidence ≡ FixedStates tails searches → Schedulable set.tasks Fixed × HaveTails set.tasks tails
  yes_given tails searches e =
      let said : IsSaid set 0 (FixedStates tails searches) None = subst (λ (x : Evidence). IsSaid set 0 x None) e (is.says 0) in
      (said.1.schedulable, record { rising = said.1.accepted.keeps RisingTails tt; bounding = said.1.accepted.keeps BoundingTails tt })

  -- A no.
  pub no_given : (releases : List Release) (miss : Miss) → evidence ≡ FixedNo releases miss → IsRefused set evidence
  no_given releases miss e =
      let said : IsSaid set 0 (FixedNo releases miss) None = subst (λ (x : Evidence). IsSaid set 0 x None) e (is.says 0) in
      record {
        releases = releases;
        miss = miss;
        evidence_is = e;
        in_range = subst IsEvidenceInRange e is.in_range;
        no = said.1;
      }
