-- The rules that ask for no graphs.
use Rattle.std.proofs.Common.{◌≡◌, ◌≢◌, refl}
use Rattle.drt_claims.specs.Kinds.{HasReleases}
use Rattle.drt_claims.specs.Rules.{Applies}
use Rattle.drt_claims.specs.declared.evidence.Evidence.{Evidence}
use Rattle.drt_claims.specs.declared.evidence.Evidence.TheVariants.{EdfNo, FixedNo}
use Rattle.drt_claims.specs.declared.rule.Rule.{Rule}
use Rattle.drt_claims.specs.declared.rule.Rule.TheVariants.{ConstrainedDeadlines, KindOfPolicy, LegalReleases, LeastMiss}
use Rattle.drt_check.specs.Deciding.{AsksForNoGraphs}

-- What applies to releases asks for none.
pub plain_of_releases : (rule : Rule) (e : Evidence) → HasReleases e → Applies rule e → AsksForNoGraphs rule
plain_of_releases ConstrainedDeadlines e has applies = tt
plain_of_releases KindOfPolicy e has applies = tt
plain_of_releases LegalReleases e has applies = tt
plain_of_releases LeastMiss e has applies = tt
plain_of_releases other (EdfNo releases miss) has applies = absurd applies
plain_of_releases other (FixedNo releases miss) has applies = absurd applies
plain_of_releases other none has applies = absurd has

-- Beside three of them there is the rule on deadlines alone.
pub deadlines_left : (rule : Rule) → AsksForNoGraphs rule → rule ≢ KindOfPolicy → rule ≢ LegalReleases → rule ≢ LeastMiss → rule ≡ ConstrainedDeadlines
deadlines_left ConstrainedDeadlines plain policy legal least = refl
deadlines_left KindOfPolicy plain policy legal least = absurd (policy refl)
deadlines_left LegalReleases plain policy legal least = absurd (legal refl)
deadlines_left LeastMiss plain policy legal least = absurd (least refl)
deadlines_left other plain policy legal least = absurd plain
