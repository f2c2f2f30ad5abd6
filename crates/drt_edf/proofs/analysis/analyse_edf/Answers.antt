use Rattle.std.proofs.Common.{arith, subst}
use Rattle.std.specs.Prelude.{Ok, Err}
use Rattle.drt_horizon.specs.declared.answers.Horizon.TheVariants.{One}
use Rattle.drt_horizon.specs.Given.{AreGiven}
use Rattle.drt_horizon.specs.Plans.{IsHorizonPlan}
use Rattle.drt_horizon.proofs.Givens.{given_count}
use Rattle.drt_claims.specs.Ranges.{IsEvidenceInRange}
use Rattle.drt_claims.specs.declared.evidence.Evidence.TheVariants.{UtilisationOne}
use Rattle.drt_edf.proofs.Planned.{planned_beyond, planned_one}
use Rattle.drt_edf.proofs.RatioClaims.{claims_in_range}
use Rattle.drt_edf.proofs.analysis.analyse_edf.Goals as goal

pub returns-in-Ok-One : goal.returns-in-Ok-One
returns-in-Ok-One g c =
    let given = subst (λ gs. AreGiven gs c.in_ok-proofs.proofs) c.graphs-graphs.ensures.graphs c.in_ok-proofs.ensures in
    let one = subst (λ h. IsHorizonPlan c.graphs-graphs.result.now c.as_slice.result.now (Ok h)) c.in-Ok-One.field-0-is c.in-Ok-One.ensures in
    let here = subst (λ ps. IsHorizonPlan c.graphs-graphs.result.now ps (Ok One)) c.as_slice.ensures one in
    let plan = subst (λ gs. IsHorizonPlan gs c.in_ok-proofs.proofs (Ok One)) c.graphs-graphs.ensures.graphs here in
    let only = planned_one c.args.set.now.tasks c.graphs-graphs.ensures.constrained c.in_ok-proofs.proofs given plan in
    let range = claims_in_range c.graphs-graphs.result.now c.in_ok-proofs.proofs c.keep_limits.ensures.sound c.in_ok-proofs.ensures in
    let count = given_count c.graphs-graphs.result.now c.in_ok-proofs.proofs c.in_ok-proofs.ensures in
    let ranges : IsEvidenceInRange (UtilisationOne c.in_ok-proofs.proofs) = (range, omega (arith, count, c.keep_limits.ensures.few)) in
    (only, only.at_one, ranges)

pub returns-in-Err : goal.returns-in-Err
returns-in-Err g c =
    let given = subst (λ gs. AreGiven gs c.in_ok-proofs.proofs) c.graphs-graphs.ensures.graphs c.in_ok-proofs.ensures in
    let here = subst (λ ps. IsHorizonPlan c.graphs-graphs.result.now ps (Err c.in-Err.beyond)) c.as_slice.ensures c.in-Err.ensures in
    let plan = subst (λ gs. IsHorizonPlan gs c.in_ok-proofs.proofs (Err c.in-Err.beyond)) c.graphs-graphs.ensures.graphs here in
    planned_beyond c.args.set.now.tasks c.in_ok-proofs.proofs c.in-Err.beyond given plan
