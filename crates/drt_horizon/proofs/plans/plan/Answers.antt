use Rattle.std.proofs.Common.{arith, refl}
use Rattle.drt_horizon.proofs.Givens.{given_count, given_rated, given_small}
use Rattle.drt_horizon.proofs.plans.plan.Goals as goal

pub scale-requires : goal.scale-requires
scale-requires c = given_small c.args.graphs.now c.args.proofs.now c.requires

pub rate-sum-requires-clause-small : goal.rate-sum-requires-clause-small
rate-sum-requires-clause-small c = given_small c.args.graphs.now c.args.proofs.now c.requires

pub rate-sum-requires-clause-few : goal.rate-sum-requires-clause-few
rate-sum-requires-clause-few c = omega (arith, given_count c.args.graphs.now c.args.proofs.now c.requires, c.keep_limits.ensures.few)

pub horizon-bound-requires-clause-rated : goal.horizon-bound-requires-clause-rated
horizon-bound-requires-clause-rated c = given_rated c.args.graphs.now c.args.proofs.now c.requires

pub returns-then-sum-common : goal.returns-then-sum-common
returns-then-sum-common c = (c.in-Some.common, c.in-Some.ensures.0, (c.in-Some.ensures.1, omega (arith, c.rate-sum.ensures, c.if-sum-common.true)))

pub returns-then-sum-common-2 : goal.returns-then-sum-common-2
returns-then-sum-common-2 c = (c.in-Some.common, c.in-Some.ensures.0, (c.in-Some.ensures.1, omega (arith, c.rate-sum.ensures)))

pub returns-then-bound-gt-GREATEST_BOUND : goal.returns-then-bound-gt-GREATEST_BOUND
returns-then-bound-gt-GREATEST_BOUND c =
    (c.in-Some.common, c.in-Some.ensures.0, rw (← c.horizon-bound.ensures, ← c.rate-sum.ensures) (c.in-Some.ensures.1, omega arith, omega arith))

pub returns : goal.returns
returns c =
    (c.in-Some.common, c.in-Some.ensures.0, rw (← c.horizon-bound.ensures, ← c.rate-sum.ensures) (c.in-Some.ensures.1, omega arith, omega arith, refl))
