use Rattle.std.proofs.Common.{arith, refl}
use Rattle.drt_claims.specs.Searches.{HasPassingStates}
use Rattle.drt_check_states.proofs.Items.{all_more, all_not}
use Rattle.drt_check_searches.proofs.passing.are_passing.Goals as goal

pub returns-then-not-is_passing : goal.returns-then-not-is_passing
returns-then-not-is_passing c = (
  λ e. absurd (cc),
  λ all. absurd (
      all_not (HasPassingStates c.args.set.now.tasks c.args.tails.now) c.args.searches.now c.loop-i.i c.index-searches-i.result c.loop-i-test.true c.index-searches-i.is
      (λ is. let e = c.is_passing.ensures.1 is in cc) all
      ),
)

pub loop-i-preserved : goal.loop-i-preserved
loop-i-preserved c =
    all_more (HasPassingStates c.args.set.now.tasks c.args.tails.now) c.args.searches.now c.loop-i.i c.index-searches-i.result c.loop-i-test.true c.index-searches-i.is
    (c.is_passing.ensures.0 c.if-not-is_passing.false) c.loop-i.invariant

pub returns : goal.returns
returns c = (λ e k d l. c.loop-i.invariant k d (omega (arith, l, c.loop-i-test.false)), λ all. refl)
