use Rattle.std.proofs.Common.{arith, refl, subst, sym}
use Rattle.drt_claims.specs.Searches.{HasDominatedChildren, HasStatesOver}
use Rattle.drt_claims.specs.Sorting.{by_priority}
use Rattle.drt_check_states.proofs.Items.{all_more, all_not}
use Rattle.drt_check_searches.proofs.splits.have_dominated_splits.Goals as goal

pub has_dominated_splits-requires-clause-states : goal.has_dominated_splits-requires-clause-states
has_dominated_splits-requires-clause-states c =
    subst (HasStatesOver c.args.set.now.tasks (by_priority c.args.set.now.tasks)) (sym c.index-searches-i.is) (c.requires.states c.loop-i.i c.index-searches-i.result c.loop-i-test.true)

pub returns-then-not-has_dominated_splits : goal.returns-then-not-has_dominated_splits
returns-then-not-has_dominated_splits c = (
  λ e. absurd (cc),
  λ all. absurd (
      all_not (HasDominatedChildren c.args.set.now.tasks (by_priority c.args.set.now.tasks)) c.args.searches.now c.loop-i.i c.index-searches-i.result c.loop-i-test.true c.index-searches-i.is
      (λ is. let e = c.has_dominated_splits.ensures.1 is in cc) all
      ),
)

pub loop-i-preserved : goal.loop-i-preserved
loop-i-preserved c =
    all_more (HasDominatedChildren c.args.set.now.tasks (by_priority c.args.set.now.tasks)) c.args.searches.now c.loop-i.i c.index-searches-i.result c.loop-i-test.true c.index-searches-i.is
    (c.has_dominated_splits.ensures.0 c.if-not-has_dominated_splits.false) c.loop-i.invariant

pub returns : goal.returns
returns c = (λ e k d l. c.loop-i.invariant k d (omega (arith, l, c.loop-i-test.false)), λ all. refl)
