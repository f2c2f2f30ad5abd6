use Rattle.std.proofs.Common.{arith, refl}
use Rattle.drt_claims.specs.Searches.{HasStatesOver}
use Rattle.drt_claims.specs.Sorting.{by_priority}
use Rattle.drt_check_states.proofs.Items.{all_more, all_not}
use Rattle.drt_check_searches.proofs.states.have_states.Goals as goal

pub returns-then-not-has_states : goal.returns-then-not-has_states
returns-then-not-has_states c = (
  λ e. absurd (cc),
  λ all.
      let has_states = HasStatesOver c.args.set.now.tasks (by_priority c.args.set.now.tasks) in
      absurd (
      all_not has_states c.args.searches.now c.loop-i.i c.index-searches-i.result c.loop-i-test.true c.index-searches-i.is (λ is. let e = c.has_states.ensures.1 is in cc) all
      ),
)

pub loop-i-preserved : goal.loop-i-preserved
loop-i-preserved c =
    let has_states = HasStatesOver c.args.set.now.tasks (by_priority c.args.set.now.tasks) in
    all_more has_states c.args.searches.now c.loop-i.i c.index-searches-i.result c.loop-i-test.true c.index-searches-i.is (c.has_states.ensures.0 c.if-not-has_states.false)
    c.loop-i.invariant

pub returns : goal.returns
returns c = (λ e k d l. c.loop-i.invariant k d (omega (arith, l, c.loop-i-test.false)), λ all. refl)
