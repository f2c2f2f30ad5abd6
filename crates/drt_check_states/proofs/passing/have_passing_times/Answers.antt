use Rattle.std.proofs.Common.{arith, refl}
use Rattle.drt_states.specs.States.{IsPassing}
use Rattle.drt_states.specs.declared.claims.StateClaim.{StateClaim}
use Rattle.drt_check_states.proofs.Items.{all_more, all_not}
use Rattle.drt_check_states.proofs.passing.have_passing_times.Goals as goal

pub returns-then-not-is_passing : goal.returns-then-not-is_passing
returns-then-not-is_passing c = (
  λ e. absurd (cc),
  λ all. absurd (
      all_not (λ (s : StateClaim). IsPassing c.args.bound c.args.wcet c.args.tails.now s s.end) c.args.states.now c.loop-i.i c.index-states-i.result c.loop-i-test.true c.index-states-i.is
      (λ is. let e = c.is_passing.ensures.1 is in cc) all
      ),
)

pub loop-i-preserved : goal.loop-i-preserved
loop-i-preserved c =
    all_more (λ (s : StateClaim). IsPassing c.args.bound c.args.wcet c.args.tails.now s s.end) c.args.states.now c.loop-i.i c.index-states-i.result c.loop-i-test.true c.index-states-i.is
    (c.is_passing.ensures.0 c.if-not-is_passing.false) c.loop-i.invariant

pub returns : goal.returns
returns c = (λ e k d l. c.loop-i.invariant k d (omega (arith, l, c.loop-i-test.false)), λ all. refl)
