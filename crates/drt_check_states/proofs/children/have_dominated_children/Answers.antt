use Rattle.std.proofs.Common.{arith, refl, subst, sym}
use Rattle.drt_states.specs.States.{IsSplitting, IsState}
use Rattle.drt_states.specs.declared.claims.StateClaim.{StateClaim}
use Rattle.drt_check_states.specs.Places.{graphs_at}
use Rattle.drt_check_states.proofs.Items.{all_more, all_not}
use Rattle.drt_check_states.proofs.children.have_dominated_children.Goals as goal

pub is_splitting-requires-clause-state : goal.is_splitting-requires-clause-state
is_splitting-requires-clause-state c =
    subst (IsState (graphs_at c.args.graphs.now c.args.order.now)) (sym c.index-states-i.is) (c.requires.states.each c.loop-i.i c.index-states-i.result c.loop-i-test.true)

pub returns-then-not-is_splitting : goal.returns-then-not-is_splitting
returns-then-not-is_splitting c = (
  λ e. absurd (cc),
  λ all. absurd (
      all_not (λ (s : StateClaim). IsSplitting (graphs_at c.args.graphs.now c.args.order.now) c.args.deadline c.args.states.now s s.end) c.args.states.now c.loop-i.i c.index-states-i.result
      c.loop-i-test.true c.index-states-i.is (λ is. let e = c.is_splitting.ensures.1 is in cc) all
      ),
)

pub loop-i-preserved : goal.loop-i-preserved
loop-i-preserved c =
    all_more (λ (s : StateClaim). IsSplitting (graphs_at c.args.graphs.now c.args.order.now) c.args.deadline c.args.states.now s s.end) c.args.states.now c.loop-i.i c.index-states-i.result
    c.loop-i-test.true c.index-states-i.is (c.is_splitting.ensures.0 c.if-not-is_splitting.false) c.loop-i.invariant

pub returns : goal.returns
returns c = (λ e k d l. c.loop-i.invariant k d (omega (arith, l, c.loop-i-test.false)), λ all. refl)
