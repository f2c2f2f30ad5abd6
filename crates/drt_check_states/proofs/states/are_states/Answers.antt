use Rattle.std.proofs.Common.{◌<◌, length, arith, refl}
use Rattle.std.proofs.lemmas.Grind.{common_steps}
use Rattle.drt_states.specs.States.{IsOpening, IsState}
use Rattle.drt_check_states.specs.Places.{graphs_at}
use Rattle.drt_check_states.proofs.Items.{all_more, all_not, first_is}
use Rattle.drt_check_states.proofs.states.are_states.Goals as goal

pub returns-then-not-is_state : goal.returns-then-not-is_state
returns-then-not-is_state c = (
  λ e. absurd (cc),
  λ are. absurd (
      all_not (IsState (graphs_at c.args.graphs.now c.args.order.now)) c.args.states.now c.loop-i.i c.index-states-i.result c.loop-i-test.true c.index-states-i.is
      (λ is. let e = c.is_state.ensures.1 is in cc) are.each
      ),
)

pub loop-i-preserved : goal.loop-i-preserved
loop-i-preserved c =
    all_more (IsState (graphs_at c.args.graphs.now c.args.order.now)) c.args.states.now c.loop-i.i c.index-states-i.result c.loop-i-test.true c.index-states-i.is
    (c.is_state.ensures.0 c.if-not-is_state.false)
    c.loop-i.invariant

some : (c : goal.After-loop-i) → 0 < length c.args.states.now
some c = grind (arith, common_steps)

pub returns : goal.returns
returns c = (
  λ e. record {
    opens = first_is IsOpening c.args.states.now c.index-states-0.result (some c) c.index-states-0.is (c.is_opening.ensures.0 c.if-not-is_opening.false);
    each = λ k d l. c.loop-i.invariant k d (omega (arith, l, c.loop-i-test.false));
  },
  λ are. refl,
)
