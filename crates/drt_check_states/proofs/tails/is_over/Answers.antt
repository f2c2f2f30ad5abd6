use Rattle.std.proofs.Common.{refl}
use Rattle.drt_states.specs.Tails.{no_jump}
use Rattle.drt_check_states.proofs.Values.{past_all}
use Rattle.drt_check_states.proofs.tails.is_over.Goals as goal

pub returns-then-jump-sep : goal.returns-then-jump-sep
returns-then-jump-sep c = (
  λ e. past_all c.args.bound c.args.wcet c.args.sep c.args.own.now c.args.other.now c.loop-jump.jump-index no_jump c.requires.other.rising c.loop-jump-test.true
      c.if-jump-sep.true c.loop-jump.invariant,
  λ all. refl,
)
