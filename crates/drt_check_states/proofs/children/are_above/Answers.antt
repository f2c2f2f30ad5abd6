use Rattle.std.proofs.Common.{arith, refl}
use Rattle.drt_states.specs.States.{IsEntryAbove}
use Rattle.drt_check_states.proofs.Zips.{zip_all}
use Rattle.drt_check_states.proofs.children.are_above.Goals as goal

pub returns : goal.returns
returns c = (
  λ e. zip_all IsEntryAbove c.args.own.now c.args.other.now (omega (arith, c.if-own-other.false)) (λ k d b l. c.loop-i.invariant k d b (omega (arith, l, c.loop-i-test.false))),
  λ all. refl,
)
