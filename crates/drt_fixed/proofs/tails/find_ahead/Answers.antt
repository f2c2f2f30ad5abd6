-- Each place that is looked at is one of a task.
use Rattle.std.proofs.Common.{length, ap, arith}
use Rattle.drt_fixed.proofs.tails.find_ahead.Goals as goal

pub look_ahead-requires-clause-accepts : goal.look_ahead-requires-clause-accepts
look_ahead-requires-clause-accepts g c κs within = λ i less. (
  c.requires,
  omega (arith, less, ap length c.as_slice.ensures.value, c.in_ok-first.ensures.most, ap length c.deref-2.ensures.value, c.in_ok-sizes.ensures),
)
