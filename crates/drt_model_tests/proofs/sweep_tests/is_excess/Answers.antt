use Rattle.std.proofs.Common.{◌<◌}
use Rattle.drt_sweep.proofs.Thinned.{all_among}
use Rattle.drt_model_tests.proofs.sweep_tests.is_excess.Goals as goal

pub first_excess-requires-then-eq : goal.first_excess-requires-then-eq
first_excess-requires-then-eq c = all_among (λ w. w.task < 32) c.in_ok-due_works.field-0.items c.in_ok-left.left.items c.in_ok-left.ensures c.in_ok-due_works.ensures
