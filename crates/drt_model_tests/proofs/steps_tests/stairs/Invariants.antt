use Rattle.std.proofs.Common.{ℕ, ◌+◌, ◌*◌, ◌≤◌}
use Rattle.drt_steps.specs.Values.{value_at}
use Rattle.drt_model_tests.proofs.steps_tests.stairs.Given as goal

abbrev pub invariant-loop-offset : goal.invariant-loop-offset
invariant-loop-offset l = (t : ℕ) → value_at l.function t ≤ l.value + l.offset-index * 1000
