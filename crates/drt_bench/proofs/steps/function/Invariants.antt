use Rattle.std.proofs.Common.{ℕ, ◌≤◌}
use Rattle.drt_steps.specs.Values.{value_at}
use Rattle.drt_bench.proofs.steps.function.Given as goal

abbrev pub invariant-loop-i : goal.invariant-loop-i
invariant-loop-i l = (t : ℕ) → value_at l.function t ≤ l.i
