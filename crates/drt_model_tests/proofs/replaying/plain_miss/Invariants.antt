use Rattle.std.proofs.Common.{◌≤◌}
use Rattle.drt_model_tests.proofs.replaying.plain_miss.Given as goal

abbrev pub invariant-loop-k : goal.invariant-loop-k
invariant-loop-k l = l.index ≤ l.k
