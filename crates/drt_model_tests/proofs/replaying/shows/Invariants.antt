use Rattle.std.proofs.Common.{◌≤◌}
use Rattle.drt_model_tests.proofs.replaying.shows.Given as goal

abbrev pub invariant-loop-t : goal.invariant-loop-t
invariant-loop-t l = l.board.ticks ≤ l.t
