use Rattle.std.proofs.Common.{◌≡◌, length}
use Rattle.drt_pool.specs.Turns.{EachPlace}
use Rattle.drt_shared_frontier.specs.Passes.{IsPassOfFrontier}
use Rattle.drt_workers_tests.proofs.frontier_driver.play_all.Given as goal

abbrev pub invariant-loop-i : goal.invariant-loop-i
invariant-loop-i g l = record {
  count : length l.passes ≡ length l.initial.passes;
  passes : EachPlace (λ place p. IsPassOfFrontier l.shared p) l.passes;
}
