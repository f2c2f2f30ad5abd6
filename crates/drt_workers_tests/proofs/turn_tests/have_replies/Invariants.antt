use Rattle.std.proofs.Common.{◌≡◌, length}
use Rattle.drt_demand.specs.Demand.{demand_algebra}
use Rattle.drt_pool.specs.Turns.{EachPlace}
use Rattle.drt_shared.specs.Passes.{IsPassOf}
use Rattle.drt_workers_tests.proofs.turn_tests.have_replies.Given as goal

abbrev pub invariant-turns : goal.invariant-turns
invariant-turns g l = record {
  count : length l.passes ≡ length l.initial.passes;
  passes : EachPlace (λ place p. IsPassOf demand_algebra l.search.shared.now p) l.passes;
}
