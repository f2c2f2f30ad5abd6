-- The step times so far are counted, and none has more work than time.
use Rattle.std.proofs.Common.{◌≡◌, ◌+◌, ◌*◌, ◌≤◌, ◌<◌}
use Rattle.drt_horizon.specs.CycleTurns.{IsStepTime, HasNoOverloadBelow, steps_to}
use Rattle.drt_horizon.proofs.searching.search.Given as goal

abbrev pub invariant-steps : goal.invariant-steps
invariant-steps l = record {
  count : steps_to l.cycle_turns l.t ≡ l.counter;
  clear : HasNoOverloadBelow l.cycle_turns (l.t + 1);
  step : 0 < l.counter → IsStepTime l.cycle_turns l.t;
  near : l.t ≤ l.counter * 100000000;
}
