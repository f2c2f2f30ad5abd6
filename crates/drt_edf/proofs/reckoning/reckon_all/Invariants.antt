-- There are as many numbers as tasks so far.
use Rattle.std.proofs.Common.{◌≡◌, length}
use Rattle.drt_edf.proofs.reckoning.reckon_all.Given as goal

abbrev pub invariant-tasks : goal.invariant-tasks
invariant-tasks l = record {
  count : length l.steps.items ≡ l.task;
}
