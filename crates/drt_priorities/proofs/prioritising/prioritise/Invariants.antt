-- The tasks so far have their priorities.
use Rattle.std.proofs.Common.{◌≡◌, take}
use Rattle.drt_priorities.specs.Priorities.{prioritised}
use Rattle.drt_priorities.proofs.prioritising.prioritise.Given as goal

abbrev pub invariant-loop-k : goal.invariant-loop-k
invariant-loop-k l = l.tasks.items ≡ prioritised l.initial.tasks.items (take l.k l.priorities)
