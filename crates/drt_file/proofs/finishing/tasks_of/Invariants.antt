use Rattle.std.proofs.Common.{◌≡◌, map}
use Rattle.drt_file.specs.internal.Steps.{task_of}
use Rattle.drt_file.proofs.finishing.tasks_of.Given as goal

abbrev pub invariant-loop-d : goal.invariant-loop-d
invariant-loop-d l = l.tasks.items ≡ map task_of l.yielded
