use Rattle.std.proofs.Common.{◌≡◌, ◌+◌, ◌++◌, drop}
use Rattle.drt_classic.specs.Digraphs.{tasks_from}
use Rattle.drt_classic.proofs.digraphs.tasks_of.Given as goal

abbrev pub invariant-loop-i : goal.invariant-loop-i
invariant-loop-i l = l.digraphs.items ++ tasks_from (l.i + 1) (drop l.i l.tasks) ≡ tasks_from 1 l.tasks
