use Rattle.std.proofs.Common.{◌≡◌, drop}
use Rattle.drt_table.specs.Machine.{shortest}
use Rattle.drt_table.specs.Earliest.{smaller}
use Rattle.drt_table.proofs.shortest.shortest.Given as goal

-- the least so far and the least of the rows that are left make that of all
abbrev pub invariant-loop-v : goal.invariant-loop-v
invariant-loop-v l = smaller l.least (shortest (drop l.v l.graph.out)) ≡ shortest l.graph.out
