-- The pairs so far are those of the nodes so far.
use Rattle.std.proofs.Common.{◌≡◌, ◌+◌, ◌-◌, ◌≤◌}
use Rattle.drt_sp.specs.TaskTrees.{pairs_from}
use Rattle.drt_sp.proofs.trees.adding.pairs_from.Given as goal

abbrev pub invariant-pairs : goal.invariant-pairs
invariant-pairs l = (l.first ≤ l.node) × (l.node ≤ l.first + l.count) × (l.pairs.items ≡ pairs_from l.forest l.low l.first (l.node - l.first))
