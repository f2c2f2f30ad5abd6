-- The walks so far are those of the leaves so far.
use Rattle.std.proofs.Common.{◌≡◌, ◌+◌, ◌-◌, ◌≤◌}
use Rattle.drt_sp.specs.TaskTrees.{walks_from}
use Rattle.drt_sp.proofs.trees.adding.walks_from.Given as goal

abbrev pub invariant-leaves : goal.invariant-leaves
invariant-leaves l = (l.low ≤ l.leaf) × (l.leaf ≤ l.low + l.count) × (l.walks.items ≡ walks_from l.forest l.low (l.leaf - l.low))
