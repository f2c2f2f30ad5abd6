-- The extensions by the edges so far are dominated, or span as much as the bound.
use Rattle.std.proofs.Common.{ℕ, ◌<◌}
use Rattle.drt_check_trees.specs.Entries.{IsExtendedBy}
use Rattle.drt_check_trees.proofs.covering.is_closed.Given as goal

abbrev pub invariant-loop-k : goal.invariant-loop-k
invariant-loop-k l = (j : ℕ) → j < l.k → IsExtendedBy l.bounded.bound l.bounded.graph.now l.catalogue.tree.now l.walk j
