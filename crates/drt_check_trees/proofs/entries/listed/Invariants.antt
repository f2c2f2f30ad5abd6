-- The entries so far.
use Rattle.drt_check_trees.specs.Entries.{IsListed}
use Rattle.drt_check_trees.proofs.entries.listed.Given as goal

abbrev pub invariant-loop-i : goal.invariant-loop-i
invariant-loop-i l = IsListed l.bounded.graph.now l.tree.walks l.entries.items l.i
