-- The trees of the tasks at the places so far.
use Rattle.drt_sp_task.specs.Trees.{AreTreesUpTo}
use Rattle.drt_sp_task.proofs.trees.grow_trees.Given as goal

abbrev pub invariant-places : goal.invariant-places
invariant-places g l = AreTreesUpTo l.given l.place l.trees
