-- The walks of the entries so far are closed.
use Rattle.std.proofs.Common.{ℕ, ◌<◌, [], get_or}
use Rattle.drt_claims.specs.Trees.{IsClosedWalk}
use Rattle.drt_check_trees.specs.declared.entries.Entry.{Entry}
use Rattle.drt_check_trees.proofs.covering.are_closed.Given as goal

abbrev pub invariant-loop-i : goal.invariant-loop-i
invariant-loop-i l = (j : ℕ) (d : Entry) → j < l.i
    → IsClosedWalk l.bounded.bound l.bounded.graph.now l.catalogue.tree.now (get_or l.catalogue.tree.now.walks (get_or l.catalogue.entries.now j d).number [])
