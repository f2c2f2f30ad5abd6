-- The nodes so far have their sizes.
use Rattle.drt_check_values.proofs.Placing.{AreSizesTo}
use Rattle.drt_check_values.proofs.places.sizes_of.Given as goal

abbrev pub invariant-pairs : goal.invariant-pairs
invariant-pairs l = AreSizesTo l.tree l.i l.sizes.items
