-- The root and the parts of the pairs so far have their places.
use Rattle.drt_check_values.proofs.Placing.{AreFirstsFrom}
use Rattle.drt_check_values.proofs.places.firsts_of.Given as goal

abbrev pub invariant-pairs : goal.invariant-pairs
invariant-pairs l = AreFirstsFrom l.tree l.i l.firsts.items
