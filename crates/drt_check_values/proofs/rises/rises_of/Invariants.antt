-- The releases so far are those of the walks so far.
use Rattle.drt_check_values.proofs.Rising.{AreRisesTo}
use Rattle.drt_check_values.proofs.rises.rises_of.Given as goal

abbrev pub invariant-walks : goal.invariant-walks
invariant-walks l = AreRisesTo l.graph l.tree l.i l.rises.items
