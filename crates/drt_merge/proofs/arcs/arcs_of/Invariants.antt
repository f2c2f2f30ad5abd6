use Rattle.drt_merge.specs.Arcs.{AreArcsTo}
use Rattle.drt_merge.proofs.arcs.arcs_of.Given as goal

abbrev pub invariant-vertices : goal.invariant-vertices
invariant-vertices l = AreArcsTo l.graph l.u 0 l.arcs.items
