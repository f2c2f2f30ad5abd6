use Rattle.drt_merge.specs.Arcs.{AreArcsTo}
use Rattle.drt_merge.proofs.arcs.add_arcs.Given as goal

abbrev pub invariant-edges : goal.invariant-edges
invariant-edges l = AreArcsTo l.graph l.u l.k l.arcs.items
