use Rattle.drt_tails.specs.Turned.{AreTurnedTo}
use Rattle.drt_tails.proofs.turning.add_turned.Given as goal

abbrev pub invariant-edges : goal.invariant-edges
invariant-edges l = AreTurnedTo l.graph l.u l.k l.edges.items
