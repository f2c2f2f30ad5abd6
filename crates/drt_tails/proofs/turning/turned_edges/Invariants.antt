use Rattle.drt_tails.specs.Turned.{AreTurnedTo}
use Rattle.drt_tails.proofs.turning.turned_edges.Given as goal

abbrev pub invariant-vertices : goal.invariant-vertices
invariant-vertices l = AreTurnedTo l.graph l.u 0 l.edges.items
