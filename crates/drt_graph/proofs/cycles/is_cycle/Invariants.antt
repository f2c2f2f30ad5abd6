-- What is left of the list goes on from the vertex before.
use Rattle.drt_graph.proofs.Rests.{IsRest}
use Rattle.drt_graph.proofs.cycles.is_cycle.Given as goal

abbrev pub invariant-steps : goal.invariant-steps
invariant-steps l = IsRest l.graph l.cycle l.at l.v-index
