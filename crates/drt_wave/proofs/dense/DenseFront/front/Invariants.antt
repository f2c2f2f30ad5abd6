-- The entries are gathered up to the vertex.
use Rattle.drt_wave.specs.Gathered.{AreCellsGathered}
use Rattle.drt_wave.proofs.dense.DenseFront.front.Given as goal

abbrev pub invariant-vertices : goal.invariant-vertices
invariant-vertices l = AreCellsGathered l.self l.vertex 0 l.front.items
