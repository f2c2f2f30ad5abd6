-- The entries are gathered up to the offset, and so is the greatest work.
use Rattle.drt_wave.specs.Gathered.{AreCellsGathered, IsMost}
use Rattle.drt_wave.proofs.dense.DenseFront.add_vertex.Given as goal

abbrev pub invariant-offsets : goal.invariant-offsets
invariant-offsets l = IsMost l.self l.vertex l.offset l.most × AreCellsGathered l.self l.vertex l.offset l.front.items
