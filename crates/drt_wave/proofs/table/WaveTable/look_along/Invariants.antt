-- The seats of the lanes below v have looked, and the others stand as they did.
use Rattle.drt_wave.proofs.Seating.{HaveLooked}
use Rattle.drt_wave.proofs.table.WaveTable.look_along.Given as goal

abbrev pub invariant-lanes : goal.invariant-lanes
invariant-lanes l = HaveLooked l.self l.fn.wave l.fn.seat l.seat l.v
