-- The last lanes are closed.
use Rattle.drt_wave.proofs.Parting.{Closing}
use Rattle.std.specs.Prelude.{length}
use Rattle.drt_wave.proofs.table.WaveTable.close.Given as goal

abbrev pub invariant-lanes : goal.invariant-lanes
invariant-lanes l = Closing l.fn.self.plan l.fn.self.lanes l.lanes.items l.fn.seat.lanes.items l.seats.items l.columns.items

abbrev pub decreases-lanes : goal.decreases-lanes
decreases-lanes l = length l.lanes.items
