-- The seats of the first lanes are split.
use Rattle.std.proofs.Common.{◌≡◌}
use Rattle.std.specs.Prelude.{vec_capacity}
use Rattle.drt_wave.proofs.Parting.{Cutting}
use Rattle.drt_wave.proofs.table.WaveTable.split_into.Given as goal

abbrev pub invariant-lanes : goal.invariant-lanes
invariant-lanes l = record {
  claims : l.seat.claims ≡ l.fn.seat.claims;
  room : vec_capacity l.seat.lanes ≡ vec_capacity l.fn.seat.lanes;
  cut_room : vec_capacity l.cut ≡ vec_capacity l.fn.room;
  cut : Cutting l.self.lanes l.fn.seat.lanes.items l.seat.lanes.items l.cut.items l.v;
}
