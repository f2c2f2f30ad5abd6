-- The seats of the last lanes are joined.
use Rattle.std.proofs.Common.{◌≡◌}
use Rattle.std.specs.Prelude.{vec_capacity, length}
use Rattle.drt_wave.proofs.Parting.{Gluing}
use Rattle.drt_wave.proofs.table.WaveTable.join_back.Given as goal

abbrev pub invariant-lanes : goal.invariant-lanes
invariant-lanes l = record {
  claims : l.seat.claims ≡ l.initial.seat.claims;
  room : vec_capacity l.seat.lanes ≡ vec_capacity l.fn.seat.lanes;
  other_room : vec_capacity l.others ≡ vec_capacity l.fn.other.lanes;
  glue : Gluing l.self.lanes l.fn.seat.lanes.items l.fn.other.lanes.items l.seat.lanes.items l.others.items;
}

abbrev pub decreases-lanes : goal.decreases-lanes
decreases-lanes l = length l.others.items
