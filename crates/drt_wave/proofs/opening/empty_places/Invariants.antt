-- The places so far are empty, and there is room for the others.
use Rattle.std.proofs.Common.{◌≡◌, ◌≤◌, length, vec_capacity}
use Rattle.drt_wave.proofs.Places.{AreEmpty}
use Rattle.drt_wave.proofs.opening.empty_places.Given as goal

abbrev pub invariant-places : goal.invariant-places
invariant-places l = record {
  count : length l.places.items ≡ l._place;
  room : l.count ≤ vec_capacity l.places;
  empty : AreEmpty l.places.items;
}
