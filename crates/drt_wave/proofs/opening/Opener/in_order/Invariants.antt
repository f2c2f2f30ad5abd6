-- The lanes of the vertices so far are in order, and there is room for the others.
use Rattle.std.proofs.Common.{◌≡◌, ◌≤◌, length, vec_capacity}
use Rattle.drt_wave.specs.Openers.{IsOpener}
use Rattle.drt_wave.specs.Tables.{AreOpened}
use Rattle.drt_wave.proofs.opening.Opener.in_order.Given as goal

abbrev pub invariant-vertices : goal.invariant-vertices
invariant-vertices l = record {
  opener : IsOpener l.plan l.opener;
  count : length l.lanes.items ≡ l.vertex;
  room : (l.count ≤ vec_capacity l.lanes) × (l.count ≤ vec_capacity l.seats);
  opened : AreOpened l.plan 0 l.lanes.items l.seats.items;
}
