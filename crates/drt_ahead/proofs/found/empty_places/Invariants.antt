-- The places so far, with nothing in them.
use Rattle.std.proofs.Common.{◌≡◌, All, None, length}
use Rattle.drt_ahead.proofs.found.empty_places.Given as goal

abbrev pub invariant-loop : goal.invariant-loop
invariant-loop g l = record {
  count : length l.found.items ≡ l.counter;
  none : All (λ slot. slot ≡ None) l.found.items;
}
