-- The places so far, with nothing in them.
use Rattle.std.proofs.Common.{◌≡◌, All, None, length}
use Rattle.drt_sp.proofs.parts.no_parts.Given as goal

abbrev pub invariant-loop : goal.invariant-loop
invariant-loop l = record {
  count : length l.parts.items ≡ l.counter;
  none : All (λ part. part ≡ None) l.parts.items;
}
