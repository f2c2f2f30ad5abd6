-- Those so far have no lane, and there is room for the others.
use Rattle.std.proofs.Common.{◌≡◌, ◌≤◌, length, vec_capacity}
use Rattle.drt_pool.specs.Turns.{EachPlace}
use Rattle.drt_wave.specs.Openers.{IsOpener}
use Rattle.drt_wave.proofs.opening.start_openers.Given as goal

abbrev pub invariant-workers : goal.invariant-workers
invariant-workers l = record {
  count : length l.openers.items ≡ l._worker;
  room : l.workers ≤ vec_capacity l.openers;
  each : EachPlace (λ place opener. IsOpener l.plan opener) l.openers.items;
}
