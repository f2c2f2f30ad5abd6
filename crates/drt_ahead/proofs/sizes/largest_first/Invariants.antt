-- The places so far are those of sizes.
use Rattle.std.specs.Prelude.{◌≡◌, ◌<◌, length}
use Rattle.std.specs.List.{All}
use Rattle.drt_ahead.proofs.sizes.largest_first.Given as goal

abbrev pub invariant-loop-place : goal.invariant-loop-place
invariant-loop-place l = (length l.places.items ≡ l.place) × All (λ i. i < length l.sizes) l.places.items
