-- The ways out of the vertices so far.
use Rattle.std.proofs.Common.{◌≡◌, ℕ, ◌<◌, length, []}
use Rattle.std.specs.Prelude.{slice_index_or}
use Rattle.drt_wave.specs.Ways.{IsWayRow}
use Rattle.drt_wave.proofs.ways.make_ways.Given as goal

abbrev pub invariant-vertices : goal.invariant-vertices
invariant-vertices l = (length l.rows.items ≡ l.vertex) × ((u : ℕ) → u < l.vertex → IsWayRow l.plan u (slice_index_or l.rows.items u []))
