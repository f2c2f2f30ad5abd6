-- The ways of the edges so far.
use Rattle.std.proofs.Common.{◌≡◌, ℕ, ◌<◌, length}
use Rattle.std.specs.Prelude.{slice_index_or}
use Rattle.drt_model.specs.Digraph.{edge_of}
use Rattle.drt_wave.specs.Ways.{IsWay, no_way}
use Rattle.drt_wave.proofs.ways.make_row.Given as goal

abbrev pub invariant-edges : goal.invariant-edges
invariant-edges l = (length l.ways.items ≡ l.k) × ((j : ℕ) → j < l.k → IsWay l.plan (edge_of l.plan.graph l.vertex j) (slice_index_or l.ways.items j no_way))
