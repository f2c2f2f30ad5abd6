-- The separations of a graph, laid out for looking them up.
use Rattle.std.specs.Prelude.{◌≡◌, ℕ, ◌+◌, ◌*◌, ◌<◌, ◌≤◌, List, [], ◌∷◌, length, drop, slice_index}
use Rattle.drt_model.specs.Numbers.{most_time}
use Rattle.drt_model.specs.Digraph.{Digraph}
use Rattle.drt_model.specs.Walk.{gap}
use Rattle.drt_check_trees.specs.declared.gaps.Bounded.{Bounded}

-- A row of 96 numbers for each of 96 vertices has the separations of the edges out of it, and 0 where there is no edge.
pub record AreGaps (g : Digraph) (gaps : List ℕ) : Type 0 where
  pub long : length gaps ≡ 9216
  pub each : (u v : ℕ) → u < 96 → v < 96 → slice_index gaps (96 * u + v) ≡ gap g u v
  pub small : (k : ℕ) → slice_index gaps k ≤ most_time

-- The graph's separations are laid out, and the bound is a time.
pub record IsBoundedGraph (b : Bounded) : Type 0 where
  pub gaps : AreGaps b.graph.now b.gaps.now
  pub bound : b.bound ≤ most_time

-- The separation from u to the first of some vertices, and 0 where there is none.
abbrev pub gap_to : Digraph → ℕ → List ℕ → ℕ
gap_to g u [] = 0
gap_to g u (v ∷ vs) = gap g u v

-- How long after the release at a place of the walk the next one comes.
abbrev pub leap : Digraph → List ℕ → ℕ → ℕ
leap g walk i = gap_to g (slice_index walk i) (drop (i + 1) walk)
