-- The greatest ratio of a graph with its evidence.
use Rattle.std.specs.Prelude.{ℕ, ◌<◌, ◌≤◌, ℤ, pos, ◌≤ℤ◌, List}
use Rattle.std.specs.Int.{IsGcd}
use Rattle.drt_model.specs.Numbers.{most_cycle, most_height}
use Rattle.drt_model.specs.Digraph.{Digraph, vertex_count}
use Rattle.drt_model.specs.Utilisation.{BoundsCycles, HasRatio, AreDistinct}
use Rattle.drt_graph.specs.Potential.{potential_of, AreCanonical}

-- The ratio a / b is that of the graph, in lowest terms; the cycle has it and names each vertex at most once, and is empty
-- exactly at 0 / 1; the potentials are the canonical ones.
pub record IsRatioProof (g : Digraph) (a b : ℕ) (cycle : List ℕ) (hs : List ℤ) : Type 0 where
  pub lowest : IsGcd a b 1
  pub least : BoundsCycles g a b
  pub has : HasRatio g a b cycle
  pub distinct : AreDistinct cycle
  pub canonical : AreCanonical g a b hs

-- The ratio's numbers are at most 100,000,000, the denominator isn't 0, and the potentials lie in 0 to 10,000,000,000,000,000.
pub record IsInReach (g : Digraph) (a b : ℕ) (hs : List ℤ) : Type 0 where
  pub num : a ≤ most_cycle
  pub some : 1 ≤ b
  pub den : b ≤ most_cycle
  pub low : (v : ℕ) → v < vertex_count g → pos 0 ≤ℤ potential_of hs v
  pub high : (v : ℕ) → v < vertex_count g → potential_of hs v ≤ℤ pos most_height
