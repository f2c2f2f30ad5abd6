-- The rules of a claimed ratio: what a checker verifies of a ratio a / b, a cycle and potentials.
use Rattle.std.specs.Prelude.{◌≡◌, ◌≢◌, ℕ, ◌*◌, ℤ, pos, ◌-ℤ◌, ◌≤ℤ◌, List, [], ◌∷◌, Some, length}
use Rattle.drt_model.specs.Digraph.{Digraph, vertex_count}
use Rattle.drt_model.specs.Walk.{sep, wcet, work, IsCycle, cycle_span}
use Rattle.drt_graph.specs.Potential.{potential_of}

-- There are as many potentials as vertices.
abbrev pub ArePotentialsCounted : Digraph → List ℤ → Type 0
ArePotentialsCounted g hs = length hs ≡ vertex_count g

-- On each edge from u to v the gain of the edge is at most what the potential rises.
abbrev pub FitPotentials : Digraph → ℕ → ℕ → List ℤ → Type 0
FitPotentials g a b hs = (u v p : ℕ) → sep g u v ≡ Some p → (pos (b * wcet g v) -ℤ pos (a * p)) ≤ℤ (potential_of hs v -ℤ potential_of hs u)

-- The cycle is empty exactly where a is 0, and else each step of it, the closing one too, is an edge.
abbrev pub IsClosedCycle : Digraph → ℕ → List ℕ → Type 0
IsClosedCycle g a [] = a ≡ 0
IsClosedCycle g a (v ∷ vs) = (a ≢ 0) × IsCycle g (v ∷ vs)

-- The cycle, where it isn't empty, has the ratio a / b.
abbrev pub IsTight : Digraph → ℕ → ℕ → List ℕ → Type 0
IsTight g a b [] = Unit {0}
IsTight g a b (v ∷ vs) = b * work g (v ∷ vs) ≡ a * cycle_span g (v ∷ vs)

-- The claim keeps all four rules.
pub record ProvesRatio (g : Digraph) (a b : ℕ) (cycle : List ℕ) (hs : List ℤ) : Type 0 where
  pub counted : ArePotentialsCounted g hs
  pub fits : FitPotentials g a b hs
  pub closed : IsClosedCycle g a cycle
  pub tight : IsTight g a b cycle
