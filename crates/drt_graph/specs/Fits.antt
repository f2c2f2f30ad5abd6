-- Potentials that fit the edges, edge by edge, and how far potentials reach.
use Rattle.std.specs.Prelude.{ℕ, ◌*◌, ◌<◌, ℤ, pos, negsuc, ◌-ℤ◌, ◌≤ℤ◌, List}
use Rattle.drt_model.specs.Digraph.{Digraph, vertex_count, out_degree, edge_of}
use Rattle.drt_model.specs.Walk.{wcet}
use Rattle.drt_graph.specs.Potential.{potential_of}
use Rattle.drt_model.specs.Numbers.{most_height}

-- On the k-th edge out of u the gain of the edge is at most what the potential rises.
abbrev pub Allows : Digraph → ℕ → ℕ → List ℤ → ℕ → ℕ → Type 0
Allows g a b hs u k = (pos (b * wcet g (edge_of g u k).to) -ℤ pos (a * (edge_of g u k).sep)) ≤ℤ (potential_of hs (edge_of g u k).to -ℤ potential_of hs u)

-- It is so on each edge.
abbrev pub AllowAll : Digraph → ℕ → ℕ → List ℤ → Type 0
AllowAll g a b hs = (u k : ℕ) → u < vertex_count g → k < out_degree g u → Allows g a b hs u k

-- The potential of each vertex is within 10^16 of 0.
abbrev pub AreNear : Digraph → List ℤ → Type 0
AreNear g hs = (v : ℕ) → v < vertex_count g → (negsuc 9999999999999999 ≤ℤ potential_of hs v) × (potential_of hs v ≤ℤ pos most_height)
