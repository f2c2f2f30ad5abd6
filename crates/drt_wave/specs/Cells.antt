-- The cells of a graph, their waves, and the walks that they are about.
use Rattle.std.specs.Prelude.{◌≡◌, ℕ, ◌+◌, ◌-◌, ◌*◌, ◌/◌, ◌%◌, ◌<◌, ◌≤◌, min, nat_le, ◌==◌, ◌&&◌, if◌then◌else◌, List, [], ◌∷◌}
use Rattle.drt_model.specs.declared.tasks.Edge.{Edge}
use Rattle.drt_model.specs.Digraph.{IsSoundGraph, vertex_count, out_edges, out_degree, edge_of}
use Rattle.drt_model.specs.Walk.{wcet, deadline}
use Rattle.drt_wave.specs.declared.plan.Plan.{Plan}
use Rattle.drt_wave.specs.Net.{Net}

-- The greatest number of cells of a table: 2^22.
abbrev pub most_cells : ℕ
most_cells = 4194304

-- how many offsets there are
abbrev pub width : Plan → ℕ
width p = p.bound + 1

-- how many offsets a wave has
abbrev pub offsets : Plan → ℕ → ℕ
offsets p j = min p.span (width p - j * p.span)

-- the cell of a vertex and an offset
abbrev pub cell_at : Plan → ℕ → ℕ → ℕ
cell_at p v s = v * width p + s

-- the arcs from offset s along some edges, where the last job is due within the bound
abbrev pub arcs_from : Plan → ℕ → List Edge → List (ℕ × ℕ)
arcs_from p s [] = []
arcs_from p s (e ∷ es) = if nat_le (s + e.sep + deadline p.graph e.to) p.bound then (cell_at p e.to (s + e.sep), wcet p.graph e.to) ∷ arcs_from p s es else arcs_from p s es

-- the cells of a graph, worked in waves: number k of wave j is the k-th cell of the wave in order of cells
abbrev pub net_of : Plan → Net
net_of p = record {
  cells = vertex_count p.graph * width p;
  waves = p.bound / p.span + 1;
  size = λ j. vertex_count p.graph * offsets p j;
  cell = λ j k. cell_at p (k / offsets p j) (j * p.span + k % offsets p j);
  wave = λ c. c % width p / p.span;
  opens = λ c. if (c % width p == 0) && nat_le (deadline p.graph (c / width p)) p.bound then wcet p.graph (c / width p) else 0;
  arcs = λ c. arcs_from p (c % width p) (out_edges p.graph (c / width p));
}

-- The graph is sound, there are at most 2^22 cells, and the span, which is more than 0, is the least separation, or all offsets where that is less:
-- the greatest number that is at most each separation and at most how many offsets there are.
pub record IsWavePlan (p : Plan) : Type 0 where
  pub sound : IsSoundGraph p.graph
  pub small : vertex_count p.graph * width p ≤ most_cells
  pub some : 0 < p.span
  pub apart : (v k : ℕ) → v < vertex_count p.graph → k < out_degree p.graph v → p.span ≤ (edge_of p.graph v k).sep
  pub within : p.span ≤ width p
  pub greatest : (n : ℕ) → n ≤ width p → ((v k : ℕ) → v < vertex_count p.graph → k < out_degree p.graph v → n ≤ (edge_of p.graph v k).sep) → n ≤ p.span

-- The vertices of the list, the last first, and then v are a walk, the sum of its separations is s, that of its execution times is x, and each of its prefixes is in range
abbrev pub WalkTo : Plan → ℕ → List ℕ → ℕ → ℕ → Type 0
WalkTo p v [] s x = (v < vertex_count p.graph) × (s ≡ 0) × (x ≡ wcet p.graph v) × (deadline p.graph v ≤ p.bound)
WalkTo p v (u ∷ before) s x = (k : ℕ) × (r : ℕ) × (y : ℕ) × WalkTo p u before r y × (k < out_degree p.graph u) × ((edge_of p.graph u k).to ≡ v) × (s ≡ r +
    (edge_of p.graph u k).sep) × (x ≡ y + wcet p.graph v) × (s + deadline p.graph v ≤ p.bound)
