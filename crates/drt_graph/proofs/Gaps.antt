-- Separations and gaps.
use Rattle.std.proofs.Common.{◌≡◌, ℕ, ◌≤◌, [], Some, None, refl, sym, ap, arith}
use Rattle.std.proofs.lemmas.List.{get_or_past}
use Rattle.drt_model.specs.Numbers.{most_time}
use Rattle.drt_model.specs.Digraph.{Digraph, IsSoundGraph, vertex_count, out_edges, no_vertex}
use Rattle.drt_model.specs.Walk.{wcet, sep_in, sep, or_zero, gap, IsEdge}
use Rattle.drt_graph.proofs.Edges.{target_of, gap_of}

-- No edge starts past the last vertex.
pub none_past : (g : Digraph) → IsSoundGraph g → (u v : ℕ) → vertex_count g ≤ u → None ≡ sep g u v
unfolding sep_in
none_past g sound u v l =
    let none : out_edges g u ≡ [] = get_or_past g.out u [] (omega (arith, sound.rows)) in
    rw none refl

-- A vertex past the last one takes no time.
pub idle_past : (g : Digraph) (v : ℕ) → vertex_count g ≤ v → 0 ≡ wcet g v
idle_past g v l = sym (ap (λ x. x.wcet) (get_or_past g.vertices v no_vertex l))

-- The gap is the separation, and of an edge it is at most 1,000,000.
pub gap_some : (g : Digraph) → IsSoundGraph g → (u v p : ℕ) → Some p ≡ sep g u v → (p ≡ gap g u v) × (p ≤ most_time)
gap_some g sound u v p e = (sym (gap_of g u v p (sym e)).0, (target_of g sound u v p (sym e)).2)

-- Where there is no separation, the gap is 0, and there is no edge.
pub gap_none : (g : Digraph) (u v : ℕ) → None ≡ sep g u v → 0 ≡ gap g u v
unfolding or_zero
gap_none g u v e = rw (sym e) refl

pub edge_some : (g : Digraph) (u v p : ℕ) → Some p ≡ sep g u v → IsEdge g u v
edge_some g u v p e = (gap_of g u v p (sym e)).1
