-- A walk extended by an edge out of its last vertex.
use Rattle.std.proofs.Common.{◌≡◌, ℕ, ◌+◌, ◌<◌, ◌≤◌, inl, inr, List, [], ◌∷◌, ◌++◌, sym, arith}
use Rattle.std.specs.Prelude.{◌↔◌, Any}
use Rattle.drt_model.specs.Digraph.{Digraph, IsSoundGraph, edge_of, out_degree, vertex_count}
use Rattle.drt_model.specs.Walk.{IsEdge, gap, last_of, wcet, work, span_of}
use Rattle.drt_graph.proofs.Edges.{gap_of, sep_of_edge}
use Rattle.drt_graph.proofs.Paths.{path_both, span_both, span_cons, span_none, work_both, work_cons, work_none}
use Rattle.drt_claims.specs.Trees.{IsClosedWalk, IsShortWalk}
use Rattle.drt_claims.specs.declared.evidence.TreeClaim.{TreeClaim}
use Rattle.drt_check_trees.specs.Entries.{IsExtendedBy, IsWalkOver, last_in}
use Rattle.drt_check_trees.proofs.Dominators.{short_last}

pub work_longer : (g : Digraph) (walk : List ℕ) (v : ℕ) → work g (walk ++ v ∷ []) ≡ work g walk + wcet g v
work_longer g walk v = let a = work_both g walk (v ∷ []) in let b = work_cons g v [] in let c = work_none g in omega (arith, a, b, c)

module _ (g : Digraph) (sound : IsSoundGraph g) (bound k : ℕ) where
  step : (u : ℕ) → u < vertex_count g → k < out_degree g u → (gap g u (edge_of g u k).to ≡ (edge_of g u k).sep) × IsEdge g u (edge_of g u k).to
  step u l m = gap_of g u (edge_of g u k).to (edge_of g u k).sep (sep_of_edge g sound u k l m)

  pub span_longer : (walk : List ℕ) → IsShortWalk bound g walk → k < out_degree g (last_in walk)
      → span_of g (walk ++ (edge_of g (last_in walk) k).to ∷ []) ≡ span_of g walk + (edge_of g (last_in walk) k).sep
  span_longer [] is l = absurd is
  span_longer (u ∷ vs) is l =
      let w = last_of u vs in
      let to : ℕ = (edge_of g (last_of u vs) k).to in
      let a = span_both g u vs (to ∷ []) in
      let b = span_cons g (last_of u vs) to [] in
      let c = span_none g to in
      let d = (step (last_of u vs) (short_last g sound bound (u ∷ vs) is) l).0 in
      omega (arith, a, b, c, d)

  pub short_longer : (walk : List ℕ) → IsShortWalk bound g walk → k < out_degree g (last_in walk)
      → span_of g walk + (edge_of g (last_in walk) k).sep < bound → IsShortWalk bound g (walk ++ (edge_of g (last_in walk) k).to ∷ [])
  short_longer [] is l below = absurd is
  short_longer (u ∷ vs) is l below =
      let to : ℕ = (edge_of g (last_of u vs) k).to in
      let s = span_longer (u ∷ vs) is l in
      let e = (step (last_of u vs) (short_last g sound bound (u ∷ vs) is) l).1 in
      (is.0, path_both g u vs (to ∷ []) is.1 (e, tt), omega (arith, s, below))

module _ (g : Digraph) (bound k : ℕ) (tree : TreeClaim) where
  -- It is extended where the longer walk spans as much as the bound,
  pub extended_far : (walk : List ℕ) → IsShortWalk bound g walk → bound ≤ span_of g walk + (edge_of g (last_in walk) k).sep → IsExtendedBy bound g tree walk k
  extended_far [] is far = absurd is
  extended_far (u ∷ vs) is far = inl far

  -- or else exactly where a walk of the tree dominates it.
  pub extended_near : (walk : List ℕ) → IsShortWalk bound g walk → span_of g walk + (edge_of g (last_in walk) k).sep < bound
      → IsExtendedBy bound g tree walk k ↔ Any (IsWalkOver bound g (walk ++ (edge_of g (last_in walk) k).to ∷ [])) tree.walks
  extended_near [] is near = absurd is
  extended_near (u ∷ vs) is near = (goes, λ any. inr any)
    where
      goes : IsExtendedBy bound g tree (u ∷ vs) k → Any (IsWalkOver bound g (u ∷ vs ++ (edge_of g (last_of u vs) k).to ∷ [])) tree.walks
      goes (inl far) = absurd (omega (arith, near))
      goes (inr any) = any

-- All extensions of a walk.
pub closed_all : (g : Digraph) (bound : ℕ) (tree : TreeClaim) (walk : List ℕ) → IsShortWalk bound g walk
    → IsClosedWalk bound g tree walk ↔ ((k : ℕ) → k < out_degree g (last_in walk) → IsExtendedBy bound g tree walk k)
closed_all g bound tree [] is = absurd is
closed_all g bound tree (u ∷ vs) is = (λ closed. closed, λ each. each)

-- The walk of one vertex.
pub short_opening : (g : Digraph) (bound v : ℕ) → 1 ≤ bound → v < vertex_count g → IsShortWalk bound g (v ∷ [])
short_opening g bound v b l = let s = span_none g v in (l, tt, omega (arith, s, b))

pub span_opening : (g : Digraph) (v : ℕ) → 0 ≡ span_of g (v ∷ [])
span_opening g v = sym (span_none g v)

pub work_opening : (g : Digraph) (v : ℕ) → wcet g v ≡ work g (v ∷ [])
work_opening g v = let a = work_cons g v [] in let b = work_none g in omega (arith, a, b)
