-- What is left of a walk, step by step.
use Rattle.std.proofs.Common.{◌≡◌, ℕ, ◌+◌, ◌<◌, ◌≤◌, List, [], ◌∷◌, Some, None, length, get_or, drop, sym, arith, ◌∙◌}
use Rattle.std.specs.Prelude.{◌↔◌}
use Rattle.std.proofs.lemmas.List.{drop_more, drop_all}
use Rattle.drt_model.specs.Digraph.{Digraph, IsSoundGraph, vertex_count}
use Rattle.drt_model.specs.Walk.{IsPath, gap, sep, span}
use Rattle.drt_graph.proofs.Edges.{gap_of, target_of}
use Rattle.drt_graph.proofs.Paths.{span_cons, span_none}
use Rattle.drt_claims.specs.Trees.{IsShortWalk}

-- From a vertex of this offset on, the rest follows edges and stays below the bound.
abbrev pub IsRest : ℕ → Digraph → ℕ → ℕ → List ℕ → Type 0
IsRest bound g at offset rest = IsPath g at rest × (offset + span g at rest < bound)

-- The walk is short exactly where its rest is.
pub record GoesOn (bound : ℕ) (g : Digraph) (walk : List ℕ) (at offset i : ℕ) : Type 0 where
  pub vertex : at < vertex_count g
  pub below : offset < bound
  pub same : IsShortWalk bound g walk ↔ IsRest bound g at offset (drop i walk)

module _ (bound : ℕ) (g : Digraph) where
  pub no_walk : (walk : List ℕ) → length walk ≡ 0 → IsShortWalk bound g walk → ⊥
  no_walk [] e is = is
  no_walk (u ∷ vs) e is = absurd (omega arith)

  pub no_vertex_first : (walk : List ℕ) → vertex_count g ≤ get_or walk 0 0 → IsShortWalk bound g walk → ⊥
  no_vertex_first [] l is = is
  no_vertex_first (u ∷ vs) l is = omega (arith, is.0)

  pub starts : (walk : List ℕ) → 1 ≤ bound → 0 < length walk → get_or walk 0 0 < vertex_count g → GoesOn bound g walk (get_or walk 0 0) 0 1
  starts [] b l m = absurd (omega arith)
  starts (u ∷ vs) b l m = record { vertex = m; below = b; same = (λ is. (is.1, omega (arith, is.2)), λ r. (m, r.0, omega (arith, r.1))) }

  module _ (walk : List ℕ) (at offset i : ℕ) (on : GoesOn bound g walk at offset i) where
    pub ends : length walk ≤ i → IsShortWalk bound g walk
    ends l =
        let e = drop_all i walk l in
        let b = on.below in
        on.same.1 (rw e (tt, (let s = span_none g at in omega (arith, s, b))))

    module _ (l : i < length walk) where
      v : ℕ
      v = get_or walk i 0

      split : drop i walk ≡ get_or walk i 0 ∷ drop (i + 1) walk
      split = drop_more walk i 0 l

      pub broken : None ≡ sep g at (get_or walk i 0) → IsShortWalk bound g walk → ⊥
      broken none is = let r = rw split at (on.same.0 is) in absurd (differ (none ∙ r.0.0))
        where
          differ : None ≡ Some (gap g at (get_or walk i 0)) → ⊥
          differ e = cc

      pub too_long : (p : ℕ) → Some p ≡ sep g at (get_or walk i 0) → bound ≤ offset + p → IsShortWalk bound g walk → ⊥
      too_long p e over is =
          let r = rw split at (on.same.0 is) in
          let q = (gap_of g at (get_or walk i 0) p (sym e)).0 in
          let s = span_cons g at (get_or walk i 0) (drop (i + 1) walk) in
          omega (arith, r.1, q, s, over)

      pub steps : IsSoundGraph g → (p : ℕ) → Some p ≡ sep g at (get_or walk i 0) → offset + p < bound → GoesOn bound g walk (get_or walk i 0) (offset + p) (i + 1)
      steps sound p e below =
          let q = gap_of g at (get_or walk i 0) p (sym e) in
          let s = span_cons g at (get_or walk i 0) (drop (i + 1) walk) in
          record {
            vertex = (target_of g sound at (get_or walk i 0) p (sym e)).0;
            below = below;
            same = (
              λ is. (let r = rw split at (on.same.0 is) in (r.0.1, omega (arith, r.1, q.0, s))),
              λ r. on.same.1 (rw split ((q.1, r.0), omega (arith, r.1, q.0, s))),
            );
          }
