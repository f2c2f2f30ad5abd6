-- Walks that dominate each other, and their extensions: where a walk dominates another one, its extension by an edge dominates the
-- other's by that edge.
use Rattle.std.proofs.Common.{◌≡◌, ℕ, ◌+◌, ◌<◌, ◌≤◌, ◌⊎◌, inl, inr, List, [], ◌∷◌, ◌++◌, refl, sym, ap, subst, arith, ◌∙◌}
use Rattle.std.specs.Prelude.{nat_lt, if◌then◌else◌}
use Rattle.std.proofs.lemmas.Bool.{cases_lt, le-ltb, lt-ltb}
use Rattle.drt_model.specs.Digraph.{Digraph, edge_of, out_degree}
use Rattle.drt_model.specs.Walk.{gap, last_of, span, wcet, requested_from}
use Rattle.drt_graph.proofs.Paths.{last_both, span_both, span_cons, span_none}
use Rattle.drt_claims.specs.Trees.{IsAbove, IsClosedWalk, IsExtendedWalk, IsShortWalk}
use Rattle.drt_claims.specs.declared.evidence.TreeClaim.{TreeClaim}
use Rattle.drt_check_trees.specs.Entries.{IsWalkOver}

module _ (g : Digraph) where
  -- What a release at the offset asks for before t.
  abbrev released : ℕ → ℕ → ℕ → ℕ
  released offset v t = if nat_lt offset t then wcet g v else 0

  -- A later release asks for no more.
  released_later : (early late v t : ℕ) → early ≤ late → released late v t ≤ released early v t
  released_later early late v t le = go (cases_lt late t)
    where
      go : (late < t) ⊎ (t ≤ late) → released late v t ≤ released early v t
      go (inl q) = rw (lt-ltb late t q, lt-ltb early t (omega (arith, le, q))) (omega arith)
      go (inr q) = rw (le-ltb late t q) (omega arith)

  -- A walk with one more vertex asks for what it asks for without it, and for that vertex after its span and the edge's separation.
  asks_longer : (offset u : ℕ) (vs : List ℕ) (v t : ℕ)
      → requested_from g offset u (vs ++ v ∷ []) t ≡ requested_from g offset u vs t + released (offset + (span g u vs + gap g (last_of u vs) v)) v t
  unfolding requested_from span
  asks_longer offset u [] v t =
      let e : offset + (0 + gap g u v) ≡ offset + gap g u v = omega arith in
      rw e refl
  asks_longer offset u (w ∷ vs) v t =
      let e : offset + gap g u w + (span g w vs + gap g (last_of w vs) v) ≡ offset + (gap g u w + span g w vs + gap g (last_of w vs) v) = omega arith in
      let a = asks_longer (offset + gap g u w) w vs v t in
      let b = ap (λ s. released s v t) e in
      omega (arith, a, b)

  span_one : (u : ℕ) (vs : List ℕ) (v : ℕ) → span g u (vs ++ v ∷ []) ≡ span g u vs + gap g (last_of u vs) v
  span_one u vs v = let a = span_both g u vs (v ∷ []) in let b = span_cons g (last_of u vs) v [] in let c = span_none g v in omega (arith, a, b, c)

  module _ (bound : ℕ) where
    pub over_self : (walk : List ℕ) → IsShortWalk bound g walk → IsWalkOver bound g walk walk
    over_self [] is = is
    over_self (u ∷ vs) is = (refl, omega arith, λ t l m. omega arith)

    pub over_trans : (walk x y : List ℕ) → IsWalkOver bound g walk x → IsWalkOver bound g x y → IsWalkOver bound g walk y
    over_trans [] x y a b = a
    over_trans (u ∷ us) [] y a b = absurd a
    over_trans (u ∷ us) (v ∷ vs) [] a b = absurd b
    over_trans (u ∷ us) (v ∷ vs) (w ∷ ws) a b = (b.0 ∙ a.0, omega (arith, a.1, b.1), λ t l m. (let p = a.2 t l m in let q = b.2 t l m in omega (arith, p, q)))

    longer_over : (u : ℕ) (us : List ℕ) (v : ℕ) (vs : List ℕ) (to : ℕ) → IsAbove bound g u us (v ∷ vs) → IsAbove bound g u (us ++ to ∷ []) (v ∷ (vs ++ to ∷ []))
    longer_over u us v vs to (last, le, asks) =
        let g_same : gap g (last_of v vs) to ≡ gap g (last_of u us) to = ap (λ x. gap g x to) last in
        let s = span_one u us to in
        let r = span_one v vs to in (
          last_both v vs (to ∷ []) ∙ sym (last_both u us (to ∷ [])),
          omega (arith, s, r, le, g_same),
          λ t l m.
              let a = asks_longer 0 u us to t in
              let b = asks_longer 0 v vs to t in
              let c = asks t l m in
              let d = released_later (0 + (span g v vs + gap g (last_of v vs) to)) (0 + (span g u us + gap g (last_of u us) to)) to t (omega (arith, le, g_same)) in
              omega (arith, a, b, c, d),
        )

    -- So where the extensions of a walk are dominated, those of each walk that it dominates are too.
    pub closed_over : (tree : TreeClaim) (walk x : List ℕ) → IsWalkOver bound g walk x → IsClosedWalk bound g tree x → IsClosedWalk bound g tree walk
    closed_over tree [] x over closed = tt
    closed_over tree (u ∷ us) [] over closed = absurd over
    closed_over tree (u ∷ us) (v ∷ vs) over closed = λ k l.
        extended k (closed k (subst (λ n. k < out_degree g n) (sym over.0) l))
      where
        extended : (k : ℕ) → IsExtendedWalk bound g tree v vs k → IsExtendedWalk bound g tree u us k
        extended k (inl far) =
            let e = ap (λ n. (edge_of g n k).sep) over.0 in
            inl (omega (arith, far, e, over.1))
        extended k (inr (n, c, l, at, above)) =
            let to : ℕ = (edge_of g (last_of u us) k).to in
            let e : (edge_of g (last_of v vs) k).to ≡ (edge_of g (last_of u us) k).to = ap (λ n. (edge_of g n k).to) over.0 in
            let here : IsWalkOver bound g (v ∷ (vs ++ (edge_of g (last_of u us) k).to ∷ [])) c = subst (λ n. IsWalkOver bound g (v ∷ (vs ++ n ∷ [])) c) e above in
            inr (
              n,
              c,
              l,
              at,
              over_trans (u ∷ (us ++ (edge_of g (last_of u us) k).to ∷ [])) (v ∷ (vs ++ (edge_of g (last_of u us) k).to ∷ [])) c
                  (longer_over u us v vs (edge_of g (last_of u us) k).to over) here,
            )
