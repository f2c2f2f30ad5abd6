-- Walks of the turned graph, read backwards.
use Rattle.std.proofs.Common.{◌≡◌, ℕ, ◌+◌, ◌<◌, true, ltb, List, [], ◌∷◌, ◌++◌, refl, sym, ap, ◌∙◌, subst, arith}
use Rattle.std.proofs.lemmas.Bool.{lt-ltb}
use Rattle.drt_model.specs.Digraph.{Digraph}
use Rattle.drt_model.specs.Walk.{IsEdge, IsPath, gap, last_of, span, work, requested_from}
use Rattle.drt_graph.proofs.Edges.{gap_of}
use Rattle.drt_graph.proofs.Paths.{last_both, path_both, span_both, span_cons, span_none, work_both, work_cons, work_none}
use Rattle.drt_tails.specs.Turned.{IsTurned}

-- A walk of g from the last vertex of a walk of h to its first, with the same span and the same work.
pub record IsReversed (g h : Digraph) (u : ℕ) (vs : List ℕ) : Type 0 where
  pub others : List ℕ
  pub path : IsPath g (last_of u vs) others
  pub last : last_of (last_of u vs) others ≡ u
  pub spans : span g (last_of u vs) others ≡ span h u vs
  pub works : work g (last_of u vs ∷ others) ≡ work h (u ∷ vs)

module _ (g h : Digraph) (turned : IsTurned g h) where
  edge_back : (u v : ℕ) → IsEdge h u v → (gap g v u ≡ gap h u v) × IsEdge g v u
  edge_back u v is = gap_of g v u (gap h u v) (turned.back v u (gap h u v) is)

  -- The first vertex of the walk comes last.
  longer : (u v : ℕ) (vs : List ℕ) → IsEdge h u v → IsReversed g h v vs → IsReversed g h u (v ∷ vs)
  longer u v vs edge r =
      let e = edge_back u v edge in
      let same : gap g (last_of (last_of v vs) r.others) u ≡ gap g v u = ap (λ z. gap g z u) r.last in
      let e0 = e.0 in
      let s = span_both g (last_of v vs) r.others (u ∷ []) in
      let s1 = span_cons g (last_of (last_of v vs) r.others) u [] in
      let s2 = span_none g u in
      let s3 = span_cons h u v vs in
      let rs = r.spans in
      let k = work_both g (last_of v vs ∷ r.others) (u ∷ []) in
      let k1 = work_cons g u [] in
      let k2 = work_none g in
      let k3 = work_cons h u (v ∷ vs) in
      let rest_works = r.works in
      let c = turned.works u in
      record {
        others = r.others ++ u ∷ [];
        path = path_both g (last_of v vs) r.others (u ∷ []) r.path (subst (λ z. IsEdge g z u) (sym r.last) e.1, tt);
        last = last_both (last_of v vs) r.others (u ∷ []);
        spans = omega (arith, s, s1, s2, s3, same, e0, rs);
        works = omega (arith, k, k1, k2, k3, rest_works, c);
      }

  pub reversed : (u : ℕ) (vs : List ℕ) → IsPath h u vs → IsReversed g h u vs
  reversed u [] is = record {
    others = [];
    path = tt;
    last = refl;
    spans = span_none g u ∙ sym (span_none h u);
    works = omega (arith, work_cons g u [], work_cons h u [], work_none g, work_none h, turned.works u);
  }
  reversed u (v ∷ vs) is = longer u v vs is.0 (reversed v vs is.1)

-- A walk asks for all of its work once its last job is released.
pub asks_all : (g : Digraph) (x u : ℕ) (vs : List ℕ) (t : ℕ) → x + span g u vs < t → requested_from g x u vs t ≡ work g (u ∷ vs)
unfolding requested_from span work
asks_all g x u [] t early = rw (lt-ltb x t (omega arith)) (omega arith)
asks_all g x u (v ∷ vs) t early =
    let rest : requested_from g (x + gap g u v) v vs t ≡ work g (v ∷ vs) = asks_all g (x + gap g u v) v vs t (omega arith) in
    let now : ltb x t ≡ true = lt-ltb x t (omega arith) in
    rw now (omega (arith, rest))
