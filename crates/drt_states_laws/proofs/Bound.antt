-- The tails of a task bound what its walks ask for.
use Rattle.std.proofs.Common.{◌≡◌, ℕ, suc, ◌+◌, ◌-◌, ◌<◌, ◌≤◌, ◌⊎◌, inl, inr, Bool, true, false, eqb, List, [], ◌∷◌, Some, length, get_or, refl, ap, ◌∙◌, subst, arith}
use Rattle.std.proofs.lemmas.Bool.{cases_lt, eqb-true}
use Rattle.drt_model.specs.declared.tasks.Edge.{Edge}
use Rattle.drt_model.specs.Digraph.{Digraph, IsSoundGraph, edge_of, no_edge, out_edges, vertex_count}
use Rattle.drt_model.specs.Walk.{IsEdge, IsPath, gap, sep_in, wcet, request}
use Rattle.drt_states.specs.declared.claims.Jump.{Jump}
use Rattle.drt_states.specs.declared.claims.TailClaim.{TailClaim}
use Rattle.drt_states.specs.Tails.{BoundsWalks, IsCurve, IsTail, curve_of, no_jump, value_before}
use Rattle.drt_states_laws.specs.Laws.{TailsBound}
use Rattle.drt_states_laws.proofs.Curves.{value_first, value_grows, value_jump}
use Rattle.drt_states_laws.proofs.Requests.{request_last, request_next, request_none}

-- An edge of the list leads to v, with this separation.
pub record IsEdgeAt (edges : List Edge) (v p : ℕ) : Type 0 where
  pub number : ℕ
  pub here : number < length edges
  pub to : (get_or edges number no_edge).to ≡ v
  pub sep : (get_or edges number no_edge).sep ≡ p

edge_at : (edges : List Edge) (v p : ℕ) → sep_in edges v ≡ Some p → IsEdgeAt edges v p
unfolding sep_in
edge_at [] v p e = absurd (cc)
edge_at (x ∷ edges) v p e = go (eqb x.to v) refl (edge_at edges v p)
  where
    go : (b : Bool) → eqb x.to v ≡ b → (sep_in edges v ≡ Some p → IsEdgeAt edges v p) → IsEdgeAt (x ∷ edges) v p
    go true q later = record { number = 0; here = omega arith; to = eqb-true x.to v q; sep = (let f = rw q at e in cc) }
    go false q later =
        let r = later (rw q at e) in
        record { number = suc r.number; here = (let h = r.here in omega (arith, h)); to = r.to; sep = r.sep }

-- The edge of the graph that leads from u to v.
pub edge_between : (g : Digraph) (u v : ℕ) → IsEdge g u v → IsEdgeAt (out_edges g u) v (gap g u v)
edge_between g u v is = edge_at (out_edges g u) v (gap g u v) is

-- It leads to a vertex.
pub target_within : (g : Digraph) → IsSoundGraph g → (u v : ℕ) → u < vertex_count g → IsEdge g u v → v < vertex_count g
target_within g sound u v l is =
    let e = edge_between g u v is in
    let to = sound.to u e.number l e.here in
    let same = e.to in
    omega (arith, to, same)

module _ (bound : ℕ) (g : Digraph) (tail : TailClaim) (sound : IsSoundGraph g) (are : IsTail bound g tail) (bounds : BoundsWalks bound g tail) where
  curve : (u : ℕ) → u < vertex_count g → IsCurve bound (curve_of tail u)
  curve u l = are.each u [] (let e = are.count in omega (arith, e, l))

  opening : (u t : ℕ) → u < vertex_count g → 1 ≤ t → wcet g u ≤ value_before (curve_of tail u) t
  opening u t l some =
      let first = bounds.openings u l in
      let more = value_first bound (curve_of tail u) t (curve u l) some in
      omega (arith, first, more)

  extension : (u v t : ℕ) → u < vertex_count g → v < vertex_count g → IsEdge g u v → gap g u v < t → t ≤ bound
      → wcet g u + value_before (curve_of tail v) (t - gap g u v) ≤ value_before (curve_of tail u) t
  extension u v t l m is after within =
      let e = edge_between g u v is in
      let jump = value_jump bound (curve_of tail v) (t - gap g u v) (curve v m) (omega arith) in
      let j : Jump = get_or (curve_of tail v) jump.place no_jump in
      let to : (edge_of g u e.number).to ≡ v = e.to in
      let sep : (edge_of g u e.number).sep ≡ gap g u v = e.sep in
      let before : j.offset < t - gap g u v = jump.before in
      let work : j.work ≡ value_before (curve_of tail v) (t - gap g u v) = jump.work in
      let all = subst (λ x. (k : ℕ) (d : Jump) → k < length (curve_of tail x)
      → (get_or (curve_of tail x) k d).offset + (edge_of g u e.number).sep < bound
      → wcet g u + (get_or (curve_of tail x) k d).work
      ≤ value_before (curve_of tail u) ((get_or (curve_of tail x) k d).offset + (edge_of g u e.number).sep + 1)) to (bounds.extensions u e.number l e.here) in
      let more : wcet g u + j.work ≤ value_before (curve_of tail u) (j.offset + (edge_of g u e.number).sep + 1) = all jump.place no_jump jump.here (omega (arith, sep, before, within)) in
      let grows = value_grows bound (curve_of tail u) (j.offset + (edge_of g u e.number).sep + 1) t (curve u l) (omega (arith, sep, before)) in
      omega (arith, more, grows, work)

  -- The function of a vertex bounds what a walk that starts there asks for.
  pub bounded : (u : ℕ) (vs : List ℕ) (t : ℕ) → u < vertex_count g → IsPath g u vs → 1 ≤ t → t ≤ bound → request g u vs t ≤ value_before (curve_of tail u) t
  bounded u [] t l path some within =
      let first = request_last g u t in
      let more = opening u t l some in
      omega (arith, first, more)
  bounded u (v ∷ vs) t l path some within = go (cases_lt (gap g u v) t) (bounded v vs (t - gap g u v))
    where
      m : v < vertex_count g
      m = target_within g sound u v l path.0

      go : (gap g u v < t) ⊎ (t ≤ gap g u v)
          → (v < vertex_count g → IsPath g v vs → 1 ≤ t - gap g u v → t - gap g u v ≤ bound
          → request g v vs (t - gap g u v) ≤ value_before (curve_of tail v) (t - gap g u v))
          → request g u (v ∷ vs) t ≤ value_before (curve_of tail u) t
      go (inl after) later =
          let rest = later m path.1 (omega arith) (omega arith) in
          let next = request_next g u v vs t in
          let more = extension u v t l m path.0 after within in
          omega (arith, rest, next, more)
      go (inr before) later =
          let next = request_next g u v vs t in
          let none : request g v vs (t - gap g u v) ≡ 0 = (let e : t - gap g u v ≡ 0 = omega arith in ap (λ n. request g v vs n) e ∙ request_none g v vs) in
          let more = opening u t l some in
          omega (arith, next, none, more)

pub tails_bound : TailsBound
tails_bound bound g tail sound are bounds = bounded bound g tail sound are bounds
