-- Walks of a search of request labels, as walks of the graph.
use Rattle.std.proofs.Common.{◌≡◌, ℕ, zero, suc, ◌+◌, ◌-◌, ◌<◌, ◌≤◌, Bool, true, false, Some, List, [], ◌∷◌, ◌++◌, length, reverse, refl, sym, ap, ◌∙◌, subst, arith}
use Rattle.std.specs.Prelude.{IsTrue, nat_le, nat_lt, ◌==◌, ◌&&◌, slice_index}
use Rattle.std.proofs.lemmas.Bool.Decides.{nat_tests}
use Rattle.std.proofs.lemmas.List.{append-nil, append_assoc, reverse-append, reverse-reverse}
use Rattle.drt_model.specs.Digraph.{Digraph, IsSoundGraph, vertex_count, out_degree, edge_of}
use Rattle.drt_model.specs.Walk.{gap, wcet, sep, IsEdge, IsPath, last_of, span, request}
use Rattle.drt_graph.proofs.Edges.{sep_of_edge, edge_of_sep, gap_of}
use Rattle.drt_graph.proofs.Paths.{path_both, path_within, last_both, span_cons}
use Rattle.drt_request.specs.Laws.{request_laws}
use Rattle.drt_request.specs.Request.{Request, request_algebra, request_dominates}
use Rattle.drt_request.specs.Walk.{IsRequestLabelOf}
use Rattle.drt_request.proofs.Walks.{label_walks}
use Rattle.drt_steps.specs.Values.{covers, value_at}
use Rattle.drt_table.specs.Machine.{Setting, extended}
use Rattle.drt_table.specs.Walk.{WalkTo, IsWalkLabel, IsWalkBack, IsWalkOf}
use Rattle.drt_table.proofs.Walks.{walk_vertex, walk_range}
use Rattle.drt_claims.specs.Trees.{IsAbove, IsShortWalk}
use Rattle.drt_sp.specs.TreeClaims.{HaveOneLabel}

-- A walk given backwards, forwards: its first vertex and those after it, with its label.
pub record IsPathTo (g : Digraph) (bound v : ℕ) (before : List ℕ) (l : Request) : Type 0 where
  pub first : ℕ
  pub others : List ℕ
  pub forward : reverse (v ∷ before) ≡ first ∷ others
  pub is_vertex : first < vertex_count g
  pub path : IsPath g first others
  pub last : last_of first others ≡ v
  pub label : IsRequestLabelOf g bound first others l

-- A walk that spans less than the bound, with its label.
pub record IsLabelled (g : Digraph) (bound : ℕ) (walk : List ℕ) (l : Request) : Type 0 where
  pub first : ℕ
  pub others : List ℕ
  pub is : walk ≡ first ∷ others
  pub short : IsShortWalk bound g (first ∷ others)
  pub label : IsRequestLabelOf g bound first others l

module _ (t : Setting) (sound : IsSoundGraph t.graph) where
  -- A label extended by an edge with these ends and this separation.
  extended_is : (m : Request) (u k v s : ℕ) → m.vertex ≡ u → (edge_of t.graph u k).sep ≡ s → (edge_of t.graph u k).to ≡ v
      → extended request_algebra t m k ≡ request_algebra.extend m s v (wcet t.graph v)
  extended_is m u k v s p q r =
      ap (λ x. request_algebra.extend m (edge_of t.graph x k).sep (edge_of t.graph x k).to (wcet t.graph (edge_of t.graph x k).to)) p
      ∙ (ap (λ y. request_algebra.extend m y (edge_of t.graph u k).to (wcet t.graph (edge_of t.graph u k).to)) q
      ∙ ap (λ z. request_algebra.extend m s z (wcet t.graph z)) r)

  path_more : (v u : ℕ) (before : List ℕ) (l m : Request) (k : ℕ) → IsPathTo t.graph t.bound u before m → m.vertex ≡ u → k < out_degree t.graph u → (edge_of t.graph u k).to ≡ v
      → l ≡ extended request_algebra t m k → IsPathTo t.graph t.bound v (u ∷ before) l
  path_more v u before l m k p at lt to is =
      let lu : u < vertex_count t.graph = subst (λ x. x < vertex_count t.graph) p.last (path_within t.graph sound p.first p.others p.is_vertex p.path) in
      let named : sep t.graph u v ≡ Some (edge_of t.graph u k).sep = subst (λ x. sep t.graph u x ≡ Some (edge_of t.graph u k).sep) to (sep_of_edge t.graph sound u k lu lt) in
      let g = gap_of t.graph u v (edge_of t.graph u k).sep named in
      let step : IsEdge t.graph (last_of p.first p.others) v = subst (λ x. IsEdge t.graph x v) (sym p.last) g.1 in
      let label : l ≡ request_algebra.extend m (gap t.graph (last_of p.first p.others) v) v (wcet t.graph v) =
      is ∙ (extended_is m u k v (gap t.graph u v) at (sym g.0) to ∙ ap (λ x. request_algebra.extend m (gap t.graph x v) v (wcet t.graph v)) (sym p.last)) in
      record {
        first = p.first;
        others = p.others ++ v ∷ [];
        forward = reverse-append (v ∷ []) (u ∷ before) ∙ ap (λ xs. xs ++ v ∷ []) p.forward;
        is_vertex = p.is_vertex;
        path = path_both t.graph p.first p.others (v ∷ []) p.path (step, tt);
        last = last_both p.first p.others (v ∷ []);
        label = subst (λ y. IsRequestLabelOf t.graph t.bound p.first (p.others ++ v ∷ []) y) (sym label) ((label_walks t.graph t.bound).extended p.first p.others v m p.label);
      }

  -- A walk of the search is a path with its label.
  path_to : (v : ℕ) (before : List ℕ) (l : Request) → WalkTo request_algebra t v before l → IsPathTo t.graph t.bound v before l
  path_to v [] l w = record {
    first = v;
    others = [];
    forward = refl;
    is_vertex = w.0;
    path = tt;
    last = refl;
    label = subst (λ y. IsRequestLabelOf t.graph t.bound v [] y) (sym w.1) ((label_walks t.graph t.bound).opening v);
  }
  path_to v (u ∷ before) l w =
      path_more v u before l w.1 w.0 (path_to u before w.1 w.2) (walk_vertex request_algebra request_laws t u before w.1 w.2) w.3 w.4 w.5

  walk_back : (back : List ℕ) (l : Request) → IsWalkBack request_algebra t back l → (walk : List ℕ) → reverse back ≡ walk → IsLabelled t.graph t.bound walk l
  walk_back [] l b walk e = absurd b
  walk_back (v ∷ before) l b walk e =
      let p = path_to v before l b in
      let r : nat_lt l.offset t.bound ≡ true = walk_range request_algebra request_laws t v before l b in
      let o : l.offset ≡ span t.graph p.first p.others = p.label.offset in
      let below : l.offset < t.bound = grind (arith, nat_tests) in
      record { first = p.first; others = p.others; is = sym e ∙ p.forward; short = (p.is_vertex, p.path, omega (arith, below, o)); label = p.label }

  -- A walk of the search spans less than the bound.
  pub walk_short : (walk : List ℕ) (l : Request) → IsWalkOf request_algebra t walk l → IsLabelled t.graph t.bound walk l
  walk_short walk l is = walk_back (reverse walk) l is walk (reverse-reverse walk)

  -- The label of a walk that goes on from u over these vertices.
  walk_on : (first : ℕ) (others : List ℕ) (u : ℕ) (before : List ℕ) (m : Request) → WalkTo request_algebra t u before m → IsRequestLabelOf t.graph t.bound first others m → last_of first others ≡ u
      → (vs : List ℕ) → IsPath t.graph u vs → m.offset + span t.graph u vs < t.bound → (x : Request) × IsWalkLabel request_algebra t x × IsRequestLabelOf t.graph t.bound first (others ++ vs) x
  walk_on first others u before m w label last [] p d = (m, (u, before, w), subst (λ xs. IsRequestLabelOf t.graph t.bound first xs m) (sym (append-nil others)) label)
  walk_on first others u before m w label last (v ∷ vs) p d =
      let at = walk_vertex request_algebra request_laws t u before m w in
      let k = edge_of_sep t.graph u v (gap t.graph u v) p.0 in
      let x : Request = request_algebra.extend m (gap t.graph u v) v (wcet t.graph v) in
      let is : x ≡ extended request_algebra t m k.0 = sym (extended_is m u k.0 v (gap t.graph u v) at k.3 k.2) in
      let s = span_cons t.graph u v vs in
      let early : m.offset + gap t.graph u v < t.bound = omega (arith, s, d) in
      let range : nat_lt (m.offset + gap t.graph u v) t.bound ≡ true = grind (arith, nat_tests) in
      let walk : WalkTo request_algebra t v (u ∷ before) x = (k.0, m, w, k.1, k.2, is, range) in
      let more : IsRequestLabelOf t.graph t.bound first (others ++ v ∷ []) x =
      subst (λ y. IsRequestLabelOf t.graph t.bound first (others ++ v ∷ []) (request_algebra.extend m (gap t.graph y v) v (wcet t.graph v))) last
      ((label_walks t.graph t.bound).extended first others v m label) in
      let rest = walk_on first (others ++ v ∷ []) v (u ∷ before) x walk more (last_both first others (v ∷ [])) vs p.1 (omega (arith, s, d)) in
      (rest.0, rest.1, subst (λ xs. IsRequestLabelOf t.graph t.bound first xs rest.0) (append_assoc others (v ∷ []) vs) rest.2)

  -- A walk that spans less than the bound is one of the search.
  pub short_walk : (u : ℕ) (vs : List ℕ) → IsShortWalk t.bound t.graph (u ∷ vs) → (x : Request) × IsWalkLabel request_algebra t x × IsRequestLabelOf t.graph t.bound u vs x
  short_walk u vs short =
      let b : span t.graph u vs < t.bound = short.2 in
      let some : 0 < t.bound = omega (arith, b) in
      let range : nat_lt 0 t.bound ≡ true = grind (arith, nat_tests) in
      walk_on u [] u [] (request_algebra.opening u (wcet t.graph u) t.bound) (short.0, refl, range) ((label_walks t.graph t.bound).opening u) refl vs short.1 (omega (arith, b))

and_left : (b c : Bool) → (b && c) ≡ true → b ≡ true
and_left true c h = refl
and_left false c h = absurd (cc)

and_right : (b c : Bool) → (b && c) ≡ true → c ≡ true
and_right true c h = h
and_right false c h = absurd (cc)

both : (b c : Bool) → b ≡ true → c ≡ true → (b && c) ≡ true
both b c p q = ap (λ x. x && c) p ∙ q

covered_at : (xs ys : List ℕ) → covers xs ys ≡ true → (i : ℕ) → slice_index ys i ≤ slice_index xs i
covered_at [] [] h i = omega arith
covered_at [] (y ∷ ys) h i = absurd (cc)
covered_at (x ∷ xs) [] h i = absurd (cc)
covered_at (x ∷ xs) (y ∷ ys) h zero = let p : nat_le y x ≡ true = and_left (nat_le y x) (covers xs ys) h in grind (arith, nat_tests)
covered_at (x ∷ xs) (y ∷ ys) h (suc i) = covered_at xs ys (and_right (nat_le y x) (covers xs ys) h) i

covers_by : (xs ys : List ℕ) → length xs ≡ length ys → ((i : ℕ) → i < length xs → slice_index ys i ≤ slice_index xs i) → covers xs ys ≡ true
covers_by [] [] e h = refl
covers_by [] (y ∷ ys) e h = absurd (omega arith)
covers_by (x ∷ xs) [] e h = absurd (omega arith)
covers_by (x ∷ xs) (y ∷ ys) e h =
    let le : y ≤ x = h 0 (omega arith) in
    both (nat_le y x) (covers xs ys) (let q : nat_le y x ≡ true = grind (arith, nat_tests) in q) (covers_by xs ys (omega arith) (λ i l. h (suc i) (omega (arith, l))))

value_below : (xs ys : List ℕ) → covers xs ys ≡ true → (t : ℕ) → value_at ys t ≤ value_at xs t
unfolding value_at
value_below xs ys h t = covered_at xs ys h (t - 1)

covers_values : (xs ys : List ℕ) (bound : ℕ) → length xs ≡ bound → length ys ≡ bound → ((t : ℕ) → 1 ≤ t → t ≤ bound → value_at ys t ≤ value_at xs t) → covers xs ys ≡ true
unfolding value_at
covers_values xs ys bound e f h =
    covers_by xs ys (e ∙ sym f)
    (λ i l. subst (λ k. slice_index ys k ≤ slice_index xs k) (let q : (i + 1) - 1 ≡ i = omega arith in q) (h (i + 1) (omega arith) (omega (arith, l, e))))

-- A label that dominates another one is that of a walk above the other's.
pub above_of : (g : Digraph) (bound u : ℕ) (vs : List ℕ) (w : ℕ) (ws : List ℕ) (x y : Request) → IsRequestLabelOf g bound u vs x → IsRequestLabelOf g bound w ws y → IsTrue (request_dominates y x)
    → IsAbove bound g u vs (w ∷ ws)
above_of g bound u vs w ws x y p q d =
    let v : (y.vertex == x.vertex) ≡ true = and_left (y.vertex == x.vertex) (nat_le y.offset x.offset && covers y.values x.values) d in
    let r : (nat_le y.offset x.offset && covers y.values x.values) ≡ true = and_right (y.vertex == x.vertex) (nat_le y.offset x.offset && covers y.values x.values) d in
    let o : nat_le y.offset x.offset ≡ true = and_left (nat_le y.offset x.offset) (covers y.values x.values) r in
    let c : covers y.values x.values ≡ true = and_right (nat_le y.offset x.offset) (covers y.values x.values) r in
    let vertex : y.vertex ≡ x.vertex = grind (arith, nat_tests) in
    let offset : y.offset ≤ x.offset = grind (arith, nat_tests) in
    let a = p.offset in
    let b = q.offset in
    let asks : (t : ℕ) → 1 ≤ t → t ≤ bound → request g u vs t ≤ request g w ws t =
    λ t from to. let l = value_below y.values x.values c t in let m = p.values t from to in let n = q.values t from to in omega (arith, l, m, n) in
    (sym q.vertex ∙ (vertex ∙ p.vertex), omega (arith, offset, a, b), asks)

-- And the converse.
pub dominates_of : (g : Digraph) (bound u : ℕ) (vs : List ℕ) (w : ℕ) (ws : List ℕ) (x y : Request) → IsRequestLabelOf g bound u vs x → IsRequestLabelOf g bound w ws y → IsAbove bound g u vs (w ∷ ws)
    → IsTrue (request_dominates y x)
dominates_of g bound u vs w ws x y p q is =
    let vertex : y.vertex ≡ x.vertex = q.vertex ∙ (is.0 ∙ sym p.vertex) in
    let a = p.offset in
    let b = q.offset in
    let s = is.1 in
    let offset : y.offset ≤ x.offset = omega (arith, a, b, s) in
    both (y.vertex == x.vertex) (nat_le y.offset x.offset && covers y.values x.values) (let e : (y.vertex == x.vertex) ≡ true = grind (arith, nat_tests) in e)
    (both (nat_le y.offset x.offset) (covers y.values x.values) (let e : nat_le y.offset x.offset ≡ true = grind (arith, nat_tests) in e)
    (covers_values y.values x.values bound q.long p.long (λ t from to. let l = is.2 t from to in let m = p.values t from to in let n = q.values t from to in omega (arith, l, m, n))))

-- Walks with one label have equal ones.
pub same_labels : (g : Digraph) (bound u : ℕ) (vs : List ℕ) (w : ℕ) (ws : List ℕ) (x y : Request) → IsRequestLabelOf g bound u vs x → IsRequestLabelOf g bound w ws y
    → HaveOneLabel bound g (u ∷ vs) (w ∷ ws) → x ≡ y
same_labels g bound u vs w ws x y p q have = request_laws.antisymmetric x y (dominates_of g bound w ws u vs y x q p have.1) (dominates_of g bound u vs w ws x y p q have.0)

-- And the converse.
pub one_label : (g : Digraph) (bound u : ℕ) (vs : List ℕ) (w : ℕ) (ws : List ℕ) (x y : Request) → IsRequestLabelOf g bound u vs x → IsRequestLabelOf g bound w ws y
    → x ≡ y → HaveOneLabel bound g (u ∷ vs) (w ∷ ws)
one_label g bound u vs w ws x y p q same = (
  above_of g bound u vs w ws x y p q (subst (λ z. IsTrue (request_dominates z x)) same (request_laws.reflexive x)),
  above_of g bound w ws u vs y x q p (subst (λ z. IsTrue (request_dominates x z)) same (request_laws.reflexive x)),
)
