-- Closed trees cover all walks of a task: up to the bound, some walk of the tree asks for at least as much.
use Rattle.std.proofs.Common.{◌≡◌, ℕ, ◌+◌, ◌<◌, ◌≤◌, inl, inr, cond, ltb, List, [], ◌∷◌, ◌++◌, length, refl, sym, ap, ◌∙◌, subst, arith, append_assoc}
use Rattle.std.specs.Prelude.{All, Any, slice_index_or}
use Rattle.std.proofs.lemmas.Bool.{le-ltb}
use Rattle.std.proofs.lemmas.Bool.Decides.{nat_tests}
use Rattle.std.proofs.lemmas.List.{append-nil, get_or_default}
use Rattle.drt_model.specs.Digraph.{Digraph, edge_of, out_degree}
use Rattle.drt_model.specs.Walk.{IsEdge, IsPath, gap, last_of, span, wcet, request, requested_from, IsWalk, request_of}
use Rattle.drt_graph.proofs.Edges.{edge_of_sep}
use Rattle.drt_graph.proofs.Paths.{last_both, span_both, span_cons, span_none}
use Rattle.drt_claims.specs.Trees.{CoversWalks, IsAbove, IsClosedWalk, IsExtendedWalk}
use Rattle.drt_claims.specs.declared.evidence.TreeClaim.{TreeClaim}

-- A walk that is released at x or later asks for nothing before t, where t is at most x.
requested_late : (g : Digraph) (x u : ℕ) (vs : List ℕ) (t : ℕ) → t ≤ x → requested_from g x u vs t ≡ 0
unfolding requested_from
requested_late g x u [] t l = rw (le-ltb x t l) refl
requested_late g x u (v ∷ vs) t l =
    let none : ◌≡◌ {A = ℕ} (cond (ltb x t) (wcet g u) 0) 0 = rw (le-ltb x t l) refl in
    omega (arith, none, requested_late g (x + gap g u v) v vs t (omega (arith, l)))

-- What a walk asks for that goes on to v at y: what its first part does, and what the rest does from there.
requested_both : (g : Digraph) (x u : ℕ) (vs : List ℕ) (v : ℕ) (rest : List ℕ) (t y : ℕ) → y ≡ x + span g u vs + gap g (last_of u vs) v
    → requested_from g x u (vs ++ v ∷ rest) t ≡ requested_from g x u vs t + requested_from g y v rest t
unfolding requested_from
requested_both g x u [] v rest t y e =
    let none = span_none g u in
    let s : x + gap g u v ≡ y = omega (arith, e, none) in
    ap (λ z. cond (ltb x t) (wcet g u) 0 + requested_from g z v rest t) s
requested_both g x u (w ∷ vs) v rest t y e =
    let more = span_cons g u w vs in
    omega (arith, requested_both g (x + gap g u w) w vs v rest t y (omega (arith, e, more)))

-- An earlier release asks for at least as much.
requested_sooner : (g : Digraph) (x y v t : ℕ) → x ≤ y → requested_from g y v [] t ≤ requested_from g x v [] t
unfolding requested_from
requested_sooner g x y v t l = sooner x y t (wcet g v) l
  where
    sooner : (x y t w : ℕ) → x ≤ y → cond (ltb y t) w 0 ≤ cond (ltb x t) w 0
    sooner x y t w l = grind (arith, nat_tests)

-- A walk above another one that is extended by v is above what that one is above, extended by v.
above_more : (g : Digraph) (bound u : ℕ) (vs : List ℕ) (x : ℕ) (xs : List ℕ) (v y : ℕ) (ys : List ℕ)
    → IsAbove bound g u vs (x ∷ xs) → IsAbove bound g x (xs ++ v ∷ []) (y ∷ ys)
    → IsAbove bound g u (vs ++ v ∷ []) (y ∷ ys)
above_more g bound u vs x xs v y ys (last, spans, asks) (last_more, spans_more, asks_more) = (
  last_more ∙ (last_both x xs (v ∷ []) ∙ sym (last_both u vs (v ∷ []))),
  omega (arith, spans, spans_more, lower, upper, same),
  λ t a b. omega (arith, asks t a b, asks_more t a b, lower_asks t, upper_asks t, sooner t),
)
  where
    same : gap g (last_of x xs) v ≡ gap g (last_of u vs) v
    same = ap (λ z. gap g z v) last

    alone : (z : ℕ) → span g z (v ∷ []) ≡ gap g z v
    alone z = let a = span_cons g z v [] in let b = span_none g v in omega (arith, a, b)

    lower : span g x (xs ++ v ∷ []) ≡ span g x xs + gap g (last_of x xs) v
    lower = span_both g x xs (v ∷ []) ∙ ap (λ n. span g x xs + n) (alone (last_of x xs))

    upper : span g u (vs ++ v ∷ []) ≡ span g u vs + gap g (last_of u vs) v
    upper = span_both g u vs (v ∷ []) ∙ ap (λ n. span g u vs + n) (alone (last_of u vs))

    lower_asks : (t : ℕ) → request g x (xs ++ v ∷ []) t ≡ request g x xs t + requested_from g (0 + span g x xs + gap g (last_of x xs) v) v [] t
    lower_asks t = requested_both g 0 x xs v [] t (0 + span g x xs + gap g (last_of x xs) v) refl

    upper_asks : (t : ℕ) → request g u (vs ++ v ∷ []) t ≡ request g u vs t + requested_from g (0 + span g u vs + gap g (last_of u vs) v) v [] t
    upper_asks t = requested_both g 0 u vs v [] t (0 + span g u vs + gap g (last_of u vs) v) refl

    sooner : (t : ℕ)
        → requested_from g (0 + span g u vs + gap g (last_of u vs) v) v [] t ≤ requested_from g (0 + span g x xs + gap g (last_of x xs) v) v [] t
    sooner t =
        let early : ℕ = 0 + span g x xs + gap g (last_of x xs) v in
        let late : ℕ = 0 + span g u vs + gap g (last_of u vs) v in
        requested_sooner g early late v t (omega (arith, spans, same))

-- Up to the bound a walk of the tree asks for at least as much as the walk.
abbrev pub IsMet : ℕ → Digraph → TreeClaim → (ℕ → ℕ) → Type 0
IsMet bound g tree asks = (n : ℕ) × (n < length tree.walks) × ((t : ℕ) → 1 ≤ t → t ≤ bound → asks t ≤ request_of g (slice_index_or tree.walks n []) t)

-- What a closed tree says of a walk of it.
walk_closed : (g : Digraph) (bound : ℕ) (tree : TreeClaim) → All (IsClosedWalk bound g tree) tree.walks
    → (i x : ℕ) (xs : List ℕ) → i < length tree.walks → slice_index_or tree.walks i (x ∷ xs) ≡ x ∷ xs
    → (k : ℕ) → k < out_degree g (last_of x xs) → IsExtendedWalk bound g tree x xs k
walk_closed g bound tree closed i x xs l at = subst (λ w. IsClosedWalk bound g tree w) at (closed i (x ∷ xs) l)

-- A walk of the tree that is above another one asks up to the bound for at least as much.
asked_above : (g : Digraph) (bound : ℕ) (tree : TreeClaim) (u : ℕ) (vs : List ℕ) (i x : ℕ) (xs : List ℕ) → i < length tree.walks
    → slice_index_or tree.walks i (x ∷ xs) ≡ x ∷ xs → IsAbove bound g u vs (x ∷ xs)
    → (t : ℕ) → 1 ≤ t → t ≤ bound → request g u vs t ≤ request_of g (slice_index_or tree.walks i []) t
asked_above g bound tree u vs i x xs l at above t a b =
    let walk : slice_index_or tree.walks i [] ≡ x ∷ xs = get_or_default tree.walks i [] (x ∷ xs) l ∙ at in
    let e : request_of g (slice_index_or tree.walks i []) t ≡ request g x xs t = ap (λ walk. request_of g walk t) walk in
    omega (arith, above.2 t a b, e)

-- Up to the bound a walk that goes on past it asks for no more than its first part.
asked_past : (g : Digraph) (bound u : ℕ) (vs : List ℕ) (v : ℕ) (rest : List ℕ) → bound ≤ span g u vs + gap g (last_of u vs) v
    → (t : ℕ) → t ≤ bound → request g u (vs ++ v ∷ rest) t ≡ request g u vs t
asked_past g bound u vs v rest past t b =
    let y : ℕ = 0 + span g u vs + gap g (last_of u vs) v in
    let both = requested_both g 0 u vs v rest t y refl in
    let none = requested_late g y v rest t (omega (arith, b, past)) in
    omega (arith, both, none)

-- Where a walk of the tree is above the first part of a walk, the whole walk is met.
met_from : (g : Digraph) (bound : ℕ) (tree : TreeClaim) → All (IsClosedWalk bound g tree) tree.walks
    → (u : ℕ) (vs rest : List ℕ) → IsPath g (last_of u vs) rest → Any (IsAbove bound g u vs) tree.walks
    → IsMet bound g tree (request g u (vs ++ rest))
met_from g bound tree closed u vs rest is (i, [], l, at, above) = absurd above
met_from g bound tree closed u vs [] is (i, x ∷ xs, l, at, above) =
    subst (λ ws. IsMet bound g tree (request g u ws)) (sym (append-nil vs)) (i, l, asked_above g bound tree u vs i x xs l at above)
met_from g bound tree closed u vs (v ∷ rest) is (i, x ∷ xs, l, at, above) =
    let edge : IsEdge g (last_of x xs) v = rw above.0 is.0 in
    let k = edge_of_sep g (last_of x xs) v (gap g (last_of x xs) v) edge in
    go k.0 k.2 k.3 (walk_closed g bound tree closed i x xs l at k.0 k.1) (met_from g bound tree closed u (vs ++ v ∷ []) rest path)
  where
    path : IsPath g (last_of u (vs ++ v ∷ [])) rest
    path = subst (λ z. IsPath g z rest) (sym (last_both u vs (v ∷ []))) is.1

    far : bound ≤ span g u vs + gap g (last_of u vs) v → IsMet bound g tree (request g u (vs ++ v ∷ rest))
    far past = (i, l, λ t a b. omega (arith, asked_above g bound tree u vs i x xs l at above t a b, asked_past g bound u vs v rest past t b))

    onward : (to : ℕ) → to ≡ v → Any (IsAbove bound g x (xs ++ to ∷ [])) tree.walks → Any (IsAbove bound g u (vs ++ v ∷ [])) tree.walks
    onward to e (j, [], m, there, next) = absurd next
    onward to e (j, y ∷ ys, m, there, next) =
        (j, y ∷ ys, m, there, above_more g bound u vs x xs v y ys above (subst (λ z. IsAbove bound g x (xs ++ z ∷ []) (y ∷ ys)) e next))

    go : (k : ℕ) → (edge_of g (last_of x xs) k).to ≡ v → (edge_of g (last_of x xs) k).sep ≡ gap g (last_of x xs) v
        → IsExtendedWalk bound g tree x xs k
        → (Any (IsAbove bound g u (vs ++ v ∷ [])) tree.walks → IsMet bound g tree (request g u ((vs ++ v ∷ []) ++ rest)))
        → IsMet bound g tree (request g u (vs ++ v ∷ rest))
    go k to sep (inl past) later =
        let same : gap g (last_of x xs) v ≡ gap g (last_of u vs) v = ap (λ z. gap g z v) above.0 in
        let spans = above.1 in
        far (omega (arith, past, sep, same, spans))
    go k to sep (inr next) later =
        subst (λ ws. IsMet bound g tree (request g u ws)) (append_assoc vs (v ∷ []) rest) (later (onward (edge_of g (last_of x xs) k).to to next))

-- Each walk of the task is met.
pub walk_met : (g : Digraph) (bound : ℕ) (tree : TreeClaim) → 1 ≤ length tree.walks → CoversWalks bound g tree → (walk : List ℕ) → IsWalk g walk → IsMet bound g tree (request_of g walk)
walk_met g bound tree some covers [] is = (0, omega (arith, some), λ t a b. omega arith)
walk_met g bound tree some covers (u ∷ vs) is = met_from g bound tree covers.1 u [] vs is.1 (covers.0 u is.0)
