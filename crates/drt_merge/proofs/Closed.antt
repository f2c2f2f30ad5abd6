-- A closed front that has the openings covers each walk that is due within the bound.
use Rattle.std.proofs.Common.{◌≡◌, ℕ, ◌+◌, ◌<◌, ◌≤◌, List, [], ◌∷◌, length, get_or, inl, inr, ap, ◌∙◌, subst, arith}
use Rattle.std.specs.Prelude.{Any}
use Rattle.drt_model.specs.Digraph.{Digraph, IsConstrainedGraph, IsSoundGraph, edge_of, out_degree, vertex_count}
use Rattle.drt_model.specs.Walk.{IsEdge, IsPath, deadline, gap, last_of, span, wcet, work}
use Rattle.drt_graph.proofs.Edges.{edge_of_sep, target_of}
use Rattle.drt_graph.proofs.Paths.{span_cons, span_none, work_cons, work_none}
use Rattle.drt_graph.specs.declared.front.FrontEntry.{FrontEntry}
use Rattle.drt_claims.specs.Fronts.{HasOpenings, IsClosedFront, IsExtended}
use Rattle.drt_graph.specs.FrontEntry.{Covers}

-- With constrained deadlines the first vertex of a walk is due by the walk's last deadline.
first_due : (g : Digraph) → IsConstrainedGraph g → (v : ℕ) (vs : List ℕ) → v < vertex_count g → IsPath g v vs → deadline g v ≤ span g v vs + deadline g (last_of v vs)
first_due g constrained v [] l is = rw span_none (omega arith)
first_due g constrained v (x ∷ vs) l is =
    let k = edge_of_sep g v x (gap g v x) is.0 in
    let c = constrained v k.0 l k.1 in
    rw span_cons (omega (arith, c, k.3))

-- What a closed front says of an entry of it.
entry_closed : (g : Digraph) (bound : ℕ) (front : List FrontEntry) → IsClosedFront bound g front → (i : ℕ) (e : FrontEntry) → i < length front → get_or front i e ≡ e
    → (k : ℕ) → k < out_degree g e.vertex → IsExtended bound g front e k
entry_closed g bound front closed i e l at = subst (λ x. (k : ℕ) → k < out_degree g x.vertex → IsExtended bound g front x k) at (closed i e l)

-- An edge that leads on from a covered walk gives a covered walk, where it is due within the bound.
extended : (g : Digraph) (bound : ℕ) (front : List FrontEntry) → IsClosedFront bound g front → (v o w x : ℕ) → IsEdge g v x → Any (Covers v o w) front
    → o + gap g v x + deadline g x ≤ bound → Any (Covers x (o + gap g v x) (w + wcet g x)) front
extended g bound front closed v o w x edge (i, e, l, at, (same, by, most)) near =
    let sep : gap g e.vertex x ≡ gap g v x = ap (λ u. gap g u x) same in
    let k = edge_of_sep g e.vertex x (gap g e.vertex x) (rw same edge) in
    go k.0 k.2 (k.3 ∙ sep) (entry_closed g bound front closed i e l at k.0 k.1)
  where
    go : (k : ℕ) → (edge_of g e.vertex k).to ≡ x → (edge_of g e.vertex k).sep ≡ gap g v x → IsExtended bound g front e k → Any (Covers x (o + gap g v x) (w + wcet g x)) front
    go k to sep (inl far) =
        let d : deadline g (edge_of g e.vertex k).to ≡ deadline g x = ap (λ u. deadline g u) to in
        absurd (omega (arith, far, d, sep, by, near))
    go k to sep (inr (j, f, m, there, (vertex, offset, works))) =
        let c : wcet g (edge_of g e.vertex k).to ≡ wcet g x = ap (λ u. wcet g u) to in
        (j, f, m, there, (vertex ∙ to, omega (arith, offset, sep, by), omega (arith, works, c, most)))

-- From a covered walk to v on: the rest of a walk leads to an entry that covers the whole.
covered_from : (g : Digraph) → IsSoundGraph g → IsConstrainedGraph g → (bound : ℕ) (front : List FrontEntry) → IsClosedFront bound g front → (v o w : ℕ) (vs : List ℕ)
    → IsPath g v vs → Any (Covers v o w) front → o + (span g v vs + deadline g (last_of v vs)) ≤ bound → Any (Covers (last_of v vs) (o + span g v vs) (w + work g vs)) front
covered_from g sound constrained bound front closed v o w [] is (i, e, l, at, (same, by, most)) near =
    (i, e, l, at, (same, rw span_none (omega (arith, by)), rw work_none (omega (arith, most))))
covered_from g sound constrained bound front closed v o w (x ∷ vs) is covered near =
    let s = span_cons g v x vs in
    let inside = (target_of g sound v x (gap g v x) is.0).0 in
    let d = first_due g constrained x vs inside is.1 in
    let next = extended g bound front closed v o w x is.0 covered (omega (arith, near, s, d)) in
    let (i, e, l, at, (same, by, most)) = covered_from g sound constrained bound front closed x (o + gap g v x) (w + wcet g x) vs is.1 next (omega (arith, near, s)) in
    let c = work_cons g x vs in
    (i, e, l, at, (same, omega (arith, by, s), omega (arith, most, c)))

-- Each walk that is due within the bound is covered.
pub covered : (g : Digraph) → IsSoundGraph g → IsConstrainedGraph g → (bound : ℕ) (front : List FrontEntry) → HasOpenings bound g front → IsClosedFront bound g front
    → (u : ℕ) (vs : List ℕ) → u < vertex_count g → IsPath g u vs → span g u vs + deadline g (last_of u vs) ≤ bound → Any (Covers (last_of u vs) (span g u vs) (work g (u ∷ vs))) front
covered g sound constrained bound front openings closed u vs inside is near =
    let d = first_due g constrained u vs inside is in
    let opening = openings u inside (omega (arith, d, near)) in
    let (i, e, l, at, (same, by, most)) = covered_from g sound constrained bound front closed u 0 (wcet g u) vs is opening (omega (arith, near)) in
    let c = work_cons g u vs in
    (i, e, l, at, (same, omega (arith, by), omega (arith, most, c)))
