-- Closed fronts cover all walks that are due within the bound.
use Rattle.std.proofs.Common.{◌≡◌, ℕ, zero, suc, ◌+◌, ◌<◌, ◌≤◌, Bool, true, false, cond, List, [], ◌∷◌, All, length, get_or, inl, inr, ap, ◌∙◌, subst, arith}
use Rattle.std.specs.Prelude.{Any, max, nat_le}
use Rattle.std.proofs.Math.Nat.{le-max_left, le-max_right}
use Rattle.std.proofs.lemmas.Bool.{le-leb}
use Rattle.drt_model.specs.declared.tasks.Task.{Task}
use Rattle.drt_model.specs.Digraph.{Digraph, IsConstrainedGraph, IsSoundGraph, digraph_of, edge_of, out_degree, vertex_count}
use Rattle.drt_model.specs.Walk.{IsEdge, IsPath, deadline, gap, last_of, span, wcet, work, IsWalk, due_of}
use Rattle.drt_graph.proofs.Edges.{edge_of_sep, target_of}
use Rattle.drt_graph.proofs.Paths.{span_cons, span_none, work_cons, work_none}
use Rattle.drt_busy.specs.Choice.{AreDueBy, AreWalks, efforts}
use Rattle.drt_sweep.specs.Dues.{sum_due}
use Rattle.drt_graph.specs.declared.front.FrontEntry.{FrontEntry}
use Rattle.drt_claims.specs.Claims.{graphs_of}
use Rattle.drt_graph.specs.FrontEntry.{due, Covers}
use Rattle.drt_claims.specs.Fronts.{HasOpenings, IsClosedFront, IsExtended, work_due, works_due}
use Rattle.drt_check.proofs.SoundWalks.{efforts_cons, efforts_none}
use Rattle.drt_model.specs.Each.{Each}

-- With constrained deadlines the first vertex of a walk is due by the walk's last deadline.
first_due : (g : Digraph) → IsConstrainedGraph g → (v : ℕ) (vs : List ℕ) → v < vertex_count g → IsPath g v vs → deadline g v ≤ span g v vs + deadline g (last_of v vs)
first_due g constrained v [] l is = rw span_none (omega arith)
first_due g constrained v (x ∷ vs) l is =
    let k = edge_of_sep g v x (gap g v x) is.0 in
    let c = constrained v k.0 l k.1 in
    rw span_cons (omega (arith, c, k.3))

-- What a closed front says of an entry of it.
entry_closed : (g : Digraph) (bound : ℕ) (front : List FrontEntry) → IsClosedFront bound g front → (i : ℕ) (e : FrontEntry) → i < length front → get_or front i e ≡ e
    → (k : ℕ) → k < out_degree g e.vertex → IsExtended bound g front e k
entry_closed g bound front closed i e l at = subst (λ x. (k : ℕ) → k < out_degree g x.vertex → IsExtended bound g front x k) at (closed i e l)

-- An edge that leads on from a covered walk gives a covered walk, where it is due within the bound.
extended : (g : Digraph) (bound : ℕ) (front : List FrontEntry) → IsClosedFront bound g front → (v o w x : ℕ) → IsEdge g v x → Any (Covers v o w) front
    → o + gap g v x + deadline g x ≤ bound → Any (Covers x (o + gap g v x) (w + wcet g x)) front
extended g bound front closed v o w x edge (i, e, l, at, (same, by, most)) near =
    let sep : gap g e.vertex x ≡ gap g v x = ap (λ u. gap g u x) same in
    let k = edge_of_sep g e.vertex x (gap g e.vertex x) (rw same edge) in
    go k.0 k.2 (k.3 ∙ sep) (entry_closed g bound front closed i e l at k.0 k.1)
  where
    go : (k : ℕ) → (edge_of g e.vertex k).to ≡ x → (edge_of g e.vertex k).sep ≡ gap g v x → IsExtended bound g front e k → Any (Covers x (o + gap g v x) (w + wcet g x)) front
    go k to sep (inl far) =
        let d : deadline g (edge_of g e.vertex k).to ≡ deadline g x = ap (λ u. deadline g u) to in
        absurd (omega (arith, far, d, sep, by, near))
    go k to sep (inr (j, f, m, there, (vertex, offset, works))) =
        let c : wcet g (edge_of g e.vertex k).to ≡ wcet g x = ap (λ u. wcet g u) to in
        (j, f, m, there, (vertex ∙ to, omega (arith, offset, sep, by), omega (arith, works, c, most)))

-- From a covered walk to v on: the rest of a walk leads to an entry that covers the whole.
covered_from : (g : Digraph) → IsSoundGraph g → IsConstrainedGraph g → (bound : ℕ) (front : List FrontEntry) → IsClosedFront bound g front → (v o w : ℕ) (vs : List ℕ)
    → IsPath g v vs → Any (Covers v o w) front → o + (span g v vs + deadline g (last_of v vs)) ≤ bound → Any (Covers (last_of v vs) (o + span g v vs) (w + work g vs)) front
covered_from g sound constrained bound front closed v o w [] is (i, e, l, at, (same, by, most)) near =
    (i, e, l, at, (same, rw span_none (omega (arith, by)), rw work_none (omega (arith, most))))
covered_from g sound constrained bound front closed v o w (x ∷ vs) is covered near =
    let s = span_cons g v x vs in
    let inside = (target_of g sound v x (gap g v x) is.0).0 in
    let d = first_due g constrained x vs inside is.1 in
    let next = extended g bound front closed v o w x is.0 covered (omega (arith, near, s, d)) in
    let (i, e, l, at, (same, by, most)) = covered_from g sound constrained bound front closed x (o + gap g v x) (w + wcet g x) vs is.1 next (omega (arith, near, s)) in
    let c = work_cons g x vs in
    (i, e, l, at, (same, omega (arith, by, s), omega (arith, most, c)))

-- Each walk that is due within the bound is covered.
pub covered : (g : Digraph) → IsSoundGraph g → IsConstrainedGraph g → (bound : ℕ) (front : List FrontEntry) → HasOpenings bound g front → IsClosedFront bound g front
    → (u : ℕ) (vs : List ℕ) → u < vertex_count g → IsPath g u vs → span g u vs + deadline g (last_of u vs) ≤ bound → Any (Covers (last_of u vs) (span g u vs) (work g (u ∷ vs))) front
covered g sound constrained bound front openings closed u vs inside is near =
    let d = first_due g constrained u vs inside is in
    let opening = openings u inside (omega (arith, d, near)) in
    let (i, e, l, at, (same, by, most)) = covered_from g sound constrained bound front closed u 0 (wcet g u) vs is opening (omega (arith, near)) in
    let c = work_cons g u vs in
    (i, e, l, at, (same, omega (arith, by), omega (arith, most, c)))

most_here : (b : Bool) (w r n : ℕ) → b ≡ true → n ≤ w → n ≤ max (cond b w 0) r
most_here true w r n e l = omega (arith, le-max_left w r)
most_here false w r n e l = absurd (cc)

-- An entry that is due by t has at most the greatest work that is due by t.
most_due : (g : Digraph) (front : List FrontEntry) (t n k : ℕ) (e : FrontEntry) → k < length front → get_or front k e ≡ e → due g e ≤ t → n ≤ e.work → n ≤ work_due g front t
most_due g [] t n k e l at d m = absurd (omega arith)
most_due g (x ∷ front) t n zero e l at d m =
    let f : due g x ≡ due g e = ap (λ y. due g y) at in
    let w : x.work ≡ e.work = ap (λ y. y.work) at in
    most_here (nat_le (due g x) t) x.work (work_due g front t) n (le-leb (due g x) t (omega (arith, f, d))) (omega (arith, w, m))
most_due g (x ∷ front) t n (suc k) e l at d m =
    let h = most_due g front t n k e (omega arith) at d m in
    let r = le-max_right (cond (nat_le (due g x) t) x.work 0) (work_due g front t) in
    omega (arith, h, r)

-- So has a walk that is due by t.
one_within : (g : Digraph) → IsSoundGraph g → IsConstrainedGraph g → (bound t : ℕ) (front : List FrontEntry) → HasOpenings bound g front → IsClosedFront bound g front
    → t ≤ bound → (walk : List ℕ) → IsWalk g walk → due_of g walk ≤ t → work g walk ≤ work_due g front t
one_within g sound constrained bound t front openings closed near [] is by = rw work_none (omega arith)
one_within g sound constrained bound t front openings closed near (u ∷ vs) is by =
    let (i, e, l, at, (same, offset, works)) = covered g sound constrained bound front openings closed u vs is.0 is.1 (omega (arith, by, near)) in
    let d : deadline g e.vertex ≡ deadline g (last_of u vs) = ap (λ v. deadline g v) same in
    most_due g front t (work g (u ∷ vs)) i e l at (omega (arith, d, offset, by)) works

-- Walks of the tasks that are due by t have together at most the works that are due by t.
pub all_within : (tasks : List Task) → All IsSoundGraph (graphs_of tasks) → All IsConstrainedGraph (graphs_of tasks) → (bound t : ℕ) (fronts : List (List FrontEntry))
    → length fronts ≡ length tasks → Each (HasOpenings bound) (graphs_of tasks) fronts → Each (IsClosedFront bound) (graphs_of tasks) fronts → t ≤ bound
    → (walks : ℕ → List ℕ) → AreWalks tasks walks → AreDueBy tasks walks t → efforts tasks walks (length tasks) ≤ works_due (graphs_of tasks) fronts t
unfolding sum_due
all_within [] sound constrained bound t fronts count openings closed near walks are by = rw efforts_none (omega arith)
all_within (x ∷ tasks) sound constrained bound t [] count openings closed near walks are by = absurd (omega arith)
all_within (x ∷ tasks) sound constrained bound t (f ∷ fronts) count openings closed near walks are by =
    let first = one_within (digraph_of x) (sound 0 (digraph_of x) (omega arith)) (constrained 0 (digraph_of x) (omega arith)) bound t f openings.0 closed.0 near (walks 0)
    (are 0 (omega arith)) (by 0 (omega arith)) in
    let others = all_within tasks (λ k d l. sound (suc k) d (omega arith)) (λ k d l. constrained (suc k) d (omega arith)) bound t fronts (omega arith) openings.1 closed.1
    near (λ k. walks (suc k)) (λ k l. are (suc k) (omega arith)) (λ k l. by (suc k) (omega arith)) in
    rw (efforts_cons x tasks walks (length tasks)) (omega (arith, first, others))
