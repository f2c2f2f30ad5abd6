-- The releases of a task follow a walk of its graph.
use Rattle.std.proofs.Common.{inl, inr, ◌≡◌, ℕ, zero, suc, ◌+◌, ◌-◌, ◌<◌, ◌≤◌, cond, eqb, ltb, List, [], ◌∷◌, length, get_or, sum_by, Option, Some, None, All, AllPairs, IsSomeAnd, slice_get, refl, sym, ap, ◌∙◌, subst, arith}
use Rattle.std.specs.List.{range_with_len}
use Rattle.std.proofs.lemmas.Bool.{cases_eq, cases_lt, eq-eqb, ne_eqb, lt-ltb, le-ltb}
use Rattle.std.proofs.lemmas.List.{get_or-map}
use Rattle.std.proofs.lemmas.List.Elements.{All-head, All-tail}
use Rattle.std.proofs.lemmas.List.FromFn.{get_or-range_with_len, length-range_with_len}
use Rattle.std.proofs.lemmas.List.Sums.{sum_by-cons}
use Rattle.std.proofs.lemmas.Option.{get_or_from_slice_get, slice_get_within}
use Rattle.drt_model.specs.declared.jobs.Release.{Release}
use Rattle.drt_model.specs.declared.tasks.Edge.{Edge}
use Rattle.drt_model.specs.declared.tasks.Task.{Task}
use Rattle.drt_model.specs.declared.tasks.Vertex.{Vertex}
use Rattle.drt_model.specs.Digraph.{digraph_of, edges_from, out_edges, no_vertex}
use Rattle.drt_model.specs.Legal.{AllNeighbours, IsReleaseOf, Follows, IsLegalPart}
use Rattle.drt_model.specs.Limits.{IsTask, IsEdgeAmong}
use Rattle.drt_model.specs.Walk.{sep_in, sep, or_zero, gap, IsEdge, IsPath, wcet, deadline, last_of, span, work, requested_from, IsWalk}
use Rattle.drt_model.proofs.Neighbours.{filter-yes, filter-no, AllNeighbours-tail, AllNeighbours-head}
use Rattle.drt_busy.specs.PartWalk.{walk_of}

-- one edge each way
abbrev AreSingle : List Edge → Type 0
AreSingle edges = AllPairs (λ e f. e.from ≡ f.from → e.to ≡ f.to → ⊥) edges

single_tail : (x : Edge) (xs : List Edge) → AreSingle (x ∷ xs) → AreSingle xs
single_tail x xs h i j d lt l = h (suc i) (suc j) d (omega arith) (omega arith)

-- the edge that a list has from u to v is the one that the graph finds
sep_first : (edges : List Edge) (i : ℕ) (e : Edge) (u v : ℕ) → AreSingle edges → i < length edges → get_or edges i e ≡ e → e.from ≡ u → e.to ≡ v → sep_in (edges_from edges u) v ≡ Some e.sep
unfolding sep_in
sep_first [] i e u v single h at from to = absurd (omega arith)
sep_first (x ∷ xs) zero e u v single h at from to =
    let f : x.from ≡ u = ap (λ y. y.from) at ∙ from in
    let g : x.to ≡ v = ap (λ y. y.to) at ∙ to in
    rw (filter-yes (λ y. eqb y.from u) x xs (eq-eqb x.from u f)) (rw (eq-eqb x.to v g) (ap (λ y. let o : Option ℕ = Some y.sep in o) at))
sep_first (x ∷ xs) (suc i) e u v single h at from to =
    let rest = sep_first xs i e u v (single_tail x xs single) (omega arith) at from to in
    let apart : x.from ≡ e.from → x.to ≡ e.to → ⊥ = subst (λ y. x.from ≡ y.from → x.to ≡ y.to → ⊥) at (single 0 (suc i) e (omega arith) h) in
    elim (cases_eq x.from u) [
      | inr ne ↦ rw (filter-no (λ y. eqb y.from u) x xs (ne_eqb x.from u ne)) rest
      | inl f ↦ rw (filter-yes (λ y. eqb y.from u) x xs (eq-eqb x.from u f)) (rw (ne_eqb x.to v (λ g. apart (f ∙ sym from) (g ∙ sym to))) rest)
    ]

-- one release before b
asked_one : (a b offset time need wcet : ℕ) → a + offset ≤ time → need ≤ wcet → cond (ltb time b) need 0 ≤ cond (ltb offset (b - a)) wcet 0
asked_one a b offset time need wcet from le = elim (cases_lt time b) [
  | inr late ↦ rw (le-ltb time b late) (omega arith)
  | inl early ↦ rw (lt-ltb time b early, lt-ltb offset (b - a) (omega arith)) le
]

module _ (version : ℕ) (t : Task) (ok : IsTask version t) where
  pub out_is : (u : ℕ) → u < length t.vertices → out_edges (digraph_of t) u ≡ edges_from t.edges u
  out_is u h =
      get_or-map (edges_from t.edges) (range_with_len 0 (length t.vertices)) u 0 [] (rw length-range_with_len h)
      ∙ ap (edges_from t.edges) (get_or-range_with_len 0 (length t.vertices) u 0 h ∙ omega arith)

  -- an edge that one release follows another by is the graph's
  pub edge_found : (i : ℕ) (e : Edge) → i < length t.edges → get_or t.edges i e ≡ e → (e.from < length t.vertices) × (e.to < length t.vertices) × (sep (digraph_of t) e.from e.to ≡ Some e.sep)
  edge_found i e h at =
      let among : IsEdgeAmong (length t.vertices) e = subst (IsEdgeAmong (length t.vertices)) at (ok.edges i e h) in
      (among.from, among.to, rw (out_is e.from among.from) (sep_first t.edges i e e.from e.to ok.one_edge_each_way h at refl refl))

  pub gap_is : (u v p : ℕ) → sep (digraph_of t) u v ≡ Some p → gap (digraph_of t) u v ≡ p
  unfolding or_zero
  gap_is u v p e = rw e refl

  pub follows_edge : (r s : Release) → Follows t r s → IsEdge (digraph_of t) r.vertex s.vertex × (r.time + gap (digraph_of t) r.vertex s.vertex ≤ s.time)
  follows_edge r s (i, e, h, at, (from, to, time)) =
      let (a, b, found) = edge_found i e h at in
      let here : sep (digraph_of t) r.vertex s.vertex ≡ Some e.sep = rw (from, to) at found in
      let g = gap_is r.vertex s.vertex e.sep here in
      (here ∙ ap (λ n. let o : Option ℕ = Some n in o) (sym g), omega arith)

  -- what a release says of its vertex
  pub release_is : (r : Release) → IsReleaseOf t r → (r.vertex < length t.vertices) × (1 ≤ r.need) × (r.need ≤ wcet (digraph_of t) r.vertex)
  release_is r h = by_vertex (slice_get t.vertices r.vertex) refl h where
    by_vertex : (o : Option Vertex) → slice_get t.vertices r.vertex ≡ o → IsSomeAnd o (λ v. (1 ≤ r.need) × (r.need ≤ v.wcet)) → (r.vertex < length t.vertices)
        × (1 ≤ r.need) × (r.need ≤ wcet (digraph_of t) r.vertex)
    by_vertex None e k = absurd k
    by_vertex (Some v) e k = (
      slice_get_within t.vertices r.vertex v e,
      k.0,
      (let same = get_or_from_slice_get t.vertices r.vertex v no_vertex e in omega (arith, k.1, ap (λ x. x.wcet) same)),
    )

  pub path_of : (r : Release) (rs : List Release) → AllNeighbours (Follows t) (r ∷ rs) → IsPath (digraph_of t) r.vertex (walk_of rs)
  path_of r [] steps = tt
  path_of r (s ∷ rs) steps = ((follows_edge r s (AllNeighbours-head (Follows t) r s rs steps)).0, path_of s rs (AllNeighbours-tail (Follows t) r (s ∷ rs) steps))

  pub part_walk : (rs : List Release) → IsLegalPart t rs → IsWalk (digraph_of t) (walk_of rs)
  part_walk [] part = tt
  part_walk (r ∷ rs) part = ((release_is r (All-head (IsReleaseOf t) r rs part.each)).0, path_of r rs part.steps)

  -- the needs are at most the work
  pub part_work : (rs : List Release) → All (IsReleaseOf t) rs → sum_by (λ r. r.need) rs ≤ work (digraph_of t) (walk_of rs)
  unfolding work
  part_work [] each = omega arith
  part_work (r ∷ rs) each =
      let (a, b, c) = release_is r (All-head (IsReleaseOf t) r rs each) in
      omega (arith, sum_by-cons (λ x. x.need) r rs, part_work rs (All-tail (IsReleaseOf t) r rs each))

  -- the walk's offsets are at most as late as the releases
  pub part_due : (a d : ℕ) (r : Release) (rs : List Release) → a ≤ r.time → All (λ x. x.time + deadline (digraph_of t) x.vertex ≤ d) (r ∷ rs) → AllNeighbours (Follows t) (r ∷ rs)
      → a + (span (digraph_of t) r.vertex (walk_of rs) + deadline (digraph_of t) (last_of r.vertex (walk_of rs))) ≤ d
  unfolding span
  part_due a d r [] from due steps =
      let here = All-head (λ x. x.time + deadline (digraph_of t) x.vertex ≤ d) r [] due in
      omega arith
  part_due a d r (s ∷ rs) from due steps =
      let (e, later) = follows_edge r s (AllNeighbours-head (Follows t) r s rs steps) in
      let rest = part_due (a + gap (digraph_of t) r.vertex s.vertex) d s rs (omega arith) (All-tail (λ x. x.time + deadline (digraph_of t) x.vertex ≤ d) r (s ∷ rs) due)
      (AllNeighbours-tail (Follows t) r (s ∷ rs) steps) in
      omega arith

  -- and so what is released before b is asked for by then
  pub part_request : (a b offset : ℕ) (r : Release) (rs : List Release) → a + offset ≤ r.time → All (IsReleaseOf t) (r ∷ rs) → AllNeighbours (Follows t) (r ∷ rs)
      → sum_by (λ x. cond (ltb x.time b) x.need 0) (r ∷ rs) ≤ requested_from (digraph_of t) offset r.vertex (walk_of rs) (b - a)
  unfolding requested_from
  part_request a b offset r [] from each steps =
      let (here, some, need) = release_is r (All-head (IsReleaseOf t) r [] each) in
      omega (arith, sum_by-cons (λ x. cond (ltb x.time b) x.need 0) r [], asked_one a b offset r.time r.need (wcet (digraph_of t) r.vertex) from need)
  part_request a b offset r (s ∷ rs) from each steps =
      let (here, some, need) = release_is r (All-head (IsReleaseOf t) r (s ∷ rs) each) in
      let (e, later) = follows_edge r s (AllNeighbours-head (Follows t) r s rs steps) in
      let rest = part_request a b (offset + gap (digraph_of t) r.vertex s.vertex) s rs (omega arith) (All-tail (IsReleaseOf t) r (s ∷ rs) each) (AllNeighbours-tail (Follows t) r (s ∷ rs) steps) in
      omega (arith, sum_by-cons (λ x. cond (ltb x.time b) x.need 0) r (s ∷ rs), asked_one a b offset r.time r.need (wcet (digraph_of t) r.vertex) from need, rest)
