-- The labels that no other one covers, and the entries gathered so far.
use Rattle.std.proofs.Common.{◌≡◌, ◌⊎◌, ℕ, zero, suc, ◌+◌, ◌*◌, ◌<◌, ◌≤◌, List, [], ◌∷◌, ◌++◌, length-append, refl, sym, ap, ◌∙◌, subst, inl, inr, ⊎_elim, arith}
use Rattle.std.specs.Prelude.{Contains}
use Rattle.std.proofs.lemmas.List.Elements.{Contains-append_left, Contains-append_right, Contains-append_cases}
use mathlib.Core.Logic.{dite}
use native.Mathlib.Decide.{ℕ_discrete, dec_lt, dec_le}
use Rattle.drt_model.specs.Digraph.{IsConstrainedGraph, vertex_count}
use Rattle.drt_model.specs.Walk.{IsPath, gap, deadline, last_of, span}
use Rattle.drt_model.specs.Legal.{AllNeighbours}
use Rattle.drt_model.proofs.Neighbours.{AllNeighbours-one, AllNeighbours-head, AllNeighbours-tail, AllNeighbours-cons}
use Rattle.drt_graph.specs.declared.front.FrontEntry.{FrontEntry}
use Rattle.drt_graph.proofs.Edges.{edge_of_sep, source_of}
use Rattle.drt_graph.proofs.Paths.{span_cons, span_none}
use Rattle.drt_wave.specs.Cells.{IsWavePlan}
use Rattle.drt_wave.specs.Dense.{Dense, AreBest, work_at}
use Rattle.drt_wave.specs.Greatest.{IsWalkInRange, IsRangeEntry, HasWalk, IsGreatestWork}
use Rattle.drt_wave.specs.Fronts.{IsWalkEntry, IsNonDominatedEntry, IsFrontOf, IsExactFront, CoversAll}
use Rattle.drt_graph.specs.FrontEntry.{due, IsNextEntry, Covers}
use Rattle.drt_graph.specs.WalkLabel.{demand_of}
use Rattle.drt_graph.proofs.WalkLabels.{same_entry}
use Rattle.drt_wave.specs.Gathered.{IsCellKept, IsCellBefore, AreCellsGathered, IsMost}
use Rattle.drt_wave.proofs.Walks.{greatest_at, has_bounds}

-- An entry of these parts.
abbrev entry : ℕ → ℕ → ℕ → FrontEntry
entry v s x = record { vertex = v; offset = s; work = x }

module _ (d : Dense) (plan : IsWavePlan d.plan) (best : AreBest d.plan d.columns) where
  abbrev IsLabel : FrontEntry → Type 0
  IsLabel = IsRangeEntry d.plan.graph d.plan.bound

  greatest : (v s : ℕ) → v < vertex_count d.plan.graph → s ≤ d.plan.bound → IsGreatestWork d.plan.graph d.plan.bound v s (work_at d v s)
  greatest v s ltv le = greatest_at d.plan d.columns plan best v s ltv le

  -- What is kept is not covered by another label.
  kept_alone : (e : FrontEntry) → IsCellKept d e → IsNonDominatedEntry IsLabel e
  kept_alone e k =
      let some = k.some in let is = k.works in
      record {
        label = subst (HasWalk d.plan.graph d.plan.bound e.vertex e.offset) (sym is) ((greatest e.vertex e.offset k.vertex k.offset).0 (λ z. absurd (omega arith)));
        alone = λ o label covers.
            let b = has_bounds d.plan plan o.vertex o.offset o.work label in
            let le = (greatest o.vertex o.offset b.0 b.1).1 o.work label in
            let same_vertex : o.vertex ≡ e.vertex = covers.0 in
            let here : work_at d o.vertex o.offset ≡ work_at d e.vertex o.offset = ap (λ v. work_at d v o.offset) same_vertex in
            dite (dec_lt o.offset e.offset)
            (λ lt. let above = k.above o.offset lt in let more = covers.2 in absurd (omega (arith, le, here, above, more)))
            (λ nlt.
            let early = covers.1 in let same_offset : o.offset ≡ e.offset = omega (arith, early) in
            let there : work_at d e.vertex o.offset ≡ work_at d e.vertex e.offset = ap (λ s. work_at d e.vertex s) same_offset in
            let more = covers.2 in
            same_entry o e same_vertex same_offset (omega (arith, le, here, there, is, more)));
      }

  -- A label that no other covers is kept.
  alone_kept : (e : FrontEntry) → IsNonDominatedEntry IsLabel e → IsCellKept d e
  alone_kept e n =
      let b = has_bounds d.plan plan e.vertex e.offset e.work n.label in
      let le = (greatest e.vertex e.offset b.0 b.1).1 e.work n.label in
      let some = b.2 in
      -- the entry of a cell of the vertex that has at least the work is the entry itself
      let itself : (t : ℕ) → t ≤ e.offset → e.work ≤ work_at d e.vertex t → entry e.vertex t (work_at d e.vertex t) ≡ e =
      λ t early more. n.alone (entry e.vertex t (work_at d e.vertex t))
      ((greatest e.vertex t b.0 (let far = b.1 in omega (arith, far))).0 (λ z. absurd (omega arith))) (refl, early, more) in
      record {
        vertex = b.0;
        offset = b.1;
        works = sym (ap (λ (x : FrontEntry). x.work) (itself e.offset (omega arith) le));
        some = some;
        above = λ t lt. dite (dec_lt (work_at d e.vertex t) e.work) (λ less. less)
            (λ nless. let same : t ≡ e.offset = ap (λ (x : FrontEntry). x.offset) (itself t (omega arith) (omega arith)) in absurd (omega arith));
      }

  -- Entries that are all before a vertex past the last one are a front.
  pub gathered_front : (entries : List FrontEntry) → AreCellsGathered d (vertex_count d.plan.graph) 0 entries → IsFrontOf IsLabel entries
  gathered_front entries g e = (λ has. kept_alone e (g.kept e has).0, λ n. let k = alone_kept e n in g.all e k (inl k.vertex))

  -- At an offset below n there is at least so much work, or there is less at each.
  some_above : (v w n : ℕ) → ((t : ℕ) × (t < n) × (w ≤ work_at d v t)) ⊎ ((t : ℕ) → t < n → work_at d v t < w)
  some_above v w zero = inr (λ t lt. absurd (omega arith))
  some_above v w (suc n) = dite (dec_le w (work_at d v n))
      (λ le. inl (n, omega arith, le))
      (λ nle. ⊎_elim
      (λ (f : (t : ℕ) × (t < n) × (w ≤ work_at d v t)). let l = f.1 in inl (f.0, omega (arith, l), f.2))
      (λ (all : (t : ℕ) → t < n → work_at d v t < w). inr (λ t lt. dite (ℕ_discrete t n)
      (λ (e : t ≡ n). subst (λ z. work_at d v z < w) (sym e) (omega arith))
      (λ ne. all t (omega arith))))
      (some_above v w n))

  -- What is kept covers each work of a cell.
  kept_covers : (n v s x : ℕ) → s < n → v < vertex_count d.plan.graph → s ≤ d.plan.bound → 0 < x → x ≤ work_at d v s → (k : FrontEntry) × IsCellKept d k × Covers v s x k
  kept_covers zero v s x lt ltv le some fits = absurd (omega arith)
  kept_covers (suc n) v s x lt ltv le some fits = ⊎_elim
      (λ (f : (t : ℕ) × (t < s) × (work_at d v s ≤ work_at d v t)).
      let early = f.1 in let more = f.2 in
      let r = kept_covers n v f.0 x (omega (arith, early)) ltv (omega (arith, early)) some (omega (arith, more)) in
      let off = r.2.1 in (r.0, r.1, (r.2.0, omega (arith, off, early), r.2.2)))
      (λ (all : (t : ℕ) → t < s → work_at d v t < work_at d v s).
      (entry v s (work_at d v s), record { vertex = ltv; offset = le; works = refl; some = omega arith; above = all }, (refl, omega arith, fits)))
      (some_above v (work_at d v s) s)

  -- Such a front covers each label.
  pub gathered_covers : (entries : List FrontEntry) → AreCellsGathered d (vertex_count d.plan.graph) 0 entries → CoversAll IsLabel entries
  gathered_covers entries g e label =
      let b = has_bounds d.plan plan e.vertex e.offset e.work label in
      let le = (greatest e.vertex e.offset b.0 b.1).1 e.work label in
      let r = kept_covers (e.offset + 1) e.vertex e.offset e.work (omega arith) b.0 b.1 b.2 le in
      let has = g.all r.0 r.1 (inl r.1.vertex) in
      (has.0, r.0, has.1, has.2, r.2)

  -- With constrained deadlines each prefix of a walk is due before the walk's last job.
  all_in_range : IsConstrainedGraph d.plan.graph → (s u : ℕ) (vs : List ℕ) → IsPath d.plan.graph u vs
      → s + span d.plan.graph u vs + deadline d.plan.graph (last_of u vs) ≤ d.plan.bound → IsWalkInRange d.plan.graph d.plan.bound s u vs
  all_in_range con s u [] path due = let none = span_none d.plan.graph u in omega (arith, due, none)
  all_in_range con s u (v ∷ vs) path due =
      let g = d.plan.graph in
      let k = edge_of_sep g u v (gap g u v) path.0 in
      let near = con u k.0 (source_of g plan.sound u v (gap g u v) path.0) k.1 in let is = k.3 in
      let more = span_cons g u v vs in
      (omega (arith, near, is, more, due), all_in_range con (s + gap g u v) v vs path.1 (omega (arith, more, due)))

  range_of_walk : IsConstrainedGraph d.plan.graph → (e : FrontEntry) → IsWalkEntry d.plan.graph d.plan.bound e → IsLabel e
  range_of_walk con e w =
      let within : due d.plan.graph (demand_of d.plan.graph w.first w.others) ≤ d.plan.bound = subst (λ x. due d.plan.graph x ≤ d.plan.bound) w.label.is w.within in
      record { first = w.first; others = w.others; label = w.label; range = all_in_range con 0 w.first w.others w.label.path (omega (arith, within)) }

  range_last : (s u : ℕ) (vs : List ℕ) → IsWalkInRange d.plan.graph d.plan.bound s u vs → s + span d.plan.graph u vs + deadline d.plan.graph (last_of u vs) ≤ d.plan.bound
  range_last s u [] range = let none = span_none d.plan.graph u in omega (arith, range, none)
  range_last s u (v ∷ vs) range = let more = span_cons d.plan.graph u v vs in let rest = range_last (s + gap d.plan.graph u v) v vs range.1 in omega (arith, more, rest)

  walk_of_range : (e : FrontEntry) → IsLabel e → IsWalkEntry d.plan.graph d.plan.bound e
  walk_of_range e h =
      let last = range_last 0 h.first h.others h.range in
      let within : due d.plan.graph (demand_of d.plan.graph h.first h.others) ≤ d.plan.bound = omega (arith, last) in
      record { first = h.first; others = h.others; label = h.label; within = subst (λ x. due d.plan.graph x ≤ d.plan.bound) (sym h.label.is) within }

  -- Where a cell isn't 0, its vertex is due within the bound.
  pub cell_due : (v s : ℕ) → v < vertex_count d.plan.graph → s ≤ d.plan.bound → 0 < work_at d v s → s + deadline d.plan.graph v ≤ d.plan.bound
  cell_due v s ltv le some = (walk_of_range (entry v s (work_at d v s)) ((greatest v s ltv le).0 (λ z. absurd (omega arith)))).within

  -- So a front of the labels of walks in range is one of all walks whose last job is due within the bound.
  pub constrained_front : (entries : List FrontEntry) → IsFrontOf IsLabel entries → IsConstrainedGraph d.plan.graph → IsExactFront d.plan.bound d.plan.graph entries
  constrained_front entries front con e = (
    (λ has. let n = (front e).0 has in record { label = walk_of_range e n.label; alone = λ o w covers. n.alone o (range_of_walk con o w) covers }),
    (λ n. (front e).1 record { label = range_of_walk con e n.label; alone = λ o w covers. n.alone o (walk_of_range o w) covers }),
  )

  pub constrained_covers : (entries : List FrontEntry) → CoversAll IsLabel entries → IsConstrainedGraph d.plan.graph → CoversAll (IsWalkEntry d.plan.graph d.plan.bound) entries
  constrained_covers entries all con e w = all e (range_of_walk con e w)

-- One more at the end of a list, which stands behind each of it.
neighbours_more : {X : Type 0} (R : X → X → Type 0) (xs : List X) (y : X) → AllNeighbours R xs → ((x : X) → Contains xs x → R x y) → AllNeighbours R (xs ++ y ∷ [])
neighbours_more R [] y n all = AllNeighbours-one R y
neighbours_more R (x ∷ []) y n all = AllNeighbours-cons R x y [] (all x (0, omega arith, refl)) (AllNeighbours-one R y)
neighbours_more R (x ∷ (z ∷ zs)) y n all =
    AllNeighbours-cons R x z (zs ++ y ∷ []) (AllNeighbours-head R x z zs n)
    (neighbours_more R (z ∷ zs) y (AllNeighbours-tail R x (z ∷ zs) n) (λ w has. all w (suc has.0, omega (arith, has.1), has.2)))

module _ (d : Dense) where
  -- The list before the first vertex is empty.
  pub none_gathered : (entries : List FrontEntry) → entries ≡ [] → AreCellsGathered d 0 0 entries
  none_gathered entries is = subst (AreCellsGathered d 0 0) (sym is) record {
    kept = λ e has. absurd (omega (arith, has.1));
    all = λ e k b. ⊎_elim (λ (lt : e.vertex < 0). absurd (omega arith)) (λ (lt : (e.vertex ≡ 0) × (e.offset < 0)). let l = lt.1 in absurd (omega (arith, l))) b;
    ordered = λ i e lt. absurd (omega arith);
    few = omega arith;
  }

  -- A vertex is done at the offset past the bound.
  pub next_vertex : (v s : ℕ) (entries : List FrontEntry) → s ≡ d.plan.bound + 1 → AreCellsGathered d v s entries → AreCellsGathered d (v + 1) 0 entries
  next_vertex v s entries end g = let past : d.plan.bound < s = omega arith in record {
    kept = λ e has. let k = g.kept e has in (k.0, ⊎_elim (λ (lt : e.vertex < v). inl (omega arith)) (λ (lt : (e.vertex ≡ v) × (e.offset < s)). let l = lt.0 in inl (omega (arith, l))) k.1);
    all = λ e k b. g.all e k (⊎_elim
        (λ (lt : e.vertex < v + 1). dite (dec_lt e.vertex v) (λ l. inl l) (λ nl. let far = k.offset in inr (omega arith, omega (arith, far))))
        (λ (lt : (e.vertex ≡ v + 1) × (e.offset < 0)). let l = lt.1 in absurd (omega (arith, l))) b);
    ordered = g.ordered;
    few = (let few = g.few in let row : (v + 1) * (d.plan.bound + 1) ≡ v * (d.plan.bound + 1) + (d.plan.bound + 1) = grind arith in omega (arith, few, row, end));
  }

  pub most_none : (v : ℕ) → IsMost d v 0 0
  most_none v = record { least = λ t lt. absurd (omega arith); found = λ lt. absurd (omega arith) }

  -- The next offset has no more work.
  pub most_same : (v s most : ℕ) → work_at d v s ≤ most → IsMost d v s most → IsMost d v (s + 1) most
  most_same v s most le m = record {
    least = λ t lt. dite (ℕ_discrete t s) (λ (e : t ≡ s). subst (λ z. work_at d v z ≤ most) (sym e) le) (λ ne. m.least t (omega arith));
    found = λ some. let f = m.found some in (f.0, let l = f.1 in omega (arith, l), f.2);
  }

  -- It has more.
  pub most_more : (v s most : ℕ) → most < work_at d v s → IsMost d v s most → IsMost d v (s + 1) (work_at d v s)
  most_more v s most lt m = record {
    least = λ t l. dite (ℕ_discrete t s) (λ (e : t ≡ s). subst (λ z. work_at d v z ≤ work_at d v s) (sym e) (omega arith)) (λ ne. let old = m.least t (omega arith) in omega (arith, old));
    found = λ some. (s, omega arith, refl);
  }

  -- where it has no more work it isn't kept
  pub gathered_same : (v s most : ℕ) (entries : List FrontEntry) → work_at d v s ≤ most → IsMost d v s most → AreCellsGathered d v s entries → AreCellsGathered d v (s + 1) entries
  gathered_same v s most entries le m g = record {
    kept = λ e has. let k = g.kept e has in (k.0, ⊎_elim (λ (lt : e.vertex < v). inl lt) (λ (lt : (e.vertex ≡ v) × (e.offset < s)). let l = lt.1 in inr (lt.0, omega (arith, l))) k.1);
    all = λ e k b. ⊎_elim
        (λ (lt : e.vertex < v). g.all e k (inl lt))
        (λ (lt : (e.vertex ≡ v) × (e.offset < s + 1)). dite (dec_lt e.offset s)
        (λ l. g.all e k (inr (lt.0, l)))
        (λ nl.
        let l = lt.1 in let at : e.offset ≡ s = omega (arith, l) in
        let here : work_at d e.vertex e.offset ≡ work_at d v s = ap (λ (q : ℕ × ℕ). work_at d q.0 q.1) (λ i. (lt.0 i, at i)) in
        let is = k.works in let some = k.some in
        let f = m.found (omega (arith, here, is, some)) in let fl = f.1 in let fis = f.2 in
        let above = k.above f.0 (omega (arith, fl, at)) in
        let there : work_at d e.vertex f.0 ≡ work_at d v f.0 = ap (λ z. work_at d z f.0) lt.0 in
        absurd (omega (arith, here, is, above, there, fis)))) b;
    ordered = g.ordered;
    few = (let few = g.few in omega (arith, few));
  }

  -- where it has more it is
  pub gathered_more : (v s most : ℕ) (entries new : List FrontEntry) → v < vertex_count d.plan.graph → s ≤ d.plan.bound → most < work_at d v s → IsMost d v s most → AreCellsGathered d v s entries
      → new ≡ entries ++ entry v s (work_at d v s) ∷ [] → AreCellsGathered d v (s + 1) new
  gathered_more v s most entries new ltv le lt m g is =
      let x : FrontEntry = entry v s (work_at d v s) in
      let mine : IsCellKept d x = record { vertex = ltv; offset = le; works = refl; some = omega arith; above = λ t l. let old = m.least t l in omega (arith, old) } in
      subst (AreCellsGathered d v (s + 1)) (sym is) record {
        kept = λ e has. ⊎_elim
            (λ (old : Contains entries e). let k = g.kept e old in (
              k.0,
              ⊎_elim (λ (l : e.vertex < v). inl l) (λ (l : (e.vertex ≡ v) ×
                  (e.offset < s)). let l1 = l.1 in inr (l.0, omega (arith, l1))) k.1,
            ))
            (λ (now : Contains (x ∷ []) e). let same : x ≡ e = only x e now in subst (λ z. IsCellKept d z × IsCellBefore v (s + 1) z) same (mine, inr (refl, omega arith)))
            (Contains-append_cases entries (x ∷ []) e has);
        all = λ e k b. ⊎_elim
            (λ (l : e.vertex < v). Contains-append_left entries (x ∷ []) e (g.all e k (inl l)))
            (λ (l : (e.vertex ≡ v) × (e.offset < s + 1)). dite (dec_lt e.offset s)
            (λ early. Contains-append_left entries (x ∷ []) e (g.all e k (inr (l.0, early))))
            (λ late.
            let l1 = l.1 in let at : e.offset ≡ s = omega (arith, l1) in
            let here : work_at d e.vertex e.offset ≡ work_at d v s = ap (λ (q : ℕ × ℕ). work_at d q.0 q.1) (λ i. (l.0 i, at i)) in
            let same : x ≡ e = same_entry x e (sym l.0) (sym at) (sym here ∙ sym k.works) in
            Contains-append_right entries (x ∷ []) e (0, omega arith, same))) b;
        ordered = neighbours_more IsNextEntry entries x g.ordered (λ e has.
            let k = g.kept e has in ⊎_elim
            (λ (l : e.vertex < v). inl l)
            (λ (l : (e.vertex ≡ v) × (e.offset < s)).
            let was = k.0.works in let low = m.least e.offset l.1 in
            let here : work_at d e.vertex e.offset ≡ work_at d v e.offset = ap (λ z. work_at d z e.offset) l.0 in
            inr (l.0, l.1, omega (arith, was, low, here))) k.1);
        few = (let few = g.few in omega (arith, few, length-append entries (x ∷ [])));
      }
    where
      only : (x e : FrontEntry) → Contains (x ∷ []) e → x ≡ e
      only x e (zero, lt, at) = at
      only x e (suc i, lt, at) = absurd (omega arith)
