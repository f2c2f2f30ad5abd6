-- The works that reach a cell are those of the graph's walks in range.
use Rattle.std.proofs.Common.{◌≡◌, ℕ, ◌+◌, ◌<◌, ◌≤◌, List, [], ◌∷◌, ◌++◌, Some, refl, sym, ap, subst, arith, slice_index}
use Rattle.std.specs.Prelude.{slice_index_or}
use Rattle.drt_model.specs.declared.tasks.Edge.{Edge}
use Rattle.drt_model.specs.Digraph.{Digraph, vertex_count, edge_of}
use Rattle.drt_model.specs.Walk.{wcet, deadline, gap, sep, IsEdge, IsPath, last_of, work, span}
use Rattle.drt_graph.proofs.Edges.{sep_of_edge, edge_of_sep, gap_of}
use Rattle.drt_graph.proofs.Paths.{work_cons, work_none, span_cons, span_none}
use Rattle.drt_graph.specs.WalkLabel.{IsLabelOf}
use Rattle.drt_graph.proofs.WalkLabels.{parts_of, label_one, label_more, label_vertex}
use Rattle.drt_wave.specs.declared.plan.Plan.{Plan}
use Rattle.drt_wave.specs.Net.{IsGreatestReaching}
use Rattle.drt_wave.specs.Cells.{cell_at, net_of, IsWavePlan, WalkTo}
use Rattle.drt_wave.specs.Dense.{AreBest}
use Rattle.drt_wave.specs.Greatest.{IsWalkInRange, HasWalk, IsGreatestWork}
use Rattle.drt_wave.proofs.Cells.{to_walk, of_walk, cell_vertex, cell_offset}

-- A walk in range that goes on to a vertex that is due within the bound is in range.
range_more : (g : Digraph) (bound s u v : ℕ) (vs : List ℕ) → IsWalkInRange g bound s u vs → s + span g u vs + gap g (last_of u vs) v + deadline g v ≤ bound → IsWalkInRange g bound s u (vs ++ v ∷ [])
range_more g bound s u v [] range h = let none = span_none g u in (range, omega (arith, h, none))
range_more g bound s u v (x ∷ vs) range h = let more = span_cons g u x vs in (range.0, range_more g bound (s + gap g u x) x v vs range.1 (omega (arith, h, more)))

-- The first vertex of a walk in range is due within the bound.
range_first : (g : Digraph) (bound s u : ℕ) (vs : List ℕ) → IsWalkInRange g bound s u vs → s + deadline g u ≤ bound
range_first g bound s u [] range = range
range_first g bound s u (v ∷ vs) range = range.0

-- A walk in range that goes on by an edge, and is still in range.
pub goes_on : (p : Plan) → IsWavePlan p → (u v s x : ℕ) → HasWalk p.graph p.bound u s x → IsEdge p.graph u v → s + gap p.graph u v + deadline p.graph v ≤ p.bound
    → HasWalk p.graph p.bound v (s + gap p.graph u v) (x + wcet p.graph v)
goes_on p plan u v s x walk on fits =
    let g = p.graph in let f : ℕ = walk.first in let others : List ℕ = walk.others in
    let parts = parts_of walk.label in
    let gaps : gap g (last_of f others) v ≡ gap g u v = ap (λ z. gap g z v) (sym parts.vertex) in
    let off = parts.offset in
    record {
      first = f;
      others = others ++ v ∷ [];
      label = label_more g f others (record { vertex = u; offset = s; work = x }) v walk.label on;
      range = range_more g p.bound 0 f v others walk.range (omega (arith, fits, gaps, off));
    }

-- The walk of some vertices, the last first, is one of the graph.
pub walk_of : (p : Plan) → IsWavePlan p → (v : ℕ) (before : List ℕ) (s x : ℕ) → WalkTo p v before s x → HasWalk p.graph p.bound v s x
walk_of p plan v [] s x w =
    let g = p.graph in let due = w.3 in
    let same_s : 0 ≡ s = sym w.1 in let same_x : wcet g v ≡ x = sym w.2 in
    record {
      first = v;
      others = [];
      label = subst (λ (q : ℕ × ℕ). IsLabelOf g v [] (record { vertex = v; offset = q.0; work = q.1 })) (λ i. (same_s i, same_x i)) (label_one g v w.0);
      range = omega (arith, due);
    }
walk_of p plan v (u ∷ before) s x w =
    let g = p.graph in let k : ℕ = w.0 in let r : ℕ = w.1 in let y : ℕ = w.2 in let e : Edge = edge_of g u k in
    let walk = walk_of p plan u before r y w.3 in
    let ltu : u < vertex_count g = label_vertex g walk.first walk.others (record { vertex = u; offset = r; work = y }) plan.sound walk.label in
    let named : sep g u v ≡ Some e.sep = subst (λ z. sep g u z ≡ Some e.sep) w.5 (sep_of_edge g plan.sound u k ltu w.4) in
    let is = gap_of g u v e.sep named in let gaps = is.0 in let off = w.6 in let works = w.7 in let due = w.8 in
    let same_s : r + gap g u v ≡ s = omega (arith, gaps, off) in
    let same_x : y + wcet g v ≡ x = omega (arith, works) in
    subst (λ (q : ℕ × ℕ). HasWalk g p.bound v q.0 q.1) (λ i. (same_s i, same_x i)) (goes_on p plan u v r y walk is.1 (omega (arith, gaps, off, due)))

-- The walk from f over the others, behind a walk to f, as a list of vertices, the last first.
before_of : (p : Plan) (f : ℕ) (others : List ℕ) (s x : ℕ) (before : List ℕ) → WalkTo p f before s x → IsPath p.graph f others → IsWalkInRange p.graph p.bound s f others
    → (b : List ℕ) × WalkTo p (last_of f others) b (s + span p.graph f others) (x + work p.graph others)
before_of p f [] s x before w path range =
    let g = p.graph in let none = span_none g f in let no_work = work_none g in
    let same_s : s ≡ s + span g f [] = omega (arith, none) in let same_x : x ≡ x + work g [] = omega (arith, no_work) in
    (before, subst (λ (q : ℕ × ℕ). WalkTo p f before q.0 q.1) (λ i. (same_s i, same_x i)) w)
before_of p f (v ∷ vs) s x before w path range =
    let g = p.graph in let k = edge_of_sep g f v (gap g f v) path.0 in
    let first = range_first g p.bound (s + gap g f v) v vs range.1 in
    let on : WalkTo p v (f ∷ before) (s + gap g f v) (x + wcet g v) = (k.0, s, x, w, k.1, k.2, ap (λ z. s + z) (sym k.3), refl, first) in
    let r = before_of p v vs (s + gap g f v) (x + wcet g v) (f ∷ before) on path.1 range.1 in
    let more = span_cons g f v vs in let works = work_cons g v vs in
    let same_s : s + gap g f v + span g v vs ≡ s + span g f (v ∷ vs) = omega (arith, more) in
    let same_x : x + wcet g v + work g vs ≡ x + work g (v ∷ vs) = omega (arith, works) in
    (r.0, subst (λ (q : ℕ × ℕ). WalkTo p (last_of v vs) r.0 q.0 q.1) (λ i. (same_s i, same_x i)) r.1)

-- A walk of the graph, as such a list.
pub of_has : (p : Plan) (v s x : ℕ) → HasWalk p.graph p.bound v s x → (before : List ℕ) × WalkTo p v before s x
of_has p v s x walk =
    let g = p.graph in let u : ℕ = walk.first in let others : List ℕ = walk.others in
    let parts = parts_of walk.label in
    let one : WalkTo p u [] 0 (wcet g u) = (walk.label.is_vertex, refl, refl, let due = range_first g p.bound 0 u others walk.range in omega (arith, due)) in
    let r = before_of p u others 0 (wcet g u) [] one walk.label.path walk.range in
    let off = parts.offset in let works = parts.works in let w1 = work_cons g u others in
    let same_s : 0 + span g u others ≡ s = omega (arith, off) in
    let same_x : wcet g u + work g others ≡ x = omega (arith, works, w1) in
    (r.0, subst (λ (q : ℕ × ℕ × ℕ). WalkTo p q.0 r.0 q.1 q.2) (λ i. (sym parts.vertex i, same_s i, same_x i)) r.1)

-- Where a walk in range ends there is a cell, and its work is more than 0.
pub has_bounds : (p : Plan) → IsWavePlan p → (v s x : ℕ) → HasWalk p.graph p.bound v s x → (v < vertex_count p.graph) × (s ≤ p.bound) × (0 < x)
has_bounds p plan v s x walk =
    let b = of_has p v s x walk in let at = of_walk p plan v b.0 s x b.1 in
    let some = (plan.sound.wcet walk.first walk.label.is_vertex).0 in let w1 = work_cons p.graph walk.first walk.others in let works = (parts_of walk.label).works in
    (at.1, at.0, omega (arith, some, w1, works))

-- What a cell holds is the greatest work of the walks that end there.
pub greatest_at : (p : Plan) (columns : List (List ℕ)) → IsWavePlan p → AreBest p columns → (v s : ℕ) → v < vertex_count p.graph → s ≤ p.bound
    → IsGreatestWork p.graph p.bound v s (slice_index (slice_index_or columns v []) s)
greatest_at p columns plan best v s ltv le =
    let c : ℕ = cell_at p v s in let x : ℕ = slice_index (slice_index_or columns v []) s in
    let is : IsGreatestReaching (net_of p) c x = best v s ltv le in (
      (λ ne.
          let r = is.0 ne in let walk = to_walk p r.0 c x r.1 in
          let at : WalkTo p v walk.0 s x = subst (λ (q : ℕ × ℕ). WalkTo p q.0 walk.0 q.1 x) (λ i. (cell_vertex p v s le i, cell_offset p v s le i)) walk.1 in
          walk_of p plan v walk.0 s x at),
      (λ y walk. let b = of_has p v s y walk in is.1 y (of_walk p plan v b.0 s y b.1).2),
    )
