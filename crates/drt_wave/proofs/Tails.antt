-- A walk that is found backwards over the cells.
use Rattle.std.proofs.Common.{◌≡◌, ℕ, ◌+◌, ◌<◌, ◌≤◌, List, [], ◌∷◌, ◌++◌, reverse, Some, refl, sym, ap, ◌∙◌, subst, arith}
use Rattle.std.proofs.lemmas.List.{reverse-append}
use Rattle.drt_model.specs.declared.tasks.Edge.{Edge}
use Rattle.drt_model.specs.Digraph.{Digraph, vertex_count, edge_of}
use Rattle.drt_model.specs.Walk.{IsPath, gap, wcet, deadline, sep, last_of, work, span}
use Rattle.drt_graph.proofs.Edges.{sep_of_edge, gap_of, source_of, target_of}
use Rattle.drt_graph.specs.declared.front.FrontEntry.{FrontEntry}
use Rattle.drt_graph.proofs.Paths.{work_cons, work_none, span_cons, span_none}
use Rattle.drt_graph.proofs.WalkLabels.{HasParts, label_of_parts, label_single}
use Rattle.drt_wave.specs.Net.{IsGreatestReaching, Reached}
use Rattle.drt_wave.specs.Cells.{cell_at, net_of, IsWavePlan, WalkTo}
use Rattle.drt_wave.specs.Dense.{Dense, AreBest, work_at}
use Rattle.drt_wave.specs.Greatest.{IsWalkInRange, IsWorkWalkTo}
use Rattle.drt_wave.specs.Backwards.{IsBackStep}
use Rattle.drt_wave.proofs.Bests.{positive}
use Rattle.drt_wave.proofs.Cells.{to_walk, of_walk, cell_vertex, cell_offset}
use Rattle.drt_wave.proofs.Working.{reach_more}
use Rattle.drt_wave.proofs.Walks.{greatest_at}
use Rattle.drt_wave.proofs.Kept.{cell_due}

-- The vertices found so far, the last one first, lead from a vertex and an offset to the last one, and are in range.
pub record IsTail (d : Dense) (v s at left : ℕ) (found : List ℕ) : Type 0 where
  pub others : List ℕ
  pub forward : reverse found ≡ at ∷ others
  pub path : IsPath d.plan.graph at others
  pub range : IsWalkInRange d.plan.graph d.plan.bound left at others
  pub vertex : last_of at others ≡ v
  pub offset : left + span d.plan.graph at others ≡ s
  pub works : work_at d at left + work d.plan.graph others ≡ work_at d v s

-- Where the search is: at a cell that isn't 0.
pub record IsAtCell (d : Dense) (at left : ℕ) : Type 0 where
  pub vertex : at < vertex_count d.plan.graph
  pub offset : left ≤ d.plan.bound
  pub some : 0 < work_at d at left

module _ (d : Dense) (plan : IsWavePlan d.plan) (best : AreBest d.plan d.columns) where
  pub tail_first : (v s : ℕ) (found : List ℕ) → IsAtCell d v s → found ≡ v ∷ [] → IsTail d v s v s found
  tail_first v s found cell is =
      let none = span_none d.plan.graph v in let no_work = work_none d.plan.graph in
      record {
        others = [];
        forward = ap reverse is;
        path = tt;
        range = cell_due d plan best v s cell.vertex cell.offset cell.some;
        vertex = refl;
        offset = omega (arith, none);
        works = omega (arith, no_work);
      }

  pub step_cell : (u r v s : ℕ) → s ≤ d.plan.bound → IsBackStep d u r v s → IsAtCell d u r
  step_cell u r v s le step = let off = step.offset in record {
    vertex = source_of d.plan.graph plan.sound u v (gap d.plan.graph u v) step.edge;
    offset = omega (arith, off);
    some = step.some;
  }

  pub tail_more : (v s at left u r : ℕ) (found new : List ℕ) → left ≤ d.plan.bound → IsBackStep d u r at left → IsTail d v s at left found → new ≡ found ++ u ∷ [] → IsTail d v s u r new
  tail_more v s at left u r found new le step t pushed =
      let g = d.plan.graph in let cell = step_cell u r at left le step in
      let more = span_cons g u at t.others in let works = work_cons g at t.others in
      let off = step.offset in let toff = t.offset in let sw = step.works in let tw = t.works in
      record {
        others = at ∷ t.others;
        forward = ap reverse pushed ∙ (reverse-append found (u ∷ []) ∙ ap (λ xs. u ∷ xs) t.forward);
        path = (step.edge, t.path);
        range = (cell_due d plan best u r cell.vertex cell.offset cell.some, subst (λ z. IsWalkInRange g d.plan.bound z at t.others) (sym off) t.range);
        vertex = t.vertex;
        offset = omega (arith, more, off, toff);
        works = omega (arith, works, sw, tw);
      }

  -- The cell of a vertex at offset 0 has the vertex's execution time.
  single_cell : (v : ℕ) → IsAtCell d v 0 → work_at d v 0 ≡ wcet d.plan.graph v
  single_cell v cell =
      let some = cell.some in
      let h = (greatest_at d.plan d.columns plan best v 0 cell.vertex (omega arith)).0 (λ z. absurd (omega arith)) in
      label_single d.plan.graph h.first h.others (record { vertex = v; offset = 0; work = work_at d v 0 }) plan.sound h.label refl

  pub tail_whole : (v s at left : ℕ) (found walk : List ℕ) → left ≡ 0 → IsAtCell d at left → IsTail d v s at left found → walk ≡ reverse found
      → IsWorkWalkTo d.plan.graph d.plan.bound v s (work_at d v s) walk
  tail_whole v s at left found walk none cell t is =
      let g = d.plan.graph in
      let off = t.offset in let tw = t.works in let works = work_cons g at t.others in
      let first : work_at d at left ≡ wcet g at = ap (work_at d at) none ∙ single_cell at (subst (IsAtCell d at) none cell) in
      let whole : FrontEntry = record { vertex = v; offset = s; work = work_at d v s } in
      let parts : HasParts g at t.others whole = record { vertex = sym t.vertex; offset = omega (arith, off, none); works = omega (arith, tw, works, first) } in
      subst (IsWorkWalkTo g d.plan.bound v s (work_at d v s)) (sym (is ∙ t.forward)) (
        label_of_parts g at t.others whole cell.vertex t.path parts,
        subst (λ z. IsWalkInRange g d.plan.bound z at t.others) none t.range,
      )

  -- A step leads to a smaller offset.
  pub step_earlier : (u r v s : ℕ) → IsBackStep d u r v s → r < s
  step_earlier u r v s step = let t = target_of d.plan.graph plan.sound u v (gap d.plan.graph u v) step.edge in let l = t.1 in let off = step.offset in omega (arith, l, off)

  -- Each cell at a later offset that isn't 0 has a step to it.
  pub has_step : (v s : ℕ) → IsAtCell d v s → 0 < s → (u : ℕ) × (r : ℕ) × IsBackStep d u r v s
  has_step v s cell later =
      let p = d.plan in let some = cell.some in
      let is : IsGreatestReaching (net_of p) (cell_at p v s) (work_at d v s) = best v s cell.vertex cell.offset in
      let r = is.0 (λ z. absurd (omega arith)) in
      let walk = to_walk p r.0 (cell_at p v s) (work_at d v s) r.1 in
      go walk.0 (subst (λ (q : ℕ × ℕ). WalkTo p q.0 walk.0 q.1 (work_at d v s)) (λ i. (cell_vertex p v s cell.offset i, cell_offset p v s cell.offset i)) walk.1)
    where
      go : (before : List ℕ) → WalkTo d.plan v before s (work_at d v s) → (u : ℕ) × (r : ℕ) × IsBackStep d u r v s
      go [] w = let none = w.1 in absurd (omega (arith, none))
      go (u ∷ before) w =
          let p = d.plan in let g = p.graph in let k : ℕ = w.0 in let r : ℕ = w.1 in let y : ℕ = w.2 in let e : Edge = edge_of g u k in
          let off = w.6 in let works = w.7 in let due = w.8 in
          let was = of_walk p plan u before r y w.3 in
          let some = positive (net_of p) was.2.0 (cell_at p u r) y was.2.1 in
          let here : IsGreatestReaching (net_of p) (cell_at p u r) (work_at d u r) = best u r was.1 was.0 in
          let le : y ≤ work_at d u r = here.1 y was.2 in
          let fits : r + e.sep + deadline g e.to ≤ p.bound = let same : deadline g e.to ≡ deadline g v = ap (deadline g) w.5 in omega (arith, off, due, same) in
          let on : Reached (net_of p) (cell_at p e.to (r + e.sep)) (work_at d u r + wcet g e.to) = reach_more p u r k (work_at d u r) was.1 was.0 w.4 fits (here.0 (λ z. absurd (omega arith))) in
          let to : Reached (net_of p) (cell_at p v s) (work_at d u r + wcet g v) = subst (λ (q : ℕ × ℕ). Reached (net_of p) (cell_at p q.0 q.1)
          (work_at d u r + wcet g q.0)) (λ i. (w.5 i, sym off i)) on in
          let is : IsGreatestReaching (net_of p) (cell_at p v s) (work_at d v s) = best v s cell.vertex cell.offset in
          let ge = is.1 (work_at d u r + wcet g v) to in
          let named : sep g u v ≡ Some e.sep = subst (λ z. sep g u z ≡ Some e.sep) w.5 (sep_of_edge g plan.sound u k was.1 w.4) in
          let edge = gap_of g u v e.sep named in let gaps = edge.0 in (
            u,
            r,
            record { edge = edge.1; offset = omega (arith, gaps, off); works = omega (arith, works, ge, le); some = omega (arith, some, le) },
          )
