-- What a way says of its edge.
use Rattle.std.proofs.Common.{◌≡◌, ℕ, ◌+◌, ◌-◌, ◌^◌, ◌<◌, ◌≤◌, refl, sym, ap, ◌∙◌, subst, arith}
use Rattle.drt_model.specs.declared.tasks.Edge.{Edge}
use Rattle.drt_model.specs.Digraph.{vertex_count, out_degree, edge_of}
use Rattle.drt_model.specs.Walk.{deadline}
use Rattle.drt_wave.specs.declared.plan.Plan.{Plan}
use Rattle.drt_wave.specs.declared.seat.WaveSeat.{WaveSeat}
use Rattle.drt_wave.specs.declared.ways.Way.{Way}
use Rattle.drt_wave.specs.Net.{Reached}
use Rattle.drt_wave.specs.Cells.{width, cell_at, net_of, IsWavePlan}
use Rattle.drt_wave.specs.Seats.{HasRaised, PassedOn}
use Rattle.drt_wave.specs.Ways.{IsWay}
use Rattle.drt_wave.proofs.Working.{reach_more, sum_fits}

module _ (p : Plan) where
  way_offset : (e : Edge) (y : Way) (s : ℕ) → IsWay p e y → y.gap + s ≡ s + e.sep
  way_offset e y s is = ap (λ g. g + s) is.gap ∙ omega arith

  way_due : (e : Edge) (y : Way) (s : ℕ) → IsWay p e y → s < y.end → s + e.sep + deadline p.graph e.to ≤ p.bound
  way_due e y s is lt = let below : s < width p - (e.sep + deadline p.graph e.to) = subst (λ n. s < n) is.end lt in omega arith

  way_below : (e : Edge) (y : Way) (s : ℕ) → IsWay p e y → s + e.sep + deadline p.graph e.to ≤ p.bound → s < y.end
  way_below e y s is due = subst (λ n. s < n) (sym is.end) (omega arith)

  pub way_vertex : IsWavePlan p → (u k : ℕ) (y : Way) → u < vertex_count p.graph → k < out_degree p.graph u → IsWay p (edge_of p.graph u k) y → y.vertex < vertex_count p.graph
  way_vertex plan u k y ltu ltk is = subst (λ v. v < vertex_count p.graph) (sym is.vertex) (plan.sound.to u k ltu ltk)

  -- an offset below the end leads to a cell
  pub way_within : (e : Edge) (y : Way) (s : ℕ) → IsWay p e y → s < y.end → y.gap + s ≤ p.bound
  way_within e y s is lt = let due = way_due e y s is lt in let at = way_offset e y s is in omega arith

  -- the work that it adds reaches that cell
  pub way_reaches : (u k s x : ℕ) (y : Way) → u < vertex_count p.graph → s ≤ p.bound → k < out_degree p.graph u → IsWay p (edge_of p.graph u k) y
      → Reached (net_of p) (cell_at p u s) x → s < y.end → Reached (net_of p) (cell_at p y.vertex (y.gap + s)) (x + y.work)
  way_reaches u k s x y ltu le ltk is r lt =
      let e : Edge = edge_of p.graph u k in
      subst (λ (q : ℕ × ℕ × ℕ). Reached (net_of p) (cell_at p q.0 q.1) (x + q.2)) (λ i. (sym is.vertex i, sym (way_offset e y s is) i, sym is.work i))
      (reach_more p u s k x ltu le ltk (way_due e y s is lt) r)

  -- the sum isn't too great
  pub way_fits : IsWavePlan p → (u k s x : ℕ) (y : Way) → u < vertex_count p.graph → s ≤ p.bound → k < out_degree p.graph u → IsWay p (edge_of p.graph u k) y
      → Reached (net_of p) (cell_at p u s) x → x + y.work < 2 ^ 64
  way_fits plan u k s x y ltu le ltk is r =
      let to = plan.sound.to u k ltu ltk in
      subst (λ w. x + w < 2 ^ 64) (sym is.work) (sum_fits p plan (net_of p).cells u s x _ plan.small refl le r (plan.sound.wcet _ to).1)

  -- what was passed on along the way was passed on along its edge
  pub way_passed : (n : WaveSeat) (u k s x : ℕ) (y : Way) → IsWay p (edge_of p.graph u k) y → (s < y.end → HasRaised n y.vertex (y.gap + s) (x + y.work)) → PassedOn p n u s x k
  way_passed n u k s x y is passed due =
      let e : Edge = edge_of p.graph u k in
      subst (λ (q : ℕ × ℕ × ℕ). HasRaised n q.0 q.1 (x + q.2)) (λ i. (is.vertex i, way_offset e y s is i, is.work i)) (passed (way_below e y s is due))
