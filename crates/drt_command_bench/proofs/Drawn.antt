-- The scale of each generated set.
use Rattle.std.proofs.Common.{◌≡◌, ◌⊎◌, inl, inr, ℕ, suc, ◌+◌, ◌*◌, ◌<◌, ◌≤◌, List, [], ◌∷◌, length, map, All, refl, sym, subst, arith, eqb}
use Rattle.std.specs.Int.{◌∣◌}
use Rattle.std.proofs.lemmas.Bool.{cases_eq}
use Rattle.std.proofs.lemmas.List.Elements.{All-cons, All-filter, All-from_recursion, All-get_or, All-nil}
use Rattle.std.proofs.lemmas.List.FromFn.{get_or-map-range_with_len, length-map-range_with_len}
use Rattle.std.proofs.lemmas.Nat.{mod_below}
use Rattle.std.proofs.lemmas.Nat.Gcd.{dvd_of_mod-eq-zero, le_of_dvd}
use Rattle.drt_model.specs.declared.tasks.Vertex.{Vertex}
use Rattle.drt_model.specs.declared.tasks.Edge.{Edge}
use Rattle.drt_model.specs.declared.tasks.Task.{Task}
use Rattle.drt_model.specs.Digraph.{IsSoundGraph, digraph_of, edges_from, no_edge, out_edges, vertex_count}
use Rattle.drt_model.specs.Walk.{gap, IsEdge}
use Rattle.drt_model.specs.Utilisation.{Fraction, AreRatios, EachDivides, IsRatio}
use Rattle.drt_graph.proofs.Edges.{edge_of_sep, source_of}
use Rattle.drt_graph.proofs.Soundness.{sound_of}
use Rattle.drt_gen.specs.Draws.{draw}
use Rattle.drt_gen.specs.Generated.{drawn_edges, drawn_period, drawn_task, drawn_vertex, generated, next_on_ring, periods}
use Rattle.drt_gen.proofs.Limits.{each_flat, each_of, edges_cases, period_within, task_limits}
use Rattle.drt_command_bench.specs.Scales.{AreAllSmall, most_drawn_scale}
use Rattle.drt_command_bench.proofs.Periods.{den_of}

-- Each period divides 1,200.
period_divides : (x k : ℕ) → drawn_period x k ∣ 1200
unfolding drawn_period
period_divides x k =
    let P : ℕ → Type 0 = λ p. p ∣ 1200 in
    All-get_or P periods (draw x k 8) 0 (mod_below _ 8 (omega arith))
    (All-from_recursion P periods (
      dvd_of_mod-eq-zero 100 refl,
      (
        dvd_of_mod-eq-zero 120 refl,
        (
          dvd_of_mod-eq-zero 150 refl,
          (dvd_of_mod-eq-zero 200 refl, (dvd_of_mod-eq-zero 240 refl, (dvd_of_mod-eq-zero 300 refl, (dvd_of_mod-eq-zero 400 refl, (dvd_of_mod-eq-zero 600 refl, tt))))),
        ),
      ),
    ))

-- A separation is the period or twice that.
abbrev IsSep : ℕ → Edge → Type 0
IsSep p e = (e.sep ≡ p) ⊎ (e.sep ≡ 2 * p)

two_below : (x k : ℕ) → draw x k 2 < 2
two_below x k = mod_below _ 2 (omega arith)

sep_drawn : (p x k : ℕ) → (p * (1 + draw x k 2) ≡ p) ⊎ (p * (1 + draw x k 2) ≡ 2 * p)
sep_drawn p x k = elim (cases_eq (draw x k 2) 0) [
  | inl e ↦ inl (rw e (omega arith))
  | inr ne ↦
      let e : draw x k 2 ≡ 1 = omega (arith, two_below x k, ne) in
      inr (rw e (omega arith))
]

edges_seps : (x p : ℕ) → 100 ≤ p → p ≤ 600 → (k j : ℕ) → All (IsSep p) (drawn_edges p x k j)
edges_seps x p lo hi k j =
    let ring : Edge = record { from = j; to = next_on_ring j; sep = p * (1 + draw x k 2) } in
    let chord : Edge = record { from = j; to = draw x (k + 1) 12; sep = p * (1 + draw x (k + 1 + 1) 2) } in
    let first : IsSep p ring = sep_drawn p x k in
    let second : IsSep p chord = sep_drawn p x (k + 1 + 1) in
    elim (edges_cases x p lo hi k j) [
      | inl e ↦ subst (All (IsSep p)) (sym e) (All-cons (IsSep p) ring [] first (All-nil (IsSep p)))
      | inr (e, ne) ↦ subst (All (IsSep p)) (sym e) (All-cons (IsSep p) ring (chord ∷ []) first (All-cons (IsSep p) chord [] second (All-nil (IsSep p))))
    ]

-- So is each gap of the graph of a task all of whose separations are so.
gaps_of : (t : Task) (p : ℕ) → IsSoundGraph (digraph_of t) → All (IsSep p) t.edges → (u v : ℕ) → IsEdge (digraph_of t) u v → (gap (digraph_of t) u v ≡ p) ⊎ (gap (digraph_of t) u v ≡ 2 * p)
gaps_of t p sound all u v edge =
    let (k, within, to, at) = edge_of_sep (digraph_of t) u v (gap (digraph_of t) u v) edge in
    let l = source_of (digraph_of t) sound u v (gap (digraph_of t) u v) edge in
    let row : out_edges (digraph_of t) u ≡ edges_from t.edges u = get_or-map-range_with_len (edges_from t.edges) 0 (length t.vertices) u u [] l (omega arith) in
    let kept : All (IsSep p) (out_edges (digraph_of t) u) = rw row (All-filter (λ (e : Edge). eqb e.from u) (IsSep p) t.edges all) in
    subst (λ s. (s ≡ p) ⊎ (s ≡ 2 * p)) at (kept k no_edge within)

task_seps : (x k i : ℕ) → All (IsSep (drawn_period x k)) (drawn_task x k i).edges
unfolding drawn_task
task_seps x k i =
    let p = drawn_period x k in
    let within = period_within x k in
    each_flat (IsSep p) (λ j. drawn_edges p x (k + 25 + 3 * j) j) 0 12 (λ j least l. edges_seps x p within.0 within.1 (k + 25 + 3 * j) j)

task_size : (x k i : ℕ) → vertex_count (digraph_of (drawn_task x k i)) ≤ 12
unfolding drawn_task
task_size x k i =
    let vertex : ℕ → Vertex = λ j. drawn_vertex (drawn_period x k) x (k + 1 + 2 * j) j in
    omega (arith, length-map-range_with_len vertex 0 12)

-- Each denominator of a drawn task divides the greatest scale.
task_dens : (x k i : ℕ) → i < 12 → (r : Fraction) → IsRatio (digraph_of (drawn_task x k i)) r → r.den ∣ most_drawn_scale
task_dens x k i l r is =
    let t = drawn_task x k i in
    let sound = sound_of 1 t (task_limits x k i l) in
    den_of (digraph_of t) (drawn_period x k) (gaps_of t (drawn_period x k) sound (task_seps x k i)) sound (task_size x k i) (period_divides x k) r is

-- And each of a list of tasks.
all_dens : (tasks : List Task) (ratios : List Fraction) → All (λ t. (r : Fraction) → IsRatio (digraph_of t) r → r.den ∣ most_drawn_scale) tasks
    → AreRatios (map digraph_of tasks) ratios → EachDivides ratios most_drawn_scale
all_dens [] [] each are = tt
all_dens [] (r ∷ ratios) each are = absurd are
all_dens (t ∷ tasks) [] each are = absurd are
all_dens (t ∷ tasks) (r ∷ ratios) each are = (each 0 t (omega arith) r are.0, all_dens tasks ratios (λ j d l. each (suc j) d (omega (arith, l))) are.1)

pub scales_small : AreAllSmall
unfolding generated
scales_small number scale ratios are is =
    let task : ℕ → Task = λ i. drawn_task number (61 * i) i in
    let Divides : Task → Type 0 = λ t. (r : Fraction) → IsRatio (digraph_of t) r → r.den ∣ most_drawn_scale in
    let each : All Divides (generated number).tasks = each_of task Divides 12 (λ i l. task_dens number (61 * i) i l) in
    le_of_dvd (omega arith) (is.least most_drawn_scale (all_dens (generated number).tasks ratios each are))
