-- What the code makes of its draws, as the formulas of Generated, and one more of each in its list.
use Rattle.std.proofs.Common.{◌≡◌, ℕ, ◌+◌, ◌*◌, ◌/◌, ◌-◌, true, false, eqb, List, [], ◌∷◌, ◌++◌, map, slice_index, refl, sym, ap, ◌∙◌, arith}
use Rattle.std.specs.List.{range_with_len, flat_map}
use Rattle.std.proofs.lemmas.Bool.{eq-eqb, ne_eqb}
use Rattle.std.proofs.lemmas.List.{append-nil}
use Rattle.std.proofs.lemmas.List.Concat.{flat_map-append}
use Rattle.std.proofs.lemmas.List.FromFn.{map-range_with_len_more}
use Rattle.drt_model.specs.declared.tasks.Vertex.{Vertex}
use Rattle.drt_model.specs.declared.tasks.Edge.{Edge}
use Rattle.drt_model.specs.declared.tasks.Task.{Task}
use Rattle.drt_gen.specs.Draws.{draw, state_after}
use Rattle.drt_gen.specs.Generated.{all_drawn_edges, drawn_edges, drawn_period, drawn_task, drawn_vertex, drawn_vertices, next_on_ring, periods, task_name, vertex_name}
use Rattle.drt_gen.proofs.Shifts.{all_edges_shift, edges_are, edges_shift, task_shift, vertex_shift, vertices_shift}

-- A vertex.
pub vertex_made : (p x j w d : ℕ) (name : List ℕ) → name ≡ vertex_name j → w ≡ draw x 0 (p / 15) → d ≡ draw x 1 (p / 2)
    → record { name = name; wcet = 1 + w; deadline = p - d } ≡ drawn_vertex p x 0 j
unfolding drawn_vertex
vertex_made p x j w d name named first second = λ i. record { name = named i; wcet = 1 + first i; deadline = p - second i }

-- The edges out of a vertex, where the drawn vertex is the next on the ring and where it isn't.
module _ (p x j a t : ℕ) (first : a ≡ p * (1 + draw x 0 2)) (second : t ≡ draw x 1 12) where
  pub one_made : t ≡ next_on_ring j → record { from = j; to = next_on_ring j; sep = a } ∷ [] ≡ drawn_edges p x 0 j
  one_made same =
      let e : eqb (draw x 1 12) (next_on_ring j) ≡ true = eq-eqb (draw x 1 12) (next_on_ring j) (sym second ∙ same) in
      sym (edges_are p x 0 j ∙ rw e (λ i. record { from = j; to = next_on_ring j; sep = sym first i } ∷ []))

  pub two_made : (b : ℕ) → b ≡ p * (1 + draw x 2 2) → (t ≡ next_on_ring j → ⊥)
      → record { from = j; to = next_on_ring j; sep = a } ∷ record { from = j; to = t; sep = b } ∷ [] ≡ drawn_edges p x 0 j
  two_made b third differ =
      let e : eqb (draw x 1 12) (next_on_ring j) ≡ false = ne_eqb (draw x 1 12) (next_on_ring j) (λ same. differ (second ∙ same)) in
      sym (edges_are p x 0 j ∙ rw e (λ i. record { from = j; to = next_on_ring j; sep = sym first i } ∷ record { from = j; to = sym second i; sep = sym third i } ∷ []))

-- A task, by the states at which its vertices and its edges begin.
pub task_made : (x n p s t : ℕ) (name : List ℕ) (vertices : List Vertex) (edges : List Edge)
    → name ≡ task_name n → p ≡ slice_index periods (draw x 0 8) → s ≡ state_after x 1 → vertices ≡ drawn_vertices p s 0
    → t ≡ state_after x 25 → edges ≡ all_drawn_edges p t 0
    → record { name = name; priority = n + 1; vertices = vertices; edges = edges } ≡ drawn_task x 0 n
unfolding drawn_task drawn_period
task_made x n p s t name vertices edges named period at_s vs at_t es =
    let q = drawn_period x 0 in
    let first = vs ∙ (ap (λ u. drawn_vertices p u 0) at_s ∙ (vertices_shift x 1 p 0 1 refl ∙ ap (λ r. drawn_vertices r x 1) period)) in
    let second = es ∙ (ap (λ u. all_drawn_edges p u 0) at_t ∙ (all_edges_shift x 25 p 0 25 refl ∙ ap (λ r. all_drawn_edges r x 25) period)) in
    λ i. record { name = named i; priority = n + 1; vertices = first i; edges = second i }

-- The vertices so far.
abbrev pub vertices_to : ℕ → ℕ → ℕ → List Vertex
vertices_to p x j = map (λ k. drawn_vertex p x (0 + 2 * k) k) (range_with_len 0 j)

pub vertices_more : (p x j s : ℕ) (vs : List Vertex) (v : Vertex) → vs ≡ vertices_to p x j → s ≡ state_after x (2 * j) → v ≡ drawn_vertex p s 0 j
    → vs ++ v ∷ [] ≡ vertices_to p x (j + 1)
vertices_more p x j s vs v so_far at is =
    let f : ℕ → Vertex = λ k. drawn_vertex p x (0 + 2 * k) k in
    let one : v ≡ f j = is ∙ (ap (λ u. drawn_vertex p u 0 j) at ∙ vertex_shift x (2 * j) p 0 (0 + 2 * j) j (omega arith)) in
    (λ i. so_far i ++ one i ∷ []) ∙ sym (map-range_with_len_more f 0 j j (omega arith))

-- The edges so far.
abbrev pub edges_to : ℕ → ℕ → ℕ → List Edge
edges_to p x j = flat_map (λ k. drawn_edges p x (0 + 3 * k) k) (range_with_len 0 j)

-- The numbers from 0 on, and one more.
map_same : (ks : List ℕ) → map (λ k. k) ks ≡ ks
map_same [] = refl
map_same (k ∷ ks) = ap (λ rest. k ∷ rest) (map_same ks)

range_more : (j : ℕ) → range_with_len 0 (j + 1) ≡ range_with_len 0 j ++ j ∷ []
range_more j =
    let f : ℕ → ℕ = λ k. k in
    sym (map_same (range_with_len 0 (j + 1))) ∙ (map-range_with_len_more f 0 j j (omega arith) ∙ ap (λ ks. ks ++ j ∷ []) (map_same (range_with_len 0 j)))

pub edges_more : (p x j s : ℕ) (es fs gs : List Edge) → es ≡ edges_to p x j → s ≡ state_after x (3 * j) → gs ≡ drawn_edges p s 0 j → fs ≡ es ++ gs
    → fs ≡ edges_to p x (j + 1)
edges_more p x j s es fs gs so_far at is added =
    let f : ℕ → List Edge = λ k. drawn_edges p x (0 + 3 * k) k in
    let one : gs ≡ f j = is ∙ (ap (λ u. drawn_edges p u 0 j) at ∙ edges_shift x (3 * j) p 0 (0 + 3 * j) j (omega arith)) in
    let whole : flat_map f (range_with_len 0 (j + 1)) ≡ flat_map f (range_with_len 0 j) ++ f j
    = ap (flat_map f) (range_more j) ∙ (flat_map-append f (range_with_len 0 j) (j ∷ []) ∙ ap (λ rest. flat_map f (range_with_len 0 j) ++ rest) (append-nil (f j))) in
    added ∙ ((λ i. so_far i ++ one i) ∙ sym whole)

-- The tasks so far.
abbrev pub tasks_to : ℕ → ℕ → List Task
tasks_to x n = map (λ i. drawn_task x (61 * i) i) (range_with_len 0 n)

pub tasks_more : (x n s : ℕ) (ts : List Task) (t : Task) → ts ≡ tasks_to x n → s ≡ state_after x (61 * n) → t ≡ drawn_task s 0 n
    → ts ++ t ∷ [] ≡ tasks_to x (n + 1)
tasks_more x n s ts t so_far at is =
    let f : ℕ → Task = λ i. drawn_task x (61 * i) i in
    let one : t ≡ f n = is ∙ (ap (λ u. drawn_task u 0 n) at ∙ task_shift x (61 * n) 0 (61 * n) n (omega arith)) in
    (λ i. so_far i ++ one i ∷ []) ∙ sym (map-range_with_len_more f 0 n n (omega arith))
