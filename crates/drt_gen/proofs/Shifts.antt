-- Draws that begin behind some others: a formula of draw k at the state after m draws is the formula of draw m + k.
use Rattle.std.proofs.Common.{◌≡◌, ℕ, zero, suc, ◌+◌, ◌*◌, ◌/◌, ◌%◌, ◌^◌, ◌-◌, cond, eqb, List, [], ◌∷◌, map, slice_index, refl, sym, ap, ◌∙◌, arith}
use Rattle.std.specs.List.{range_with_len, flat_map}
use Rattle.drt_model.specs.declared.tasks.Edge.{Edge}
use Rattle.drt_gen.specs.Draws.{draw, state_after}
use Rattle.drt_gen.specs.Generated.{all_drawn_edges, drawn_edges, drawn_period, drawn_task, drawn_vertex, drawn_vertices, next_on_ring, periods, task_name, vertex_name}

-- One step of the generator.
abbrev pub step : ℕ → ℕ
step x = (x * 6364136223846793005 + 1442695040888963407) % 2 ^ 64

pub after_none : (x : ℕ) → state_after x 0 ≡ x
unfolding state_after
after_none x = refl

pub after_one : (x : ℕ) → state_after x 1 ≡ step x
unfolding state_after
after_one x = refl

-- The state after m draws and n further ones.
pub state_shift : (x m n : ℕ) → state_after (state_after x m) n ≡ state_after x (m + n)
unfolding state_after
state_shift x m zero = ap (state_after x) (omega arith)
state_shift x m (suc n) =
    let e : suc (m + n) ≡ m + suc n = omega arith in
    ap step (state_shift x m n) ∙ ap (state_after x) e

-- The same, where the sum is written otherwise.
pub states : (x m n l : ℕ) → m + n ≡ l → state_after (state_after x m) n ≡ state_after x l
states x m n l e = state_shift x m n ∙ ap (state_after x) e

module _ (x m : ℕ) where
  pub draws : (k l many : ℕ) → m + k ≡ l → draw (state_after x m) k many ≡ draw x l many
  draws k l many e = ap (λ s. s / 2 ^ 33 % many) (states x m (k + 1) (l + 1) (omega (arith, e)))

  pub period_shift : (k l : ℕ) → m + k ≡ l → drawn_period (state_after x m) k ≡ drawn_period x l
  unfolding drawn_period
  period_shift k l e = ap (slice_index periods) (draws k l 8 e)

  pub vertex_shift : (p k l j : ℕ) → m + k ≡ l → drawn_vertex p (state_after x m) k j ≡ drawn_vertex p x l j
  unfolding drawn_vertex
  vertex_shift p k l j e =
      let first = draws k l (p / 15) e in
      let second = draws (k + 1) (l + 1) (p / 2) (omega (arith, e)) in
      λ i. record { name = vertex_name j; wcet = 1 + first i; deadline = p - second i }

-- The edges out of a vertex, by the values of the three draws.
abbrev pub edges_by : ℕ → ℕ → ℕ → ℕ → ℕ → List Edge
edges_by p j a t b =
    let ring : Edge = record { from = j; to = next_on_ring j; sep = p * (1 + a) } in
    let chord : Edge = record { from = j; to = t; sep = p * (1 + b) } in
    cond (eqb t (next_on_ring j)) (ring ∷ []) (ring ∷ chord ∷ [])

pub edges_are : (p x k j : ℕ) → drawn_edges p x k j ≡ edges_by p j (draw x k 2) (draw x (k + 1) 12) (draw x (k + 1 + 1) 2)
unfolding drawn_edges
edges_are p x k j = refl

module _ (x m : ℕ) where
  pub edges_shift : (p k l j : ℕ) → m + k ≡ l → drawn_edges p (state_after x m) k j ≡ drawn_edges p x l j
  edges_shift p k l j e =
      let first = draws x m k l 2 e in
      let second = draws x m (k + 1) (l + 1) 12 (omega (arith, e)) in
      let third = draws x m (k + 1 + 1) (l + 1 + 1) 2 (omega (arith, e)) in
      edges_are p (state_after x m) k j ∙ ((λ i. edges_by p j (first i) (second i) (third i)) ∙ sym (edges_are p x l j))

  pub vertices_shift : (p k l : ℕ) → m + k ≡ l → drawn_vertices p (state_after x m) k ≡ drawn_vertices p x l
  vertices_shift p k l e =
      let each : (j : ℕ) → drawn_vertex p (state_after x m) (k + 2 * j) j ≡ drawn_vertex p x (l + 2 * j) j
      = λ j. vertex_shift x m p (k + 2 * j) (l + 2 * j) j (omega (arith, e)) in
      λ i. map (λ j. each j i) (range_with_len 0 12)

  pub all_edges_shift : (p k l : ℕ) → m + k ≡ l → all_drawn_edges p (state_after x m) k ≡ all_drawn_edges p x l
  all_edges_shift p k l e =
      let each : (j : ℕ) → drawn_edges p (state_after x m) (k + 3 * j) j ≡ drawn_edges p x (l + 3 * j) j
      = λ j. edges_shift p (k + 3 * j) (l + 3 * j) j (omega (arith, e)) in
      λ i. flat_map (λ j. each j i) (range_with_len 0 12)

  pub task_shift : (k l n : ℕ) → m + k ≡ l → drawn_task (state_after x m) k n ≡ drawn_task x l n
  unfolding drawn_task
  task_shift k l n e =
      let s = state_after x m in
      let period = period_shift x m k l e in
      let vertices = ap (λ p. drawn_vertices p s (k + 1)) period ∙ vertices_shift (drawn_period x l) (k + 1) (l + 1) (omega (arith, e)) in
      let edges = ap (λ p. all_drawn_edges p s (k + 25)) period ∙ all_edges_shift (drawn_period x l) (k + 25) (l + 25) (omega (arith, e)) in
      λ i. record { name = task_name n; priority = n + 1; vertices = vertices i; edges = edges i }
