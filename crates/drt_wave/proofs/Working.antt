-- What holds of the cells, waves and works of a plan.
use Rattle.std.proofs.Common.{◌≡◌, ℕ, suc, ◌+◌, ◌*◌, ◌/◌, ◌%◌, ◌^◌, ◌<◌, ◌≤◌, List, [], ◌∷◌, sym, refl, ap, ◌∙◌, subst, arith}
use Rattle.std.proofs.Math.Nat.{mod-lt}
use Rattle.std.proofs.lemmas.Nat.{mul-le, div-mul-add, mod-mul-add, div-add-mod', div_below}
use Rattle.drt_model.specs.Numbers.{most_time}
use Rattle.drt_model.specs.declared.tasks.Edge.{Edge}
use Rattle.drt_model.specs.Digraph.{vertex_count, out_edges, out_degree, edge_of}
use Rattle.drt_model.specs.Walk.{wcet, deadline}
use Rattle.drt_wave.specs.declared.plan.Plan.{Plan}
use Rattle.drt_wave.specs.Net.{Among, Reached}
use Rattle.drt_wave.specs.Cells.{width, offsets, cell_at, arcs_from, net_of, IsWavePlan, WalkTo, most_cells}
use Rattle.drt_wave.proofs.Cells.{arc_among, of_walk, to_walk, cell_lt, cell_vertex, cell_offset}

module _ (p : Plan) where
  -- the work of a walk is at most a million times its offset and one
  walk_small : IsWavePlan p → (v : ℕ) (before : List ℕ) (s x : ℕ) → WalkTo p v before s x → x ≤ most_time * (s + 1)
  walk_small plan v [] s x walk = let w = plan.sound.wcet v walk.0 in omega (arith, w.1, walk.2)
  walk_small plan v (u ∷ before) s x walk =
      let was = walk_small plan u before walk.1 walk.2 walk.3 in
      let in_net = of_walk p plan u before walk.1 walk.2 walk.3 in
      let sep = plan.sound.sep u walk.0 in_net.1 walk.4 in
      let to : v < vertex_count p.graph = subst (λ z. z < vertex_count p.graph) walk.5 (plan.sound.to u walk.0 in_net.1 walk.4) in
      let w = plan.sound.wcet v to in
      omega (arith, w.1, walk.7, walk.6, sep.0)

  pub reached_small : IsWavePlan p → (v s x : ℕ) → s ≤ p.bound → Reached (net_of p) (cell_at p v s) x → x ≤ most_time * (s + 1)
  reached_small plan v s x le r =
      let walk = to_walk p r.0 (cell_at p v s) x r.1 in
      let small = walk_small plan (cell_at p v s / width p) walk.0 (cell_at p v s % width p) x walk.1 in
      subst (λ z. x ≤ most_time * (z + 1)) (cell_offset p v s le) small

  pub bound_small : IsWavePlan p → (n : ℕ) → n ≤ most_cells → n ≡ vertex_count p.graph * width p → p.bound < most_cells
  bound_small plan n small is =
      let one : 1 * width p ≤ vertex_count p.graph * width p = mul-le 1 (width p) (vertex_count p.graph) (width p) plan.sound.some (omega arith) in omega (arith, one, is)

  pub sum_fits : IsWavePlan p → (n v s x w : ℕ) → n ≤ most_cells → n ≡ vertex_count p.graph * width p → s ≤ p.bound → Reached (net_of p) (cell_at p v s) x → w ≤ most_time → x + w < 2 ^ 64
  sum_fits plan n v s x w small is le r some = omega (arith, reached_small plan v s x le r, bound_small plan n small is)

  -- a walk that goes on by an edge
  pub reach_more : (u s k x : ℕ) → u < vertex_count p.graph → s ≤ p.bound → k < out_degree p.graph u → s + (edge_of p.graph u k).sep + deadline p.graph (edge_of p.graph u k).to ≤ p.bound
      → Reached (net_of p) (cell_at p u s) x → Reached (net_of p) (cell_at p (edge_of p.graph u k).to (s + (edge_of p.graph u k).sep)) (x + wcet p.graph (edge_of p.graph u k).to)
  reach_more u s k x ltu le ltk fits r =
      let e : Edge = edge_of p.graph u k in let b : ℕ = cell_at p u s in
      let bu : b / width p ≡ u = cell_vertex p u s le in let bs : b % width p ≡ s = cell_offset p u s le in
      let arc : Among (cell_at p e.to (s + e.sep), wcet p.graph e.to) (arcs_from p s (out_edges p.graph u)) = arc_among p s k (out_edges p.graph u) ltk fits in
      let arc' : Among (cell_at p e.to (s + e.sep), wcet p.graph e.to) ((net_of p).arcs b) =
      subst (λ (q : ℕ × List Edge). Among (cell_at p e.to (s + e.sep), wcet p.graph e.to) (arcs_from p q.0 q.1)) (λ i. (sym bs i, out_edges p.graph (sym bu i))) arc in
      (suc r.0, (b, x, wcet p.graph e.to, cell_lt p u s ltu le, r.1, arc', refl))

module _ (p : Plan) where
  wave_first : IsWavePlan p → (j : ℕ) → j < p.bound / p.span + 1 → j * p.span ≤ p.bound
  wave_first plan j lt =
      let q : ℕ = p.bound / p.span in let m : ℕ = q * p.span in let split : m + p.bound % p.span ≡ p.bound = div-add-mod' p.bound p.span in
      let le : j * p.span ≤ m = mul-le j p.span q p.span (omega arith) (omega arith) in omega arith

  pub size_small : IsWavePlan p → (n j : ℕ) → n ≤ most_cells → n ≡ vertex_count p.graph * width p → (net_of p).size j < 2 ^ 64
  size_small plan n j small is =
      let le : vertex_count p.graph * offsets p j ≤ vertex_count p.graph * width p = mul-le (vertex_count p.graph) (offsets p j) (vertex_count p.graph)
      (width p) (omega arith) (omega arith) in omega (arith, le, is)

  -- where number k of wave j stands
  pub placed : IsWavePlan p → (j k : ℕ) → j < p.bound / p.span + 1 → k < vertex_count p.graph * offsets p j
      → (0 < offsets p j) × (k / offsets p j < vertex_count p.graph) × (j * p.span + k % offsets p j ≤ p.bound) × ((j * p.span + k % offsets p j) / p.span ≡ j)
  placed plan j k ltj ltk =
      let some = plan.some in
      let first : ℕ = j * p.span in let low : first ≤ p.bound = wave_first plan j ltj in let n : ℕ = offsets p j in
      let positive : 0 < n = omega arith in
      let small : k % n < n = mod-lt k positive in
      (positive, div_below k n (vertex_count p.graph) positive ltk, omega arith, div-mul-add j p.span (k % n) (omega arith))

module _ (p : Plan) where
  -- the number after this one stands one place on
  pub next_on : (n width : ℕ) → n % width + 1 < width → ((n + 1) / width ≡ n / width) × ((n + 1) % width ≡ n % width + 1)
  next_on n width lt =
      let q : ℕ = n / width in let m : ℕ = q * width in let split : m + n % width ≡ n = div-add-mod' n width in
      let is : n + 1 ≡ q * width + (n % width + 1) = omega arith in
      (ap (λ z. z / width) is ∙ div-mul-add q width (n % width + 1) lt, ap (λ z. z % width) is ∙ mod-mul-add q width (n % width + 1) lt)

  -- or at the start of the next row
  pub next_row : (n width : ℕ) → 0 < width → n % width + 1 ≡ width → ((n + 1) / width ≡ n / width + 1) × ((n + 1) % width ≡ 0)
  next_row n width some end =
      let q : ℕ = n / width in let m : ℕ = q * width in let split : m + n % width ≡ n = div-add-mod' n width in
      let more : (q + 1) * width ≡ m + width = grind arith in
      let is : n + 1 ≡ (q + 1) * width + 0 = omega arith in
      (ap (λ z. z / width) is ∙ div-mul-add (q + 1) width 0 some, ap (λ z. z % width) is ∙ mod-mul-add (q + 1) width 0 some)

-- blocks of 64
pub blocks_cover : (n : ℕ) → n ≤ (n + 63) / 64 * 64
blocks_cover n = let q : ℕ = (n + 63) / 64 in let split : q * 64 + (n + 63) % 64 ≡ n + 63 = div-add-mod' (n + 63) 64 in let low : (n + 63) % 64 < 64 = mod-lt (n + 63) (omega arith) in omega arith

pub block_begins : (n b : ℕ) → b < (n + 63) / 64 → b * 64 < n
block_begins n b lt = let q : ℕ = (n + 63) / 64 in let split : q * 64 + (n + 63) % 64 ≡ n + 63 = div-add-mod' (n + 63) 64 in omega arith
