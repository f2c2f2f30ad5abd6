-- The cells of a graph make a net, and the works that reach a cell are those of walks.
use Rattle.std.proofs.Common.{◌≡◌, ℕ, zero, suc, ◌+◌, ◌*◌, ◌/◌, ◌%◌, ◌<◌, ◌≤◌, true, false, nat_le, ◌==◌, ◌&&◌}
use Rattle.std.proofs.Common.{if◌then◌else◌, List, [], ◌∷◌, length, get_or, sym, refl, ap, ◌∙◌, subst, inl, inr, ⊎_elim, arith}
use Rattle.std.proofs.Math.Nat.{mul_comm, mod-lt}
use Rattle.std.proofs.lemmas.Nat.{div-add-mod', div-mul-add, mod-mul-add, mul-add-lt, div_below, le-div}
use Rattle.std.proofs.lemmas.Bool.Decides.{nat_tests}
use mathlib.Core.Logic.{dite}
use native.Mathlib.Decide.{ℕ_discrete, dec_le}
use Rattle.drt_model.specs.declared.tasks.Edge.{Edge}
use Rattle.drt_model.specs.Digraph.{vertex_count, out_edges, out_degree, edge_of, no_edge}
use Rattle.drt_model.specs.Walk.{wcet, deadline}
use Rattle.drt_wave.specs.declared.plan.Plan.{Plan}
use Rattle.drt_wave.specs.Net.{IsNet, Among, Reaches, Reached}
use Rattle.drt_wave.specs.Cells.{width, offsets, cell_at, arcs_from, net_of, IsWavePlan, WalkTo}

nat_le-yes : (a b : ℕ) → a ≤ b → nat_le a b ≡ true
nat_le-yes a b h = grind (arith, nat_tests)

nat_le-no : (a b : ℕ) → (a ≤ b → ⊥) → nat_le a b ≡ false
nat_le-no a b h = grind (arith, nat_tests)

-- the wave of a later offset
later_wave : (s r n : ℕ) → 0 < n → s + n ≤ r → s / n < r / n
later_wave s r n some h =
    let q : ℕ = s / n in let m : ℕ = q * n in let split : m + s % n ≡ s = div-add-mod' s n in
    let next : (q + 1) * n ≡ m + n = mul-one-more q n in
    let le : q + 1 ≤ r / n = le-div (q + 1) r n some (subst (λ x. x ≤ r) (sym next) (omega arith)) in
    omega arith
  where
    mul-one-more : (q n : ℕ) → (q + 1) * n ≡ q * n + n
    mul-one-more q n = grind arith

div-le : (a b n : ℕ) → 0 < n → a ≤ b → a / n ≤ b / n
div-le a b n some h = let m : ℕ = a / n * n in let split : m + a % n ≡ a = div-add-mod' a n in le-div (a / n) b n some (omega arith)

module _ (p : Plan) where
  -- the edge fits
  arcs_yes : (s : ℕ) (e : Edge) (es : List Edge) → s + e.sep + deadline p.graph e.to ≤ p.bound → arcs_from p s (e ∷ es) ≡ (cell_at p e.to (s + e.sep), wcet p.graph e.to) ∷ arcs_from p s es
  arcs_yes s e es h = ap (λ b. if b then (cell_at p e.to (s + e.sep), wcet p.graph e.to) ∷ arcs_from p s es else arcs_from p s es) (nat_le-yes _ _ h)

  arcs_no : (s : ℕ) (e : Edge) (es : List Edge) → (s + e.sep + deadline p.graph e.to ≤ p.bound → ⊥) → arcs_from p s (e ∷ es) ≡ arcs_from p s es
  arcs_no s e es h = ap (λ b. if b then (cell_at p e.to (s + e.sep), wcet p.graph e.to) ∷ arcs_from p s es else arcs_from p s es) (nat_le-no _ _ h)

  -- the arc is that of edge number k
  abbrev pub IsArc : ℕ → List Edge → ℕ → ℕ → ℕ → Type 0
  IsArc s es k t w = (k < length es) × (s + (get_or es k no_edge).sep + deadline p.graph (get_or es k no_edge).to ≤ p.bound)
      × (t ≡ cell_at p (get_or es k no_edge).to (s + (get_or es k no_edge).sep)) × (w ≡ wcet p.graph (get_or es k no_edge).to)

  pub arc_is : (s t w : ℕ) (es : List Edge) → Among (t, w) (arcs_from p s es) → (k : ℕ) × IsArc s es k t w
  arc_is s t w [] a = absurd a
  arc_is s t w (e ∷ es) a =
      let later : Among (t, w) (arcs_from p s es) → (k : ℕ) × IsArc s (e ∷ es) k t w = λ b. let r = arc_is s t w es b in (suc r.0, (omega (arith, r.1.0), r.1.1, r.1.2, r.1.3)) in
      dite (dec_le (s + e.sep + deadline p.graph e.to) p.bound)
      (λ h. let a' : Among (t, w) ((cell_at p e.to (s + e.sep), wcet p.graph e.to) ∷ arcs_from p s es) = subst (Among (t, w)) (arcs_yes s e es h) a in
      ⊎_elim (λ (is : (cell_at p e.to (s + e.sep), wcet p.graph e.to) ≡ (t, w)). (zero, (omega arith, h, sym (ap (λ (x : ℕ × ℕ). x.0) is), sym (ap (λ (x : ℕ × ℕ). x.1) is)))) later a')
      (λ nh. later (subst (Among (t, w)) (arcs_no s e es nh) a))

  pub arc_among : (s k : ℕ) (es : List Edge) → k < length es → s + (get_or es k no_edge).sep + deadline p.graph (get_or es k no_edge).to ≤ p.bound
      → Among (cell_at p (get_or es k no_edge).to (s + (get_or es k no_edge).sep), wcet p.graph (get_or es k no_edge).to) (arcs_from p s es)
  arc_among s k [] lt h = absurd (omega arith)
  arc_among s zero (e ∷ es) lt h = subst (Among _) (sym (arcs_yes s e es h)) (inl refl)
  arc_among s (suc k) (e ∷ es) lt h =
      let rest = arc_among s k es (omega arith) h in
      dite (dec_le (s + e.sep + deadline p.graph e.to) p.bound)
      (λ fits. subst (Among _) (sym (arcs_yes s e es fits)) (inr rest))
      (λ not_fits. subst (Among _) (sym (arcs_no s e es not_fits)) rest)

  pub vertex_lt : (c : ℕ) → c < vertex_count p.graph * width p → c / width p < vertex_count p.graph
  vertex_lt c lt = div_below c (width p) (vertex_count p.graph) (omega arith) lt

  pub cell_lt : (v s : ℕ) → v < vertex_count p.graph → s ≤ p.bound → cell_at p v s < vertex_count p.graph * width p
  cell_lt v s lt le = subst (λ n. cell_at p v s < n) (mul_comm (width p) (vertex_count p.graph)) (mul-add-lt v (width p) s (vertex_count p.graph) lt (omega arith))

  pub cell_vertex : (v s : ℕ) → s ≤ p.bound → cell_at p v s / width p ≡ v
  cell_vertex v s le = div-mul-add v (width p) s (omega arith)

  pub cell_offset : (v s : ℕ) → s ≤ p.bound → cell_at p v s % width p ≡ s
  cell_offset v s le = mod-mul-add v (width p) s (omega arith)

  -- the number of a cell in its wave
  number_of : (c : ℕ) → 0 < p.span → c < vertex_count p.graph * width p
      → (k : ℕ) × (k < vertex_count p.graph * offsets p (c % width p / p.span)) × (cell_at p (k / offsets p (c % width p / p.span))
      (c % width p / p.span * p.span + k % offsets p (c % width p / p.span)) ≡ c)
  number_of c some lt =
      let w : ℕ = width p in let v : ℕ = c / w in let s : ℕ = c % w in let j : ℕ = s / p.span in let first : ℕ = j * p.span in let i : ℕ = s % p.span in let n : ℕ = offsets p j in
      let split : first + i ≡ s = div-add-mod' s p.span in
      let small : s < w = mod-lt c (omega arith) in
      let low : i < p.span = mod-lt s some in
      let within : i < n = omega arith in
      let k : ℕ = v * n + i in (
        k,
        subst (λ m. k < m) (mul_comm n (vertex_count p.graph)) (mul-add-lt v n i (vertex_count p.graph) (vertex_lt c lt) within),
        ap (λ x. cell_at p x (first + k % n)) (div-mul-add v n i within) ∙ ap (λ x. cell_at p v (first + x)) (mod-mul-add v n i within) ∙ ap (λ x. cell_at p v x) split ∙ div-add-mod' c w,
      )

  pub is_net : IsWavePlan p → IsNet (net_of p)
  is_net plan = record {
    onward = λ b t w lt a.
        let v : ℕ = b / width p in let s : ℕ = b % width p in
        let r = arc_is s t w (out_edges p.graph v) a in let k : ℕ = r.0 in
        let ltv : v < vertex_count p.graph = vertex_lt b lt in
        let e : Edge = edge_of p.graph v k in
        let ltk : k < out_degree p.graph v = r.1.0 in
        let sep_le : p.span ≤ e.sep = plan.apart v k ltv ltk in
        let to_lt : e.to < vertex_count p.graph = plan.sound.to v k ltv ltk in
        let fits : s + e.sep + deadline p.graph e.to ≤ p.bound = r.1.1 in
        let in_bound : s + e.sep ≤ p.bound = omega arith in
        let offset : t % width p ≡ s + e.sep = ap (λ x. x % width p) r.1.2 ∙ cell_offset e.to (s + e.sep) in_bound in (
          subst (λ x. x < vertex_count p.graph * width p) (sym r.1.2) (cell_lt e.to (s + e.sep) to_lt in_bound),
          subst (λ x. 0 < x) (sym r.1.3) (omega (arith, (plan.sound.wcet e.to to_lt).0)),
          subst (λ x. s / p.span < x / p.span) (sym offset) (later_wave s (s + e.sep) p.span plan.some (omega arith)),
        );
    waved = λ c lt. let s : ℕ = c % width p in let small : s < width p = mod-lt c (omega arith) in let le = div-le s p.bound p.span plan.some (omega arith) in omega arith;
    place = λ c lt. number_of c plan.some lt;
  }

  -- what a cell opens with
  opening_is : (c : ℕ) → 0 < (net_of p).opens c → (c % width p ≡ 0) × (deadline p.graph (c / width p) ≤ p.bound) × ((net_of p).opens c ≡ wcet p.graph (c / width p))
  opening_is c h = dite (ℕ_discrete (c % width p) 0)
      (λ e. dite (dec_le (deadline p.graph (c / width p)) p.bound)
      (λ le. (
        e,
        le,
        ap (λ b. if b then wcet p.graph (c / width p) else 0) (let test : ((c % width p == 0) && nat_le (deadline p.graph
            (c / width p)) p.bound) ≡ true = grind (arith, nat_tests) in test),
      ))
      (λ nle. let test : ((c % width p == 0) && nat_le (deadline p.graph (c / width p)) p.bound) ≡ false = grind (arith, nat_tests) in
      let none : (net_of p).opens c ≡ 0 = ap (λ b. if b then wcet p.graph (c / width p) else 0) test in absurd (omega arith)))
      (λ ne. let test : ((c % width p == 0) && nat_le (deadline p.graph (c / width p)) p.bound) ≡ false = grind (arith, nat_tests) in
      let none : (net_of p).opens c ≡ 0 = ap (λ b. if b then wcet p.graph (c / width p) else 0) test in absurd (omega arith))

  pub opening_of : (v : ℕ) → deadline p.graph v ≤ p.bound → (net_of p).opens (cell_at p v 0) ≡ wcet p.graph v
  opening_of v le =
      let c : ℕ = cell_at p v 0 in
      let at : c / width p ≡ v = cell_vertex v 0 (omega arith) in let off : c % width p ≡ 0 = cell_offset v 0 (omega arith) in
      let due : deadline p.graph (c / width p) ≤ p.bound = subst (λ x. deadline p.graph x ≤ p.bound) (sym at) le in
      let test : ((c % width p == 0) && nat_le (deadline p.graph (c / width p)) p.bound) ≡ true = grind (arith, nat_tests) in
      ap (λ b. if b then wcet p.graph (c / width p) else 0) test ∙ ap (wcet p.graph) at

  -- each work that reaches a cell is that of a walk
  pub to_walk : (n c x : ℕ) → Reaches (net_of p) n c x → (before : List ℕ) × WalkTo p (c / width p) before (c % width p) x
  to_walk zero c x r = let o = opening_is c (omega (arith, r.1, r.2)) in ([], (vertex_lt c r.0, o.0, r.2 ∙ o.2, o.1))
  to_walk (suc n) c x r =
      let b : ℕ = r.0 in let y : ℕ = r.1 in let w : ℕ = r.2 in let v : ℕ = b / width p in let s : ℕ = b % width p in
      let walk = to_walk n b y r.4 in
      let a = arc_is s c w (out_edges p.graph v) r.5 in let k : ℕ = a.0 in
      let e : Edge = edge_of p.graph v k in
      let fits : s + e.sep + deadline p.graph e.to ≤ p.bound = a.1.1 in
      let at : c / width p ≡ e.to = ap (λ x. x / width p) a.1.2 ∙ cell_vertex e.to (s + e.sep) (omega arith) in
      let offset : c % width p ≡ s + e.sep = ap (λ x. x % width p) a.1.2 ∙ cell_offset e.to (s + e.sep) (omega arith) in (
        v ∷ walk.0,
        (
          k,
          s,
          y,
          walk.1,
          a.1.0,
          sym at,
          offset,
          r.6 ∙ ap (λ z. y + z) (a.1.3 ∙ ap (wcet p.graph) (sym at)),
          subst (λ z. z + deadline p.graph (c / width p) ≤ p.bound) (sym offset) (subst (λ z. s + e.sep + deadline p.graph z ≤ p.bound) (sym at) fits),
        ),
      )

  -- each in-range walk ends at a cell
  pub of_walk : IsWavePlan p → (v : ℕ) (before : List ℕ) (s x : ℕ) → WalkTo p v before s x → (s ≤ p.bound) × (v < vertex_count p.graph) × Reached (net_of p) (cell_at p v s) x
  of_walk plan v [] s x walk =
      let at_zero : s ≡ 0 = walk.1 in
      let some_work = plan.sound.wcet v walk.0 in (
        omega arith,
        walk.0,
        (
          zero,
          (
            cell_lt v s walk.0 (omega arith),
            omega (arith, some_work.0, walk.2),
            walk.2 ∙ sym (opening_of v walk.3) ∙ ap (λ z. (net_of p).opens (cell_at p v z)) (sym at_zero),
          ),
        ),
      )
  of_walk plan v (u ∷ before) s x walk =
      let k : ℕ = walk.0 in let r : ℕ = walk.1 in let y : ℕ = walk.2 in
      let e : Edge = edge_of p.graph u k in
      let was = of_walk plan u before r y walk.3 in
      let to : e.to ≡ v = walk.5 in let offset : s ≡ r + e.sep = walk.6 in
      let b : ℕ = cell_at p u r in
      let bu : b / width p ≡ u = cell_vertex u r was.0 in let br : b % width p ≡ r = cell_offset u r was.0 in
      let fits : r + e.sep + deadline p.graph e.to ≤ p.bound = subst (λ z. z + deadline p.graph e.to ≤ p.bound) offset (subst (λ z. s + deadline p.graph z ≤ p.bound) (sym to) walk.8) in
      let arc : Among (cell_at p e.to (r + e.sep), wcet p.graph e.to) (arcs_from p r (out_edges p.graph u)) = arc_among r k (out_edges p.graph u) walk.4 fits in
      let arc' : Among (cell_at p v s, wcet p.graph v) ((net_of p).arcs b) =
      subst (λ (q : ℕ × ℕ). Among q (arcs_from p (b % width p) (out_edges p.graph (b / width p)))) (λ i. (cell_at p (to i) (sym offset i), wcet p.graph (to i)))
      (subst (λ (q : ℕ × ℕ). Among (cell_at p e.to (r + e.sep), wcet p.graph e.to) (arcs_from p q.0 (out_edges p.graph q.1))) (λ i. (sym br i, sym bu i)) arc) in (
        omega (arith, walk.8),
        subst (λ z. z < vertex_count p.graph) to (plan.sound.to u k was.1 walk.4),
        (suc was.2.0, (b, y, wcet p.graph v, cell_lt u r was.1 was.0, was.2.1, arc', walk.7)),
      )
