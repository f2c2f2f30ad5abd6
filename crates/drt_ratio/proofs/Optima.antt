-- Ratios that rise, and what the levels say once none does.
use Rattle.std.proofs.Common.{◌≡◌, ℕ, pos, zero, suc, ◌+◌, ◌-◌, ◌*◌, ◌/◌, ◌<◌, ◌≤◌, List, [], ◌∷◌, Some, length, get_or, ◌⊎◌, inl, inr, refl, ap, arith, mul-le-mul_left}
use Rattle.std.proofs.lemmas.Bool.{cases_lt}
use Rattle.std.proofs.lemmas.Nat.{mul-le, le-div}
use Rattle.std.proofs.Math.Nat.{div-mul-le_self, div-le_self, le_trans}
use Rattle.std.proofs.lemmas.Int.{ints}
use Rattle.drt_model.specs.Numbers.{most_time}
use Rattle.drt_model.specs.Digraph.{Digraph, IsSoundGraph, vertex_count}
use Rattle.drt_model.specs.Walk.{sep, gap, wcet, IsEdge, IsPath, last_of, work, span, IsCycle, cycle_span}
use Rattle.drt_graph.proofs.Edges.{target_of, source_of, gap_of}
use Rattle.drt_ratio.specs.declared.levels.Level.{Level}
use Rattle.drt_model.specs.Utilisation.{HasRatio, BoundsCycles}
use Rattle.drt_graph.specs.Potential.{IsPotential}
use Rattle.drt_ratio.specs.Levels.{height, level_of, Comes, IsWholeRound, IsTower, IsSettled}
use Rattle.drt_graph.proofs.Paths.{work_cons, span_cons, work_none, span_none, fits_cycle}
use Rattle.drt_ratio.proofs.Loops.{IsMost, round_edge}

-- The sums of a path are at least its edges, and at most a million each.
pub record AreSums (g : Digraph) (u : ℕ) (vs : List ℕ) : Type 0 where
  pub work_least : length vs ≤ work g vs
  pub work_most : work g vs ≤ length vs * most_time
  pub span_least : length vs ≤ span g u vs
  pub span_most : span g u vs ≤ length vs * most_time

pub path_sums : (g : Digraph) → IsSoundGraph g → (u : ℕ) (vs : List ℕ) → IsPath g u vs → AreSums g u vs
path_sums g sound u [] path = record { work_least = omega arith; work_most = rw work_none (omega arith); span_least = omega arith; span_most = rw span_none (omega arith) }
path_sums g sound u (v ∷ vs) path =
    let t = target_of g sound u v (gap g u v) path.0 in
    let w = sound.wcet v t.0 in
    let r = path_sums g sound v vs path.1 in
    record {
      work_least = rw work_cons (omega (arith, r.work_least, w.0));
      work_most = rw work_cons (omega (arith, r.work_most, w.1));
      span_least = rw span_cons (omega (arith, r.span_least, t.1));
      span_most = rw span_cons (omega (arith, r.span_most, t.2));
    }

pub record AreCycleSums (g : Digraph) (cs : List ℕ) : Type 0 where
  pub work_some : 1 ≤ work g cs
  pub work_most : work g cs ≤ length cs * most_time
  pub span_some : 1 ≤ cycle_span g cs
  pub span_most : cycle_span g cs ≤ length cs * most_time

pub cycle_sums : (g : Digraph) → IsSoundGraph g → (cs : List ℕ) → IsCycle g cs → AreCycleSums g cs
cycle_sums g sound [] is = absurd is
cycle_sums g sound (v ∷ vs) is =
    let r = path_sums g sound (last_of v vs) (v ∷ vs) is in
    record { work_some = omega (arith, r.work_least); work_most = r.work_most; span_some = omega (arith, r.span_least); span_most = r.span_most }

-- Where a / b is below w / s, it is below the same ratio in lowest terms.
pub cross : (a b c d w s : ℕ) → a * s < b * w → c * s ≡ w * d → 1 ≤ d → a * d < b * c
cross a b c d w s less same some = go (cases_lt (a * d) (b * c))
  where
    go : (a * d < b * c) ⊎ (b * c ≤ a * d) → a * d < b * c
    go (inl l) = l
    go (inr m) =
        let x = mul-le-mul_left s m in
        let y : d * suc (a * s) ≤ d * (b * w) = mul-le-mul_left d less in
        let z : b * (c * s) ≡ b * (w * d) = ap (λ n. b * n) same in
        absurd (omega arith)

-- So it is below it by a whole at a scale of at least the product of the denominators.
pub steps_up : (a b c d scale : ℕ) → a * d < b * c → 1 ≤ b → 1 ≤ d → b * d ≤ scale → a * scale / b < c * scale / d
steps_up a b c d scale less some_b some_d fits = le-div (suc (a * scale / b)) (c * scale) d some_d (go (cases_lt (c * scale) (suc (a * scale / b) * d)))
  where
    go : (c * scale < suc (a * scale / b) * d) ⊎ (suc (a * scale / b) * d ≤ c * scale) → suc (a * scale / b) * d ≤ c * scale
    go (inr l) = l
    go (inl m) = absurd (plain (a * scale / b) (div-mul-le_self (a * scale) b) m)
      where
        plain : (x : ℕ) → x * b ≤ a * scale → c * scale < suc x * d → ⊥
        plain x l m =
            let p : b * suc (c * scale) ≤ b * (suc x * d) = mul-le-mul_left b m in
            let q : scale * suc (a * d) ≤ scale * (b * c) = mul-le-mul_left scale less in
            let r : d * (x * b) ≤ d * (a * scale) = mul-le-mul_left d l in
            omega arith

pub measure_falls : (a b c d : ℕ) → a * d < b * c → 1 ≤ b → 1 ≤ d → b ≤ 100000000 → d ≤ 100000000 → c ≤ 100000000
    → 1000000000000000000000000 - c * 10000000000000000 / d < 1000000000000000000000000 - a * 10000000000000000 / b
measure_falls a b c d less some_b some_d bs ds cs =
    let up = steps_up a b c d 10000000000000000 less some_b some_d (mul-le b d 100000000 100000000 bs ds) in
    let most : c * 10000000000000000 / d ≤ 1000000000000000000000000 = quotient (c * 10000000000000000) d (omega arith) in
    omega arith
  where
    quotient : (n d : ℕ) → n ≤ 1000000000000000000000000 → n / d ≤ 1000000000000000000000000
    quotient n d l = le_trans (div-le_self n d) l

pub has_ratio : (g : Digraph) (c d : ℕ) (cs : List ℕ) → IsCycle g cs → c * cycle_span g cs ≡ work g cs * d → 1 ≤ d → 1 ≤ work g cs → HasRatio g c d cs
has_ratio g c d [] is same some more = absurd is
has_ratio g c d (v ∷ vs) is same some more = (is, omega arith, positive c (span g (last_of v vs) (v ∷ vs)) (work g (v ∷ vs)) d same some more)
  where
    positive : (c s w d : ℕ) → c * s ≡ w * d → 1 ≤ d → 1 ≤ w → 1 ≤ c
    positive zero s w d e x y = let p : 1 * 1 ≤ w * d = mul-le 1 1 w d y x in absurd (omega arith)
    positive (suc c) s w d e x y = omega arith

-- A walk that ends at v and gains h.
pub IsReached : Digraph → ℕ → ℕ → ℕ → ℕ → ℕ → Type 0
IsReached g a b n v h = (u : ℕ) × ((vs : List ℕ) × IsPath g u vs × (last_of u vs ≡ v) × (length vs ≤ n) × (b * work g vs ≡ h + a * span g u vs))

-- From the height at a level down along the walk that it belongs to.
reaches : (g : Digraph) (a b : ℕ) (levels : List Level) (n v h : ℕ) → IsSoundGraph g → IsTower g a b levels → (k at : ℕ) (vs : List ℕ) → k < length levels
    → at < vertex_count g → IsPath g at vs → last_of at vs ≡ v → length vs + k ≤ n → b * work g vs + height (level_of levels k) at ≡ h + a * span g at vs → IsReached g a b n v h
unfolding IsReached
reaches g a b levels n v h sound tower zero at vs m l path end short sum = let z = tower.opens at in (at, (vs, path, end, omega arith, omega arith))
reaches g a b levels n v h sound tower (suc k) at vs m l path end short sum =
    let round : IsWholeRound g a b (level_of levels k) (level_of levels (suc k)) = let e : k + 1 ≡ suc k = omega arith in rw e at (tower.rounds k (omega arith)) in
    go (round.raised.comes at l) (λ w ws x p q r s. reaches g a b levels n v h sound tower k w ws (omega arith) x p q r s)
  where
    go : (height (level_of levels (suc k)) at ≡ height (level_of levels k) at) ⊎ Comes g a b (level_of levels k) (get_or (level_of levels (suc k)).from at 0) at (height (level_of levels (suc k)) at) →
        ((w : ℕ) (ws : List ℕ) → w < vertex_count g → IsPath g w ws → last_of w ws ≡ v → length ws + k ≤ n
        → b * work g ws + height (level_of levels k) w ≡ h + a * span g w ws → IsReached g a b n v h) → IsReached g a b n v h
    go (inl e) ih = ih at vs l path end (omega arith) (omega arith)
    go (inr comes) ih =
        let u = get_or (level_of levels (suc k)).from at 0 in
        let s = comes.sum in
        ih u (at ∷ vs) (source_of g sound u at (gap g u at) comes.edge) (comes.edge, path) end (omega arith) (rw (work_cons, span_cons) (omega arith))

pub tower_reaches : (g : Digraph) (a b : ℕ) (levels : List Level) (n v : ℕ) → IsSoundGraph g → IsTower g a b levels → n < length levels → v < vertex_count g
    → IsReached g a b n v (height (level_of levels n) v)
tower_reaches g a b levels n v sound tower m l = reaches g a b levels n v (height (level_of levels n) v) sound tower n v [] m l tt refl (omega arith) (rw (work_none, span_none) (omega arith))

pub is_potential : (g : Digraph) (a b n v h : ℕ) → n ≡ vertex_count g → 0 < n → IsMost g a b n v h → IsReached g a b (n - 1) v h → IsPotential g a b v (pos h)
unfolding IsReached
is_potential g a b n v h size some most (u, (vs, path, end, short, sum)) = record {
  most = λ w ws p q m. (let e = most.each w ws p q (omega arith) in omega (arith, ints));
  reached = (u, (vs, path, end, omega arith, omega (arith, ints)));
}

-- Once the last round raises nothing no cycle gains.
pub settled_least : (g : Digraph) (a b : ℕ) (levels : List Level) (n : ℕ) → IsSoundGraph g → IsTower g a b levels → length levels ≡ n + 1 → n ≡ vertex_count g → 0 < n
    → IsSettled levels n → BoundsCycles g a b
settled_least g a b levels n sound tower count size some settled cycle is = fits_cycle g a b (λ v. height (level_of levels (n - 1)) v) fits cycle is
  where
    fits : (u v : ℕ) → IsEdge g u v → height (level_of levels (n - 1)) u + b * wcet g v ≤ height (level_of levels (n - 1)) v + a * gap g u v
    fits u v edge =
        let last : n - 1 + 1 ≡ n = omega arith in
        let round : IsWholeRound g a b (level_of levels (n - 1)) (level_of levels n) = rw last at (tower.rounds (n - 1) (omega arith)) in
        let l = (target_of g sound u v (gap g u v) edge).0 in
        omega (arith, round_edge g a b (level_of levels (n - 1)) (level_of levels n) sound round u v edge, settled v (omega arith))

pub settled_fits : (g : Digraph) (a b : ℕ) (levels : List Level) (n : ℕ) → IsSoundGraph g → IsTower g a b levels → length levels ≡ n + 1 → n ≡ vertex_count g → 0 < n
    → IsSettled levels n → (u v p : ℕ) → sep g u v ≡ Some p → height (level_of levels (n - 1)) u + b * wcet g v ≤ height (level_of levels (n - 1)) v + a * p
settled_fits g a b levels n sound tower count size some settled u v p edge =
    let last : n - 1 + 1 ≡ n = omega arith in
    let round : IsWholeRound g a b (level_of levels (n - 1)) (level_of levels n) = rw last at (tower.rounds (n - 1) (omega arith)) in
    let l = (target_of g sound u v p edge).0 in
    let q = gap_of g u v p edge in
    let e = rw (q.0) at (round_edge g a b (level_of levels (n - 1)) (level_of levels n) sound round u v q.1) in
    omega (arith, e, settled v (omega arith))
