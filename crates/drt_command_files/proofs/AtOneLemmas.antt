-- The utilisation by cycles of edges is that of the ratios: what is known of one is known of the other.
use Rattle.std.proofs.Common.{◌≡◌, ℕ, zero, suc, ◌+◌, ◌*◌, ◌/◌, ◌<◌, ◌≤◌, ◌⊎◌, inl, inr, List, [], ◌∷◌, length, All, map}
use Rattle.std.proofs.Common.{refl, sym, subst, ap, arith, mul-le-mul_left}
use Rattle.std.specs.Int.{IsGcd}
use Rattle.std.specs.List.{AllZip, Contains, sum}
use Rattle.std.proofs.Math.Nat.{le_of_mul-le-mul_left, mul-div_cancel'}
use Rattle.std.proofs.lemmas.Bool.{cases_lt}
use Rattle.std.proofs.lemmas.List.Elements.{All-head, All-tail}
use Rattle.std.proofs.lemmas.List.Sums.{sum_by-cons}
use Rattle.std.proofs.lemmas.Nat.Gcd.{IsGcd-from_zero, IsGcd-swap}
use Rattle.drt_model.specs.Digraph.{digraph_of}
use Rattle.drt_model.specs.Limits.{IsTask, IsEdgeAmong}
use Rattle.drt_model.specs.Numbers.{most_scale}
use Rattle.drt_model.specs.Utilisation.{AreRatios, EachDivides, Fraction, HasRatio, IsRatio, IsScale, rate}
use Rattle.drt_model.specs.Walk.{cycle_span, work, IsCycle}
use Rattle.drt_model.specs.declared.tasks.Edge.{Edge}
use Rattle.drt_model.specs.declared.tasks.Task.{Task}
use Rattle.drt_claims.specs.Rates.{IsAtOne, Rates}
use Rattle.drt_graph.proofs.Scales.{rate_cons, rate_none, scale_cons, scale_none}
use Rattle.drt_num.proofs.CommonMultiples.{lcm_exists}
use Rattle.drt_num.proofs.Divisors.{gcd_exists, gcd_positive}
use Rattle.drt_num.proofs.Fractions.{lowest_terms}
use Rattle.drt_command_files.specs.AtOne.{IsCycleOf, IsRateOver, IsUtilisation, IsUtilisationBelowOne, IsUtilisationOne, need_of, time_of}
use Rattle.drt_command_files.proofs.EdgeCycles.{edges_of, ends_of, vertices_of}

-- A factor that isn't 0 falls away.
cancelled : (k m n : ℕ) → 1 ≤ k → k * m ≡ k * n → m ≡ n
cancelled k m n some same =
    let below : k * m ≤ k * n = omega (arith, same) in
    let above : k * n ≤ k * m = omega (arith, same) in
    let less : m ≤ n = le_of_mul-le-mul_left below some in
    let more : n ≤ m = le_of_mul-le-mul_left above some in
    omega (arith, less, more)

module _ (version : ℕ) (t : Task) (ok : IsTask version t) where
  -- Each edge of a task takes time, and so does a cycle.
  span_some : (e : Edge) (es : List Edge) → IsCycleOf t (e ∷ es) → 1 ≤ time_of (e ∷ es)
  span_some e es is =
      let here : Contains t.edges e = All-head (Contains t.edges) e es is.0 in
      let among : IsEdgeAmong (length t.vertices) e = subst (IsEdgeAmong (length t.vertices)) here.2 (ok.edges here.0 e here.1) in
      omega (arith, among.sep.0, sum_by-cons (λ (x : Edge). x.sep) e es)

  -- The ratio of the graph, over a multiple of its denominator.
  module _ (a b q over : ℕ) (multiple : b * q ≡ over) where
    most_over : (w s : ℕ) → b * w ≤ a * s → over * w ≤ a * q * s
    most_over w s l =
        let more : q * (b * w) ≤ q * (a * s) = mul-le-mul_left q l in
        let same : b * q * w ≡ over * w = ap (λ x. x * w) multiple in
        omega (arith, more, same)

    same_over : (w s : ℕ) → b * w ≡ a * s → over * w ≡ a * q * s
    same_over w s e =
        let more : q * (b * w) ≡ q * (a * s) = ap (λ x. q * x) e in
        let same : b * q * w ≡ over * w = ap (λ x. x * w) multiple in
        omega (arith, more, same)

    rate_most : ((cycle : List ℕ) → IsCycle (digraph_of t) cycle → b * work (digraph_of t) cycle ≤ a * cycle_span (digraph_of t) cycle)
        → (cycle : List Edge) → IsCycleOf t cycle → over * need_of t cycle ≤ a * q * time_of cycle
    rate_most least [] is = omega arith
    rate_most least (e ∷ es) is =
        let s = vertices_of version t ok e es is in
        most_over (need_of t (e ∷ es)) (time_of (e ∷ es)) (rw (← s.work, ← s.span) (least (e.to ∷ ends_of es) s.is))

    rate_reached : (cycle : List ℕ) → HasRatio (digraph_of t) a b cycle
        → (a * q ≡ 0) ⊎ ((c : List Edge) × (1 ≤ length c) × IsCycleOf t c × (over * need_of t c ≡ a * q * time_of c))
    rate_reached [] has = let z : a * q ≡ 0 * q = ap (λ x. x * q) has.0 in inl (omega (arith, z))
    rate_reached (v ∷ vs) has =
        let c = edges_of version t ok v vs has.0 in
        let s = c.3 in
        inr (c.0 ∷ c.1, omega arith, c.2, same_over (need_of t (c.0 ∷ c.1)) (time_of (c.0 ∷ c.1)) (rw (← s.work, ← s.span) has.1))

  rate_of : (r : Fraction) (q over : ℕ) → r.den * q ≡ over → IsRatio (digraph_of t) r → IsRateOver over t (r.num * q)
  rate_of r q over multiple is =
      record { most = rate_most r.num r.den q over multiple is.least; reached = rate_reached r.num r.den q over multiple is.cycle is.has }

  -- Two rates of one task are one fraction.
  rate_below : (m n a b : ℕ) → IsRateOver m t a → IsRateOver n t b → a * n ≤ b * m
  rate_below m n a b p q = go p.reached
    where
      plain : (w s : ℕ) → 1 ≤ s → m * w ≡ a * s → n * w ≤ b * s → a * n ≤ b * m
      plain w s some e l =
          let x : m * (n * w) ≤ m * (b * s) = mul-le-mul_left m l in
          let y : n * (m * w) ≡ n * (a * s) = ap (λ x. n * x) e in
          let z : s * (a * n) ≤ s * (b * m) = omega (arith, x, y) in
          le_of_mul-le-mul_left z some

      go : (a ≡ 0) ⊎ ((c : List Edge) × (1 ≤ length c) × IsCycleOf t c × (m * need_of t c ≡ a * time_of c)) → a * n ≤ b * m
      go (inl e) = let z : a * n ≡ 0 * n = ap (λ x. x * n) e in omega (arith, z)
      go (inr ([], some, is, e)) = absurd (omega (arith, some))
      go (inr (d ∷ ds, some, is, e)) = plain (need_of t (d ∷ ds)) (time_of (d ∷ ds)) (span_some d ds is) e (q.most (d ∷ ds) is)

  rate_same : (m n a b : ℕ) → IsRateOver m t a → IsRateOver n t b → a * n ≡ b * m
  rate_same m n a b p q = omega (arith, rate_below m n a b p q, rate_below n m b a q p)

  -- A rate gives the ratio of the graph, in lowest terms.
  ratio_none : (over : ℕ) → 1 ≤ over → IsRateOver over t 0 → IsRatio (digraph_of t) (record { num = 0; den = 1 })
  ratio_none over some p = record { lowest = IsGcd-swap 1 0 1 (IsGcd-from_zero 1 0 refl); least = least; cycle = []; has = (refl, refl) }
    where
      nothing : (w s : ℕ) → over * w ≤ 0 * s → 1 * w ≤ 0 * s
      nothing w s l =
          let z : over * w ≤ over * 0 = omega (arith, l) in
          let n : w ≤ 0 = le_of_mul-le-mul_left z some in
          omega (arith, n)

      least : (cycle : List ℕ) → IsCycle (digraph_of t) cycle → 1 * work (digraph_of t) cycle ≤ 0 * cycle_span (digraph_of t) cycle
      least [] is = absurd is
      least (v ∷ vs) is =
          let c = edges_of version t ok v vs is in
          let s = c.3 in
          nothing (work (digraph_of t) (v ∷ vs)) (cycle_span (digraph_of t) (v ∷ vs)) (rw (s.work, s.span) (p.most (c.0 ∷ c.1) c.2))

  module _ (over a g x y : ℕ) (some : 1 ≤ a) (pos : 1 ≤ g) (e : g * x ≡ a) (f : g * y ≡ over) where
    down : (w s : ℕ) → over * w ≤ a * s → y * w ≤ x * s
    down w s l =
        let h : g * y * w ≡ over * w = ap (λ k. k * w) f in
        let i : g * x * s ≡ a * s = ap (λ k. k * s) e in
        let z : g * (y * w) ≤ g * (x * s) = omega (arith, h, i, l) in
        le_of_mul-le-mul_left z pos

    down_same : (w s : ℕ) → over * w ≡ a * s → y * w ≡ x * s
    down_same w s l =
        let h : g * y * w ≡ over * w = ap (λ k. k * w) f in
        let i : g * x * s ≡ a * s = ap (λ k. k * s) e in
        cancelled g (y * w) (x * s) pos (omega (arith, h, i, l))

    lowest_least : IsRateOver over t a → (cycle : List ℕ) → IsCycle (digraph_of t) cycle
        → y * work (digraph_of t) cycle ≤ x * cycle_span (digraph_of t) cycle
    lowest_least p [] is = absurd is
    lowest_least p (v ∷ vs) is =
        let c = edges_of version t ok v vs is in
        let s = c.3 in
        down (work (digraph_of t) (v ∷ vs)) (cycle_span (digraph_of t) (v ∷ vs)) (rw (s.work, s.span) (p.most (c.0 ∷ c.1) c.2))

    num_some : (k : ℕ) → g * k ≡ a → 1 ≤ k
    num_some zero h = absurd (omega (arith, h, some))
    num_some (suc k) h = omega arith

    lowest_has : (a ≡ 0) ⊎ ((c : List Edge) × (1 ≤ length c) × IsCycleOf t c × (over * need_of t c ≡ a * time_of c))
        → (cycle : List ℕ) × HasRatio (digraph_of t) x y cycle
    lowest_has (inl h) = absurd (omega (arith, h, some))
    lowest_has (inr ([], l, is, h)) = absurd (omega (arith, l))
    lowest_has (inr (d ∷ ds, l, is, h)) =
        let s = vertices_of version t ok d ds is in (
          d.to ∷ ends_of ds,
          (
            s.is,
            down_same (work (digraph_of t) (d.to ∷ ends_of ds)) (cycle_span (digraph_of t) (d.to ∷ ends_of ds)) (rw (s.work, s.span) h),
            num_some x e,
          ),
        )

  ratio_of : (over a : ℕ) → 1 ≤ over → IsRateOver over t a → (r : Fraction) × (1 ≤ r.den) × IsRatio (digraph_of t) r
  ratio_of over zero some p = (record { num = 0; den = 1 }, omega arith, ratio_none over some p)
  ratio_of over (suc a) some p =
      let d = gcd_exists (suc over) (suc a) over (omega arith) in
      let g = d.0 in
      let is : IsGcd (suc a) over g = d.1.0 in
      let pos : 0 < g = gcd_positive (suc a) over g some is in
      let x = suc a / g in
      let y = over / g in
      let e : g * x ≡ suc a = mul-div_cancel' g is.0 in
      let f : g * y ≡ over = mul-div_cancel' g is.1 in
      let has = lowest_has over (suc a) g x y (omega arith) pos e f p.reached in (
        record { num = x; den = y },
        num_some over over g y y some pos f f y f,
        record {
          lowest = lowest_terms (suc a) over g pos is;
          least = lowest_least over (suc a) g x y (omega arith) pos e f p;
          cycle = has.0;
          has = has.1;
        },
      )

-- The rates of tasks over the scale of their ratios, and their sum.
rates_of : (version : ℕ) (tasks : List Task) (ratios : List Fraction) (scale : ℕ) → All (IsTask version) tasks
    → AreRatios (map digraph_of tasks) ratios
    → EachDivides ratios scale
    → (rates : List ℕ) × AllZip (IsRateOver scale) tasks rates × (sum rates ≡ rate scale ratios)
rates_of version [] [] scale ok are each = ([], tt, sym (rate_none scale))
rates_of version [] (r ∷ ratios) scale ok are each = absurd are
rates_of version (t ∷ tasks) [] scale ok are each = absurd are
rates_of version (t ∷ tasks) (r ∷ ratios) scale ok are each =
    let rest = rates_of version tasks ratios scale (All-tail (IsTask version) t tasks ok) are.1 each.1 in
    let q = scale / r.den in (
      r.num * q ∷ rest.0,
      (rate_of version t (All-head (IsTask version) t tasks ok) r q scale (mul-div_cancel' r.den each.0) are.0, rest.1),
      omega (arith, rest.2, rate_cons scale r ratios, sum_by-cons (λ (x : ℕ). x) (r.num * q) rest.0),
    )

-- The ratios and their scale give the utilisation.
pub utilisation_of : (version : ℕ) (tasks : List Task) → All (IsTask version) tasks → (r : Rates tasks)
    → IsUtilisation tasks (rate r.scale r.ratios) r.scale
utilisation_of version tasks ok r =
    let rates = rates_of version tasks r.ratios r.scale ok r.are r.is_scale.multiple in
    (r.is_scale.some, rates.0, rates.1, rates.2)

-- The utilisation is one fraction.
sums_same : (version : ℕ) (tasks : List Task) (m n : ℕ) (xs ys : List ℕ) → All (IsTask version) tasks → AllZip (IsRateOver m) tasks xs
    → AllZip (IsRateOver n) tasks ys
    → sum xs * n ≡ sum ys * m
sums_same version [] m n [] [] ok p q = omega arith
sums_same version [] m n [] (b ∷ ys) ok p q = absurd q
sums_same version [] m n (a ∷ xs) ys ok p q = absurd p
sums_same version (t ∷ tasks) m n [] ys ok p q = absurd p
sums_same version (t ∷ tasks) m n (a ∷ xs) [] ok p q = absurd q
sums_same version (t ∷ tasks) m n (a ∷ xs) (b ∷ ys) ok p q =
    let first = rate_same version t (All-head (IsTask version) t tasks ok) m n a b p.0 q.0 in
    let rest = sums_same version tasks m n xs ys (All-tail (IsTask version) t tasks ok) p.1 q.1 in
    plain (sum (a ∷ xs)) (sum xs) (sum (b ∷ ys)) (sum ys) first rest (sum_by-cons (λ (x : ℕ). x) a xs) (sum_by-cons (λ (x : ℕ). x) b ys)
  where
    plain : (c x d y : ℕ) → a * n ≡ b * m → x * n ≡ y * m → c ≡ a + x → d ≡ b + y → c * n ≡ d * m
    plain c x d y e f g h =
        let i : c * n ≡ (a + x) * n = ap (λ k. k * n) g in
        let j : d * m ≡ (b + y) * m = ap (λ k. k * m) h in
        omega (arith, e, f, i, j)

pub one_fraction : (version : ℕ) (tasks : List Task) (a m b n : ℕ) → All (IsTask version) tasks → IsUtilisation tasks a m
    → IsUtilisation tasks b n
    → a * n ≡ b * m
one_fraction version tasks a m b n ok p q =
    let e : a * n ≡ sum p.1 * n = ap (λ k. k * n) (sym p.3) in
    let f : b * m ≡ sum q.1 * m = ap (λ k. k * m) (sym q.3) in
    omega (arith, e, f, sums_same version tasks m n p.1 q.1 ok p.2 q.2)

-- Tasks that have a utilisation have ratios, and these a scale.
ratios_of : (version : ℕ) (tasks : List Task) (over : ℕ) (rates : List ℕ) → 1 ≤ over → All (IsTask version) tasks
    → AllZip (IsRateOver over) tasks rates
    → (ratios : List Fraction) × AreRatios (map digraph_of tasks) ratios × (scale : ℕ) × IsScale ratios scale
ratios_of version [] over [] some ok are = ([], tt, 1, scale_none)
ratios_of version [] over (a ∷ rates) some ok are = absurd are
ratios_of version (t ∷ tasks) over [] some ok are = absurd are
ratios_of version (t ∷ tasks) over (a ∷ rates) some ok are =
    let rest = ratios_of version tasks over rates some (All-tail (IsTask version) t tasks ok) are.1 in
    let r = ratio_of version t (All-head (IsTask version) t tasks ok) over a some are.0 in
    let m = lcm_exists rest.2 r.0.den r.1 in
    (r.0 ∷ rest.0, (r.2, rest.1), m.0, scale_cons r.0 rest.0 rest.2 m.0 rest.3 r.1 m.1)

pub rates_there : (version : ℕ) (tasks : List Task) (total over : ℕ) → All (IsTask version) tasks → IsUtilisation tasks total over → Rates tasks
rates_there version tasks total over ok u =
    let r = ratios_of version tasks over u.1 u.0 ok u.2 in
    record { ratios = r.0; are = r.1; scale = r.2; is_scale = r.3 }

-- A utilisation of one by the ratios is one by cycles of edges.
pub one_of : (version : ℕ) (tasks : List Task) → All (IsTask version) tasks → IsAtOne tasks → IsUtilisationOne tasks
one_of version tasks ok one =
    let r = one.0 in
    (r.scale, subst (λ total. IsUtilisation tasks total r.scale) one.2 (utilisation_of version tasks ok r))

-- And back, where the scale is at most 2^60.
pub at_one_of : (version : ℕ) (tasks : List Task) → All (IsTask version) tasks → IsUtilisationOne tasks → (r : Rates tasks)
    → r.scale ≤ most_scale
    → IsAtOne tasks
at_one_of version tasks ok one r fine =
    let total = rate r.scale r.ratios in
    let same = one_fraction version tasks one.0 one.0 total r.scale ok one.1 (utilisation_of version tasks ok r) in
    (r, fine, plain one.0 r.scale total one.1.0 same)
  where
    plain : (n s a : ℕ) → 1 ≤ n → n * s ≡ a * n → a ≡ s
    plain n s a some e = cancelled n a s some (omega (arith, e))

-- So of a utilisation below one, whatever the scale.
pub below_one_of : (version : ℕ) (tasks : List Task) → All (IsTask version) tasks → (r : Rates tasks)
    → rate r.scale r.ratios < r.scale → IsUtilisationBelowOne tasks
below_one_of version tasks ok r below = (rate r.scale r.ratios, r.scale, utilisation_of version tasks ok r, below)

pub below_scale_of : (version : ℕ) (tasks : List Task) → All (IsTask version) tasks → IsUtilisationBelowOne tasks
    → (r : Rates tasks) × (rate r.scale r.ratios < r.scale)
below_scale_of version tasks ok below =
    let r = rates_there version tasks below.0 below.1 ok below.2 in
    let same = one_fraction version tasks below.0 below.1 (rate r.scale r.ratios) r.scale ok below.2 (utilisation_of version tasks ok r) in
    (r, plain below.0 below.1 (rate r.scale r.ratios) r.scale r.is_scale.some below.3 same)
  where
    plain : (a m b n : ℕ) → 1 ≤ n → a < m → a * n ≡ b * m → b < n
    plain a m b n some less e = go (cases_lt b n)
      where
        go : (b < n) ⊎ (n ≤ b) → b < n
        go (inl l) = l
        go (inr l) =
            let x : m * n ≤ m * b = mul-le-mul_left m l in
            let y : n * (a + 1) ≤ n * m = mul-le-mul_left n (omega (arith, less)) in
            absurd (omega (arith, x, y, e, some))
