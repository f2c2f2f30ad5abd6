-- Values that are ready.
use Rattle.std.proofs.Common.{◌≡◌, ℕ, ◌+◌, ◌-◌, ◌*◌, ◌/◌, ◌<◌, ◌≤◌, false, List, length, sym, ap, ◌∙◌, subst, arith, slice_index, slice_set}
use Rattle.std.proofs.lemmas.List.{get_or-set_same, get_or-set_other}
use Rattle.std.proofs.Math.Nat.{mul-le-mul_right}
use mathlib.Core.Logic.{dite}
use native.Mathlib.Decide.{dec_lt}
use Rattle.drt_steps.specs.Values.{covers, value_at}
use Rattle.drt_steps.specs.Jumps.{AreMarks}
use Rattle.drt_steps.proofs.Covering.{below_at}

-- a sixteenth, fifteen times, is less than the whole
pub mark_within : (n k : ℕ) → 1 ≤ n → k < 16 → (1 ≤ n - k * (n / 16)) × (k * (n / 16) < n)
mark_within n k from lt =
    let q : k * (n / 16) ≤ 15 * (n / 16) = mul-le-mul_right (n / 16) (let h : k ≤ 15 = omega (arith, lt) in h) in
    (omega (arith, from, q), omega (arith, from, q))

-- where one of them is less, the function doesn't cover the other one
pub mark_below : (n m : ℕ) (xs ys marks others : List ℕ) (k : ℕ) → AreMarks n xs marks → AreMarks m ys others → n ≡ m → n ≡ length xs → 1 ≤ n → k < 16
    → slice_index marks k < slice_index others k → covers xs ys ≡ false
mark_below n m xs ys marks others k a b e l from lt less =
    let w = mark_within n k from lt in
    let own : slice_index marks k ≡ value_at xs (n - k * (n / 16)) = a.are k lt in
    let theirs : slice_index others k ≡ value_at ys (n - k * (n / 16)) = b.are k lt ∙ ap (λ z. value_at ys (z - k * (z / 16))) (sym e) in
    below_at xs ys (n - k * (n / 16)) w.0 (omega (arith, w.1, l)) (omega (arith, own, theirs, less))

-- one more of some values in their places
pub marks_more : (marks : List ℕ) (k x : ℕ) (f : ℕ → ℕ) → k < length marks → ((i : ℕ) → i < k → slice_index marks i ≡ f i) → x ≡ f k
    → (i : ℕ) → i < k + 1 → slice_index (slice_set marks k x) i ≡ f i
marks_more marks k x f room before now i lt = dite (dec_lt i k)
    (λ l. get_or-set_other marks k i x 0 (λ e. absurd (omega arith)) ∙ before i l)
    (λ nl.
    let same : i ≡ k = omega arith in
    subst (λ z. slice_index (slice_set marks k x) z ≡ f z) (sym same) (get_or-set_same marks k x 0 room ∙ now))
