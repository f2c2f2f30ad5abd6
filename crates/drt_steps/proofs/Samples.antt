-- Samples of functions, and what a function's marks are once it is raised.
use Rattle.std.proofs.Common.{◌≡◌, ℕ, suc, zero, ◌+◌, ◌-◌, ◌*◌, ◌/◌, ◌<◌, ◌≤◌, Bool, true, false, cond, List, [], ◌∷◌, length, refl, sym, ap, ◌∙◌, arith}
use Rattle.std.specs.Prelude.{slice_index, nat_lt}
use mathlib.Core.Logic.{dite}
use native.Mathlib.Decide.{dec_lt}
use Rattle.std.proofs.lemmas.Nat.{le-div}
use Rattle.std.proofs.Math.Nat.{div-mul-le_self}
use Rattle.std.proofs.lemmas.Bool.Decides.{nat_tests}
use Rattle.drt_steps.specs.Values.{raise, covers, value_at}
use Rattle.drt_steps.specs.declared.jump.Jump.{Jump}
use Rattle.drt_steps.specs.Jumps.{values_from, values, AreKept, AreMarks}
use Rattle.drt_steps.specs.Samples.{coarse, sample_at, samples_of}
use Rattle.drt_steps.proofs.Jumps.{at-values_from}
use Rattle.drt_steps.proofs.Marked.{mark_within}
use Rattle.drt_steps.proofs.Kept.{long}
use Rattle.drt_steps.proofs.Places.{value_small}

-- the raised values, late and early
raised_late : (k w : ℕ) (xs : List ℕ) (i : ℕ) → i < length xs → k ≤ i → slice_index (raise k w xs) i ≡ slice_index xs i + w
raised_late k w [] i lt le = absurd (omega (arith, lt))
raised_late zero w (x ∷ xs) zero lt le = refl
raised_late (suc k) w (x ∷ xs) zero lt le = absurd (omega (arith, le))
raised_late zero w (x ∷ xs) (suc i) lt le = raised_late zero w xs i (omega (arith, lt)) (omega arith)
raised_late (suc k) w (x ∷ xs) (suc i) lt le = raised_late k w xs i (omega (arith, lt)) (omega (arith, le))

raised_early : (k w : ℕ) (xs : List ℕ) (i : ℕ) → i < k → slice_index (raise k w xs) i ≡ slice_index xs i
raised_early k w [] i lt = refl
raised_early zero w (x ∷ xs) i lt = absurd (omega (arith, lt))
raised_early (suc k) w (x ∷ xs) zero lt = refl
raised_early (suc k) w (x ∷ xs) (suc i) lt = raised_early k w xs i (omega (arith, lt))

raised_by : (offset w : ℕ) (xs : List ℕ) (t : ℕ) (late : Bool) → nat_lt offset t ≡ late → 1 ≤ t → t ≤ length xs → value_at (raise offset w xs) t ≡ value_at xs t + cond late w 0
unfolding value_at
raised_by offset w xs t true e from to =
    let lt : offset < t = grind (arith, nat_tests, e) in
    raised_late offset w xs (t - 1) (omega (arith, from, to)) (omega (arith, lt))
raised_by offset w xs t false e from to =
    let le : t ≤ offset = grind (arith, nat_tests, e) in
    let same : slice_index (raise offset w xs) (t - 1) ≡ slice_index xs (t - 1) = raised_early offset w xs (t - 1) (omega (arith, from, le)) in
    same ∙ (let z : slice_index xs (t - 1) ≡ slice_index xs (t - 1) + 0 = omega arith in z)

-- numbers that are the marks with the work where the time is later than the offset are the marks of the raised function
pub marks_raised : (n offset w : ℕ) (xs marks raised : List ℕ) → 1 ≤ n → n ≡ length xs → AreMarks n xs marks
    → ((k : ℕ) → k < 16 → slice_index raised k ≡ slice_index marks k + cond (nat_lt offset (n - k * (n / 16))) w 0) → AreMarks n (raise offset w xs) raised
marks_raised n offset w xs marks raised from long m are = record {
  are = λ k lt.
      let t : ℕ = n - k * (n / 16) in
      let within = mark_within n k from lt in
      are k lt ∙ (ap (λ z. z + cond (nat_lt offset t) w 0) (m.are k lt) ∙ sym (raised_by offset w xs t (nat_lt offset t) refl within.0 (omega (arith, within.1, long))));
}

-- a list with as many items that are the values of a function
listed : (f : ℕ → ℕ) (t n : ℕ) (xs : List ℕ) → length xs ≡ n → ((i : ℕ) → i < n → slice_index xs i ≡ f (t + i)) → xs ≡ values_from f t n
listed f t zero [] long are = refl
listed f t zero (x ∷ xs) long are = absurd (omega (arith, long))
listed f t (suc n) [] long are = absurd (omega (arith, long))
listed f t (suc n) (x ∷ xs) long are =
    let first : x ≡ f t = are 0 (omega arith) ∙ ap f (let e : t + 0 ≡ t = omega arith in e) in
    ap (λ y. y ∷ xs) first
    ∙ ap (λ ys. f t ∷ ys) (listed f (suc t) n xs (omega (arith, long)) (λ i lt. are (suc i) (omega (arith, lt)) ∙ ap f (let e : t + suc i ≡ suc t + i = omega arith in e)))

-- the coarse marks are the samples
pub samples_are : (n : ℕ) (xs marks samples : List ℕ) → n ≡ length xs → AreMarks n xs marks → length samples ≡ 16
    → ((k : ℕ) → k < 16 → slice_index samples k ≡ coarse n (slice_index marks k)) → samples ≡ samples_of xs
unfolding samples_of
samples_are n xs marks samples same m long are =
    listed (λ k. sample_at xs k) 0 16 samples long (λ k lt.
    are k lt ∙ (ap (λ v. coarse n v) (m.are k lt) ∙ (ap (λ z. coarse z (value_at xs (z - k * (z / 16)))) same ∙ ap (λ j. sample_at xs j) (let e : k ≡ 0 + k = omega arith in e))))

div_grows : (a b unit : ℕ) → 1 ≤ unit → a ≤ b → a / unit ≤ b / unit
div_grows a b unit from le =
    let q : a / unit * unit ≤ a = div-mul-le_self a unit in
    le-div (a / unit) b unit (omega (arith, from)) (omega (arith, q, le))

coarse_grows : (n a b : ℕ) → a ≤ b → coarse n a ≤ coarse n b
coarse_grows n a b le =
    let q : a / (n / 32768 + 1) ≤ b / (n / 32768 + 1) = div_grows a b (n / 32768 + 1) (omega arith) le in
    omega (arith, q)

covered_place : (xs ys : List ℕ) (i : ℕ) → covers xs ys ≡ true → slice_index ys i ≤ slice_index xs i
covered_place [] [] i e = omega arith
covered_place [] (y ∷ ys) i e = absurd (grind (arith, e))
covered_place (x ∷ xs) [] i e = absurd (grind (arith, e))
covered_place (x ∷ xs) (y ∷ ys) zero e = grind (arith, nat_tests, e)
covered_place (x ∷ xs) (y ∷ ys) (suc i) e = covered_place xs ys i (grind (arith, e))

covered_value : (xs ys : List ℕ) (t : ℕ) → covers xs ys ≡ true → value_at ys t ≤ value_at xs t
unfolding value_at
covered_value xs ys t e = covered_place xs ys (t - 1) e

none_past : (f : ℕ → ℕ) (t n i : ℕ) → n ≤ i → slice_index (values_from f t n) i ≡ 0
none_past f t zero i le = refl
none_past f t (suc n) zero le = absurd (omega (arith, le))
none_past f t (suc n) (suc i) le = none_past f (suc t) n i (omega (arith, le))

-- where one function covers another one of its bound, none of its samples is less
pub samples_covered : (xs ys : List ℕ) (k : ℕ) → length xs ≡ length ys → covers xs ys ≡ true → slice_index (samples_of ys) k ≤ slice_index (samples_of xs) k
unfolding samples_of
samples_covered xs ys k same e = dite (dec_lt k 16)
    (λ lt.
    let own : slice_index (values_from (λ j. sample_at xs j) 0 16) k ≡ sample_at xs (0 + k) = at-values_from (λ j. sample_at xs j) 0 16 k lt in
    let others : slice_index (values_from (λ j. sample_at ys j) 0 16) k ≡ sample_at ys (0 + k) = at-values_from (λ j. sample_at ys j) 0 16 k lt in
    let t : ℕ = length xs - (0 + k) * (length xs / 16) in
    let less : coarse (length xs) (value_at ys t) ≤ coarse (length xs) (value_at xs t) = coarse_grows (length xs) (value_at ys t) (value_at xs t) (covered_value xs ys t e) in
    let there : sample_at ys (0 + k) ≡ coarse (length xs) (value_at ys t) = ap (λ z. coarse z (value_at ys (z - (0 + k) * (z / 16)))) (sym same) in
    omega (arith, own, others, less, there))
    (λ nlt.
    let le : 16 ≤ k = omega (arith, nlt) in
    let own : slice_index (values_from (λ j. sample_at xs j) 0 16) k ≡ 0 = none_past (λ j. sample_at xs j) 0 16 k le in
    let others : slice_index (values_from (λ j. sample_at ys j) 0 16) k ≡ 0 = none_past (λ j. sample_at ys j) 0 16 k le in
    omega (arith, own, others))

-- the marks of a function that is kept are small
pub marks_small : (n p : ℕ) (js : List Jump) (marks : List ℕ) → AreKept n p js → AreMarks n (values n p js) marks → (k : ℕ) → k < 16 → slice_index marks k ≤ 1000000000000
marks_small n p js marks kept m k lt =
    let t : ℕ = n - k * (n / 16) in
    let within = mark_within n k kept.from lt in
    let is : n ≡ length (values n p js) = long n p js (values n p js) refl in
    let small : value_at (values n p js) t ≤ 1000000000000 = value_small n p js (values n p js) t refl kept within.0 (omega (arith, within.1, is)) in
    let e : slice_index marks k ≡ value_at (values n p js) t = m.are k lt in
    omega (arith, e, small)
