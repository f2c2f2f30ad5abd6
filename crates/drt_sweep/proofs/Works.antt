-- The greatest works that are due by a time, task by task.
use Rattle.std.proofs.Common.{◌≡◌, ℕ, zero, suc, ◌+◌, ◌<◌, ◌≤◌, List, [], ◌∷◌, ◌++◌, All, ◌⊎◌, inl, inr, refl, arith}
use Rattle.std.specs.Prelude.{max, nat_le, ◌==◌, ◌&&◌, if◌then◌else◌}
use Rattle.std.specs.List.Sorted.{IsPermutation}
use Rattle.std.proofs.Math.Nat.{le-max_left, le-max_right, max-le}
use Rattle.std.proofs.lemmas.Bool.{cases_lt}
use Rattle.std.proofs.lemmas.List.Sorted.{All-permutation, IsPermutation-sym}
use Rattle.drt_sweep.specs.declared.due_work.DueWork.{DueWork}
use Rattle.drt_sweep.specs.DueWorks.{work_by, sum_to}

-- The work of one element, if it is of task k and due by t.
abbrev pub part : DueWork → ℕ → ℕ → ℕ
part r t k = if (r.task == k) && nat_le r.due t then r.work else 0

-- The work of one element, if it is of task k.
abbrev pub whole : DueWork → ℕ → ℕ
whole r k = if r.task == k then r.work else 0

-- The greatest work of task k, and 0 where there is none.
unfoldable pub work_in : List DueWork → ℕ → ℕ
work_in [] k = 0
work_in (r ∷ rs) k = max (whole r k) (work_in rs k)

-- The work with one more element.
pub by_cons : (r : DueWork) (rs : List DueWork) (t k : ℕ) → work_by (r ∷ rs) t k ≡ max (part r t k) (work_by rs t k)
unfolding work_by
by_cons r rs t k = refl

pub by_none : (t k : ℕ) → work_by [] t k ≡ 0
unfolding work_by
by_none t k = refl

pub in_cons : (r : DueWork) (rs : List DueWork) (k : ℕ) → work_in (r ∷ rs) k ≡ max (whole r k) (work_in rs k)
unfolding work_in
in_cons r rs k = refl

pub in_none : (k : ℕ) → work_in [] k ≡ 0
unfolding work_in
in_none k = refl

-- Two lists of works.
pub by_both : (xs ys : List DueWork) (t k : ℕ) → work_by (xs ++ ys) t k ≡ max (work_by xs t k) (work_by ys t k)
by_both [] ys t k = rw by_none (plain (work_by ys t k))
  where
    plain : (n : ℕ) → n ≡ max 0 n
    plain n = grind arith
by_both (r ∷ xs) ys t k =
    let e = by_both xs ys t k in
    rw (by_cons, by_cons, e) (grouped (part r t k) (work_by xs t k) (work_by ys t k))
  where
    grouped : (a b c : ℕ) → max a (max b c) ≡ max (max a b) c
    grouped a b c = grind arith

-- What is at least the work of each element is at least the greatest.
pub by_most : (rs : List DueWork) (t k m : ℕ) → All (λ r. part r t k ≤ m) rs → work_by rs t k ≤ m
by_most [] t k m all = rw by_none (omega arith)
by_most (r ∷ rs) t k m all = rw by_cons (max-le (all 0 r (omega arith)) (by_most rs t k m (λ i d l. all (suc i) d (omega arith))))

-- The greatest is at least the work of each element.
pub by_each : (rs : List DueWork) (t k : ℕ) → All (λ r. part r t k ≤ work_by rs t k) rs
by_each [] t k i d l = absurd (omega arith)
by_each (r ∷ rs) t k zero d l = rw by_cons (le-max_left (part r t k) (work_by rs t k))
by_each (r ∷ rs) t k (suc i) d l =
    let h = by_each rs t k i d (omega arith) in
    let m = le-max_right (part r t k) (work_by rs t k) in
    rw by_cons (omega (arith, h, m))

-- The order of the elements does not matter.
pub by_same : (xs ys : List DueWork) (t k : ℕ) → IsPermutation xs ys → work_by ys t k ≡ work_by xs t k
by_same xs ys t k is =
    let l = by_most ys t k (work_by xs t k) (All-permutation (λ r. part r t k ≤ work_by xs t k) xs ys is (by_each xs t k)) in
    let m = by_most xs t k (work_by ys t k) (All-permutation (λ r. part r t k ≤ work_by ys t k) ys xs (IsPermutation-sym xs ys is) (by_each ys t k)) in
    omega (arith, l, m)

-- The works of equal parts have equal sums.
pub sum_same : (f h : ℕ → ℕ) (n : ℕ) → ((k : ℕ) → k < n → f k ≡ h k) → sum_to f n ≡ sum_to h n
unfolding sum_to
sum_same f h zero e = refl
sum_same f h (suc n) e = omega (arith, sum_same f h n (λ k l. e k (omega arith)), e n (omega arith))

-- Smaller parts have a smaller sum.
pub sum_less : (f h : ℕ → ℕ) (n : ℕ) → ((k : ℕ) → k < n → f k ≤ h k) → sum_to f n ≤ sum_to h n
unfolding sum_to
sum_less f h zero e = omega arith
sum_less f h (suc n) e = omega (arith, sum_less f h n (λ k l. e k (omega arith)), e n (omega arith))

-- Parts of 0 have the sum 0.
pub sum_none : (f : ℕ → ℕ) (n : ℕ) → ((k : ℕ) → k < n → f k ≡ 0) → sum_to f n ≡ 0
unfolding sum_to
sum_none f zero e = refl
sum_none f (suc n) e = omega (arith, sum_none f n (λ k l. e k (omega arith)), e n (omega arith))

-- One part that grows by x.
pub sum_grows : (f h : ℕ → ℕ) (m n x : ℕ) → m < n → ((k : ℕ) → k < n → (k ≡ m → ⊥) → h k ≡ f k) → h m ≡ f m + x → sum_to h n ≡ sum_to f n + x
unfolding sum_to
sum_grows f h m zero x l others e = absurd (omega arith)
sum_grows f h m (suc n) x l others e = go (cases_lt m n) (λ q. sum_grows f h m n x q (λ k p d. others k (omega arith) d) e)
  where
    go : (m < n) ⊎ (n ≤ m) → (m < n → sum_to h n ≡ sum_to f n + x) → sum_to h n + h n ≡ sum_to f n + f n + x
    go (inl q) ih = omega (arith, ih q, others n (omega arith) (λ z. omega arith))
    go (inr q) ih =
        let same : m ≡ n = omega arith in
        let grown : h n ≡ f n + x = rw same at e in
        let rest = sum_same h f n (λ k p. others k (omega arith) (λ z. omega arith)) in
        omega (arith, grown, rest)
