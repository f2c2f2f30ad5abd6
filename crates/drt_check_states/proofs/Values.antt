-- The value of a rising function, by how many of its jumps come before t.
use Rattle.std.proofs.Common.{◌≡◌, ℕ, zero, suc, ◌+◌, ◌-◌, ◌<◌, ◌≤◌, ◌⊎◌, inl, inr, All, List, [], ◌∷◌, length, get_or, refl, sym, ap, ◌∙◌, arith}
use Rattle.std.specs.Prelude.{nat_lt}
use Rattle.std.proofs.lemmas.List.{get_or_default}
use Rattle.std.proofs.lemmas.Bool.{cases_lt, lt-ltb, le-ltb, cond-true, cond-false}
use Rattle.drt_states.specs.Tails.{last_work, value_before}
use Rattle.drt_states.specs.declared.claims.Jump.{Jump}
use Rattle.drt_check_states.specs.Curves.{IsJumpOver, IsRising}
use Rattle.drt_check_states.proofs.Items.{ascending_to}

-- The jumps before the first number come before t, and those from the second one on don't.
pub record IsCut (jumps : List Jump) (t from to : ℕ) : Type 0 where
  pub ordered : from ≤ to
  pub within : to ≤ length jumps
  pub before : (i : ℕ) (d : Jump) → i < from → (get_or jumps i d).offset < t
  pub after : (i : ℕ) (d : Jump) → to ≤ i → i < length jumps → t ≤ (get_or jumps i d).offset

-- The work of the last of so many jumps, or what is known before them.
work_of : ℕ → List Jump → ℕ → ℕ
work_of known jumps zero = known
work_of known [] (suc n) = known
work_of known (j ∷ jumps) (suc n) = work_of j.work jumps n

work_of-last : (known : ℕ) (jumps : List Jump) (n : ℕ) (d : Jump) → n < length jumps → work_of known jumps (suc n) ≡ (get_or jumps n d).work
unfolding work_of
work_of-last known [] n d l = absurd (omega arith)
work_of-last known (j ∷ jumps) zero d l = refl
work_of-last known (j ∷ jumps) (suc n) d l = work_of-last j.work jumps n d (omega arith)

cut : (known : ℕ) (jumps : List Jump) (t n : ℕ) → n ≤ length jumps → ((i : ℕ) (d : Jump) → i < n → (get_or jumps i d).offset < t)
    → ((i : ℕ) (d : Jump) → n ≤ i → i < length jumps → t ≤ (get_or jumps i d).offset) → last_work known jumps t ≡ work_of known jumps n
unfolding last_work work_of
cut known [] t zero l below past = refl
cut known [] t (suc n) l below past = absurd (omega arith)
cut known (j ∷ jumps) t zero l below past =
    ap (λ (k : ℕ). last_work k jumps t) (cond-false (nat_lt j.offset t) j.work known (le-ltb j.offset t (past 0 j (omega arith) (omega arith))))
    ∙ cut known jumps t zero (omega arith) (λ i d h. absurd (omega arith)) (λ i d h k. past (suc i) d (omega arith) (omega arith))
cut known (j ∷ jumps) t (suc n) l below past =
    ap (λ (k : ℕ). last_work k jumps t) (cond-true (nat_lt j.offset t) j.work known (lt-ltb j.offset t (below 0 j (omega arith))))
    ∙ cut j.work jumps t n (omega arith) (λ i d h. below (suc i) d (omega arith)) (λ i d h k. past (suc i) d (omega arith) (omega arith))

pub value_none : (jumps : List Jump) (t from to : ℕ) → IsCut jumps t from to → from ≡ 0 → to ≤ from → 0 ≡ value_before jumps t
unfolding work_of
value_none jumps t from to is e l = sym (cut 0 jumps t 0 (omega arith) (λ i d h. absurd (omega arith)) (λ i d h k. is.after i d (omega arith) k))

pub value_last : (jumps : List Jump) (t from to : ℕ) (d : Jump) → IsCut jumps t from to → 0 < from → to ≤ from → (get_or jumps (from - 1) d).work ≡ value_before jumps t
value_last jumps t from to d is some l =
    let m : from - 1 < length jumps = omega (arith, is.ordered, is.within) in
    let f : work_of 0 jumps (suc (from - 1)) ≡ (get_or jumps (from - 1) d).work = work_of-last 0 jumps (from - 1) d m in
    sym (cut 0 jumps t (suc (from - 1)) (omega arith) (λ i b h. is.before i b (omega arith)) (λ i b h k. is.after i b (omega arith) k) ∙ f)

-- The offsets rise from each to all after it.
pub rising_to : (jumps : List Jump) → IsRising jumps → (i k : ℕ) (d : Jump) → i ≤ k → k < length jumps → (get_or jumps i d).offset ≤ (get_or jumps k d).offset
rising_to jumps is i k d l m = ascending_to (λ (j : Jump). j.offset) jumps (λ n e h. (is n e h).0) i k d l m

-- Where a jump in between comes before t, so do those before it; where it doesn't, neither do those after it.
pub cut_up : (jumps : List Jump) (t from to middle : ℕ) (d : Jump) → IsRising jumps → IsCut jumps t from to → middle < to → (get_or jumps middle d).offset < t
    → IsCut jumps t (middle + 1) to
cut_up jumps t from to middle d is c m below = record {
  ordered = omega arith;
  within = c.within;
  before = λ i b h.
      let g : (get_or jumps i b).offset ≤ (get_or jumps middle b).offset = rising_to jumps is i middle b (omega arith) (omega (arith, c.within)) in
      let same : get_or jumps middle b ≡ get_or jumps middle d = get_or_default jumps middle b d (omega (arith, c.within)) in
      omega (arith, g, ap (λ (j : Jump). j.offset) same, below);
  after = c.after;
}

pub cut_down : (jumps : List Jump) (t from to middle : ℕ) (d : Jump) → IsRising jumps → IsCut jumps t from to → from ≤ middle → middle < to → t ≤ (get_or jumps middle d).offset
    → IsCut jumps t from middle
cut_down jumps t from to middle d is c n m past = record {
  ordered = omega arith;
  within = omega (arith, c.within);
  before = c.before;
  after = λ i b h l.
      let g : (get_or jumps middle b).offset ≤ (get_or jumps i b).offset = rising_to jumps is middle i b h l in
      let same : get_or jumps middle b ≡ get_or jumps middle d = get_or_default jumps middle b d (omega arith) in
      omega (arith, g, ap (λ (j : Jump). j.offset) same, past);
}

-- Jumps after one that lies so far that it doesn't count don't count either.
pub past_all : (bound wcet sep : ℕ) (own other : List Jump) (i : ℕ) (e : Jump) → IsRising other → i < length other → bound ≤ (get_or other i e).offset + sep
    → ((k : ℕ) (d : Jump) → k < i → IsJumpOver bound wcet sep own (get_or other k d)) → All (IsJumpOver bound wcet sep own) other
past_all bound wcet sep own other i e is l past so_far k d m = go (cases_lt k i)
  where
    go : (k < i) ⊎ (i ≤ k) → IsJumpOver bound wcet sep own (get_or other k d)
    go (inl q) = so_far k d q
    go (inr q) = λ below.
        let g : (get_or other i d).offset ≤ (get_or other k d).offset = rising_to other is i k d q m in
        let same : get_or other i d ≡ get_or other i e = get_or_default other i d e l in
        absurd (omega (arith, g, ap (λ (j : Jump). j.offset) same, past, below))
