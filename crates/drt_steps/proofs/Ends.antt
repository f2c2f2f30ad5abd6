-- The order of two functions from their bound down.
use Rattle.std.proofs.Common.{◌≡◌, ℕ, suc, zero, ◌+◌, ◌-◌, ◌<◌, ◌≤◌, ◌≢◌, List, [], ◌∷◌, ◌++◌, length, take, reverse, refl, sym, ap, ◌∙◌, subst, arith, max, Some}
use Rattle.std.specs.Prelude.{slice_get, slice_index, nat_lt, ◌==◌, Bool, true, false, cond}
use Rattle.std.proofs.lemmas.Bool.Decides.{nat_tests}
use Rattle.std.specs.Ordering.{nat_cmp, ordering_then}
use Rattle.std.specs.Cmp.Lexicographic.{slice_cmp}
use Rattle.std.specs.declared.cmp.Ordering.{Ordering}
use Rattle.std.specs.declared.cmp.Ordering.TheVariants.{Less, Equal, Greater}
use Rattle.std.proofs.lemmas.List.{reverse-append}
use Rattle.drt_steps.specs.declared.jump.Jump.{Jump}
use Rattle.drt_steps.specs.Jumps.{risen}
use Rattle.drt_steps.specs.Values.{value_at}
use Rattle.drt_steps.proofs.Jumps.{share, share_in, share_out, take_more}

-- one more jump, which comes at the new time or earlier
pub level_in : (js : List Jump) (i since t : ℕ) (j : Jump) → slice_get js i ≡ Some j → j.after < t
    → ((s : ℕ) → since < s → s ≤ t → risen (take i js) s ≡ risen (take i js) t) → (s : ℕ) → max j.after since < s → s ≤ t → risen (take (i + 1) js) s ≡ risen (take (i + 1) js) t
level_in js i since t j at lt h s late le =
    let a : risen (take (i + 1) js) s ≡ risen (take i js) s + share j s = take_more js i j s at in
    let b : risen (take (i + 1) js) t ≡ risen (take i js) t + share j t = take_more js i j t at in
    let c : share j s ≡ j.rise = share_in j s (omega arith) in
    let d : share j t ≡ j.rise = share_in j t lt in
    let e : risen (take i js) s ≡ risen (take i js) t = h s (omega arith) le in
    omega arith

pub level_out : (js : List Jump) (i since t : ℕ) (j : Jump) → slice_get js i ≡ Some j → t ≤ j.after
    → ((s : ℕ) → since < s → s ≤ t → risen (take i js) s ≡ risen (take i js) t) → (s : ℕ) → since < s → s ≤ t → risen (take (i + 1) js) s ≡ risen (take (i + 1) js) t
level_out js i since t j at out h s late le =
    let a : risen (take (i + 1) js) s ≡ risen (take i js) s + share j s = take_more js i j s at in
    let b : risen (take (i + 1) js) t ≡ risen (take i js) t + share j t = take_more js i j t at in
    let c : share j s ≡ 0 = share_out j s (omega arith) in
    let d : share j t ≡ 0 = share_out j t out in
    let e : risen (take i js) s ≡ risen (take i js) t = h s late le in
    omega arith

-- the values up to t, the last first
abbrev pub down : List ℕ → ℕ → List ℕ
down xs zero = []
down xs (suc t) = value_at xs (suc t) ∷ down xs t

cmp_own : (a : ℕ) → nat_cmp a a ≡ Equal
cmp_own a = grind (arith, nat_tests)

cmp_at : (a b : ℕ) (less same : Bool) → nat_lt a b ≡ less → (a == b) ≡ same → cond less Less (cond same Equal Greater) ≡ Equal → a ≡ b
cmp_at a b true same p q e = absurd (cc)
cmp_at a b false true p q e = grind (arith, nat_tests)
cmp_at a b false false p q e = absurd (cc)

cmp_equal : (a b : ℕ) → nat_cmp a b ≡ Equal → a ≡ b
cmp_equal a b e = cmp_at a b (nat_lt a b) (a == b) refl refl e

own_then : (a : ℕ) (o : Ordering) → ordering_then (nat_cmp a a) o ≡ o
own_then a o = ap (λ r. ordering_then r o) (cmp_own a)

then_at : (r o : Ordering) → r ≢ Equal → ordering_then r o ≡ r
then_at Less o ne = refl
then_at Equal o ne = absurd (ne refl)
then_at Greater o ne = refl

other_then : (a b : ℕ) (o : Ordering) → a ≢ b → ordering_then (nat_cmp a b) o ≡ nat_cmp a b
other_then a b o ne = then_at (nat_cmp a b) o (λ e. ne (cmp_equal a b e))

same_then : (a b : ℕ) (o : Ordering) → a ≡ b → ordering_then (nat_cmp a b) o ≡ o
same_then a b o e = subst (λ (z : ℕ). ordering_then (nat_cmp a z) o ≡ o) e (own_then a o)

down_steps : (xs ys : List ℕ) (k s : ℕ) → ((r : ℕ) → s < r → r ≤ s + k → value_at xs r ≡ value_at ys r)
    → slice_cmp nat_cmp (down xs (s + k)) (down ys (s + k)) ≡ slice_cmp nat_cmp (down xs s) (down ys s)
down_steps xs ys zero s h = ap (λ z. slice_cmp nat_cmp (down xs z) (down ys z)) (let e : s + 0 ≡ s = omega arith in e)
down_steps xs ys (suc k) s h =
    ap (λ z. slice_cmp nat_cmp (down xs z) (down ys z)) (let e : s + suc k ≡ suc (s + k) = omega arith in e)
    ∙ (same_then (value_at xs (suc (s + k))) (value_at ys (suc (s + k))) (slice_cmp nat_cmp (down xs (s + k)) (down ys (s + k))) (h (suc (s + k)) (omega arith) (omega arith))
    ∙ down_steps xs ys k s (λ r lo hi. h r lo (omega arith)))

-- where the values are equal since a time, the values up to it decide
pub down_level : (xs ys : List ℕ) (s t : ℕ) → s ≤ t → ((r : ℕ) → s < r → r ≤ t → value_at xs r ≡ value_at ys r) → slice_cmp nat_cmp (down xs t) (down ys t) ≡ slice_cmp nat_cmp (down xs s) (down ys s)
down_level xs ys s t le h =
    let e : s + (t - s) ≡ t = omega arith in
    subst (λ (z : ℕ). slice_cmp nat_cmp (down xs z) (down ys z) ≡ slice_cmp nat_cmp (down xs s) (down ys s)) e (down_steps xs ys (t - s) s (λ r lo hi. h r lo (omega arith)))

pub down_decides : (xs ys : List ℕ) (t : ℕ) → 1 ≤ t → value_at xs t ≢ value_at ys t → slice_cmp nat_cmp (down xs t) (down ys t) ≡ nat_cmp (value_at xs t) (value_at ys t)
down_decides xs ys zero from ne = absurd (omega arith)
down_decides xs ys (suc t) from ne = other_then (value_at xs (suc t)) (value_at ys (suc t)) (slice_cmp nat_cmp (down xs t) (down ys t)) ne

-- the values, the last first, are those from the bound down
next_is : (x : ℕ) (xs : List ℕ) (n : ℕ) → slice_index (x ∷ xs) (suc (suc n) - 1) ≡ slice_index xs (suc n - 1)
next_is x xs n = ap (λ k. slice_index (x ∷ xs) k) (let e : suc (suc n) - 1 ≡ suc n = omega arith in e) ∙ ap (λ k. slice_index xs k) (let e : n ≡ suc n - 1 = omega arith in e)

down_front : (x : ℕ) (xs : List ℕ) (n : ℕ) → down (x ∷ xs) (suc n) ≡ down xs n ++ x ∷ []
unfolding value_at
down_front x xs zero = refl
down_front x xs (suc n) = ap (λ ys. slice_index (x ∷ xs) (suc (suc n) - 1) ∷ ys) (down_front x xs n) ∙ ap (λ y. y ∷ (down xs n ++ x ∷ [])) (next_is x xs n)

pub reverse_down : (xs : List ℕ) → reverse xs ≡ down xs (length xs)
reverse_down [] = refl
reverse_down (x ∷ xs) = reverse-append (x ∷ []) xs ∙ (ap (λ ys. ys ++ x ∷ []) (reverse_down xs) ∙ sym (down_front x xs (length xs)))
