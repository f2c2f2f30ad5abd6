use Rattle.std.proofs.Common.{◌≡◌, ℕ, suc, zero, ◌+◌, ◌-◌, ◌<◌, ◌≤◌, Bool, true, false, cond, Some, List, [], ◌∷◌, ◌++◌, length, take, refl, sym, ap, ◌∙◌, subst, arith, replicate, add-one}
use Rattle.std.specs.Prelude.{slice_get, nat_lt, nat_le, slice_index}
use Rattle.std.proofs.lemmas.Option.{none-some, same_Some}
use Rattle.std.proofs.lemmas.Bool.Decides.{nat_tests}
use Rattle.drt_steps.specs.declared.jump.Jump.{Jump}
use Rattle.drt_steps.specs.Jumps.{risen, total_rise, values_from, values, AreFrom, AreJumpsBefore, up_to, past}
use Rattle.drt_steps.specs.Values.{raise, value_at}

-- what a jump adds before t
abbrev pub share : Jump → ℕ → ℕ
share j t = cond (nat_lt j.after t) j.rise 0

pub risen_append : (xs ys : List Jump) (t : ℕ) → risen (xs ++ ys) t ≡ risen xs t + risen ys t
risen_append [] ys t = sym (omega arith)
risen_append (x ∷ xs) ys t = let e : risen (xs ++ ys) t ≡ risen xs t + risen ys t = risen_append xs ys t in omega arith

take_suc : (js : List Jump) (i : ℕ) (j : Jump) (t : ℕ) → slice_get js i ≡ Some j → risen (take (suc i) js) t ≡ risen (take i js) t + share j t
take_suc [] i j t at = absurd (none-some j at)
take_suc (x ∷ js) zero j t at = let e : share x t ≡ share j t = ap (λ y. share y t) (same_Some x j at) in omega arith
take_suc (x ∷ js) (suc i) j t at = let e : risen (take (suc i) js) t ≡ risen (take i js) t + share j t = take_suc js i j t at in omega arith

pub take_more : (js : List Jump) (i : ℕ) (j : Jump) (t : ℕ) → slice_get js i ≡ Some j → risen (take (i + 1) js) t ≡ risen (take i js) t + share j t
take_more js i j t at = ap (λ k. risen (take k js) t) (add-one i) ∙ take_suc js i j t at

pub take_within : (js : List Jump) (i t : ℕ) → risen (take i js) t ≤ risen js t
take_within [] zero t = omega arith
take_within [] (suc i) t = omega arith
take_within (x ∷ js) zero t = omega arith
take_within (x ∷ js) (suc i) t = let e : risen (take i js) t ≤ risen js t = take_within js i t in omega arith

share_rises : (j : Jump) (s t : ℕ) → s ≤ t → share j s ≤ share j t
share_rises j s t le = grind (arith, nat_tests)

pub risen_rises : (js : List Jump) (s t : ℕ) → s ≤ t → risen js s ≤ risen js t
risen_rises [] s t le = omega arith
risen_rises (x ∷ js) s t le = let e : risen js s ≤ risen js t = risen_rises js s t le in let h : share x s ≤ share x t = share_rises x s t le in omega arith

pub length-values_from : (f : ℕ → ℕ) (t n : ℕ) → length (values_from f t n) ≡ n
length-values_from f t zero = refl
length-values_from f t (suc n) = ap suc (length-values_from f (suc t) n)

pub at-values_from : (f : ℕ → ℕ) (t n i : ℕ) → i < n → slice_index (values_from f t n) i ≡ f (t + i)
at-values_from f t zero i lt = absurd (omega arith)
at-values_from f t (suc n) zero lt = ap f (let e : t ≡ t + 0 = omega arith in e)
at-values_from f t (suc n) (suc i) lt = at-values_from f (suc t) n i (omega arith) ∙ ap f (let e : suc t + i ≡ t + suc i = omega arith in e)

pub same_values_from : (f g : ℕ → ℕ) (t n : ℕ) → ((s : ℕ) → f s ≡ g s) → values_from f t n ≡ values_from g t n
same_values_from f g t zero h = refl
same_values_from f g t (suc n) h = ap (λ y. y ∷ values_from f (suc t) n) (h t) ∙ ap (λ ys. g t ∷ ys) (same_values_from f g (suc t) n h)

pub flat_values : (b t n : ℕ) → values_from (λ t. b + 0) t n ≡ replicate n b
flat_values b t zero = refl
flat_values b t (suc n) = ap (λ y. y ∷ values_from (λ t. b + 0) (suc t) n) (let e : b + 0 ≡ b = omega arith in e) ∙ ap (λ ys. b ∷ ys) (flat_values b (suc t) n)

raise_all : (f : ℕ → ℕ) (offset w t n : ℕ) → offset < t → raise 0 w (values_from f t n) ≡ values_from (λ s. f s + cond (nat_lt offset s) w 0) t n
raise_all f offset w t zero lt = refl
raise_all f offset w t (suc n) lt =
    ap (λ y. y ∷ raise 0 w (values_from f (suc t) n))
    (let e : f t + w ≡ f t + cond (nat_lt offset t) w 0 = ap (λ b. f t + cond b w 0) (let k : true ≡ nat_lt offset t = grind (arith, nat_tests) in k) in e)
    ∙ ap (λ ys. (f t + cond (nat_lt offset t) w 0) ∷ ys) (raise_all f offset w (suc t) n (omega arith))

raise_some : (f : ℕ → ℕ) (offset w k t n : ℕ) → offset + 1 ≡ k + t → raise k w (values_from f t n) ≡ values_from (λ s. f s + cond (nat_lt offset s) w 0) t n
raise_some f offset w k t zero e = refl
raise_some f offset w zero t (suc n) e = raise_all f offset w t (suc n) (omega arith)
raise_some f offset w (suc k) t (suc n) e =
    ap (λ y. y ∷ raise k w (values_from f (suc t) n))
    (let g : f t ≡ f t + cond (nat_lt offset t) w 0 = (let z : f t ≡ f t + 0 = omega arith in z)
    ∙ ap (λ b. f t + cond b w 0) (let h : false ≡ nat_lt offset t = grind (arith, nat_tests) in h) in g)
    ∙ ap (λ ys. (f t + cond (nat_lt offset t) w 0) ∷ ys) (raise_some f offset w k (suc t) n (omega arith))

-- the values of the code's new jumps are the old values, raised
pub raise_values : (bound base offset w : ℕ) (js ks : List Jump) → ((t : ℕ) → risen ks t ≡ risen js t + cond (nat_lt offset t) w 0) → values bound base ks ≡ raise offset w (values bound base js)
raise_values bound base offset w js ks h =
    same_values_from (λ t. base + risen ks t) (λ s. (base + risen js s) + cond (nat_lt offset s) w 0) 1 bound (λ s. let e : risen ks s ≡ risen js s + cond (nat_lt offset s) w 0 = h s in omega arith)
    ∙ sym (raise_some (λ t. base + risen js t) offset w offset 1 bound refl)

pub value_of_jumps : (bound base t : ℕ) (js : List Jump) → 1 ≤ t → t ≤ bound → value_at (values bound base js) t ≡ base + risen js t
unfolding value_at
value_of_jumps bound base t js from to =
    at-values_from (λ s. base + risen js s) 1 bound (t - 1) (omega arith)
    ∙ ap (λ s. base + risen js s) (let e : 1 + (t - 1) ≡ t = omega arith in e)

parts_at : (s t : ℕ) (j : Jump) (js : List Jump) (b c : Bool) → nat_le j.after s ≡ b → nat_lt s j.after ≡ c → risen (up_to s js) t + risen (past s js) t ≡ risen js t
    → risen (cond b (j ∷ up_to s js) (up_to s js)) t + risen (cond c (j ∷ past s js) (past s js)) t ≡ share j t + risen js t
parts_at s t j js true true p q e = absurd (grind (arith, nat_tests))
parts_at s t j js true false p q e = omega arith
parts_at s t j js false true p q e = omega arith
parts_at s t j js false false p q e = absurd (grind (arith, nat_tests))

pub parts : (s t : ℕ) (js : List Jump) → risen (up_to s js) t + risen (past s js) t ≡ risen js t
parts s t [] = refl
parts s t (j ∷ js) = parts_at s t j js (nat_le j.after s) (nat_lt s j.after) refl refl (parts s t js)

kept_up_to : (x : Jump) (xs ys zs : List Jump) (b : Bool) → xs ≡ ys ++ zs → cond b (x ∷ xs) xs ≡ cond b (x ∷ ys) ys ++ zs
kept_up_to x xs ys zs true e = ap (λ l. x ∷ l) e
kept_up_to x xs ys zs false e = e

up_to_suc : (s i : ℕ) (j : Jump) (js : List Jump) → slice_get js i ≡ Some j → up_to s (take (suc i) js) ≡ up_to s (take i js) ++ cond (nat_le j.after s) (j ∷ []) []
up_to_suc s i j [] at = absurd (none-some j at)
up_to_suc s zero j (x ∷ js) at = ap (λ y. cond (nat_le y.after s) (y ∷ []) []) (same_Some x j at)
up_to_suc s (suc i) j (x ∷ js) at = kept_up_to x (up_to s (take (suc i) js)) (up_to s (take i js)) (cond (nat_le j.after s) (j ∷ []) []) (nat_le x.after s) (up_to_suc s i j js at)

pub up_to_more : (s i : ℕ) (j : Jump) (js : List Jump) → slice_get js i ≡ Some j → up_to s (take (i + 1) js) ≡ up_to s (take i js) ++ cond (nat_le j.after s) (j ∷ []) []
up_to_more s i j js at = ap (λ k. up_to s (take k js)) (add-one i) ∙ up_to_suc s i j js at

kept_past : (x : Jump) (xs ys zs : List Jump) (b : Bool) → xs ≡ ys ++ zs → cond b (x ∷ xs) xs ≡ cond b (x ∷ ys) ys ++ zs
kept_past x xs ys zs true e = ap (λ l. x ∷ l) e
kept_past x xs ys zs false e = e

past_suc : (s i : ℕ) (j : Jump) (js : List Jump) → slice_get js i ≡ Some j → past s (take (suc i) js) ≡ past s (take i js) ++ cond (nat_lt s j.after) (j ∷ []) []
past_suc s i j [] at = absurd (none-some j at)
past_suc s zero j (x ∷ js) at = ap (λ y. cond (nat_lt s y.after) (y ∷ []) []) (same_Some x j at)
past_suc s (suc i) j (x ∷ js) at = kept_past x (past s (take (suc i) js)) (past s (take i js)) (cond (nat_lt s j.after) (j ∷ []) []) (nat_lt s x.after) (past_suc s i j js at)

pub past_more : (s i : ℕ) (j : Jump) (js : List Jump) → slice_get js i ≡ Some j → past s (take (i + 1) js) ≡ past s (take i js) ++ cond (nat_lt s j.after) (j ∷ []) []
past_more s i j js at = ap (λ k. past s (take k js)) (add-one i) ∙ past_suc s i j js at

-- in order, the new jump between
weaker : (a b : ℕ) (xs : List Jump) → a ≤ b → AreFrom b xs → AreFrom a xs
weaker a b [] l f = tt
weaker a b (x ∷ xs) l f = let h : b ≤ x.after = f.0 in (omega arith, f.1)

up_to_pick : (r s : ℕ) (j : Jump) (js ks : List Jump) (new : Jump) (b : Bool) → nat_le j.after s ≡ b → r ≤ j.after
    → (j.after ≤ s → AreFrom j.after (up_to s js ++ new ∷ ks)) → AreFrom r (up_to s js ++ new ∷ ks) → AreFrom r (cond b (j ∷ up_to s js) (up_to s js) ++ new ∷ ks)
up_to_pick r s j js ks new true p l yes_then no_then = (l, yes_then (grind (arith, nat_tests)))
up_to_pick r s j js ks new false p l yes_then no_then = no_then

from_up_to : (r s : ℕ) (js ks : List Jump) (new : Jump) → new.after ≡ s → r ≤ s → AreFrom r js → AreFrom s ks → AreFrom r (up_to s js ++ new ∷ ks)
from_up_to r s [] ks new e le h k = (omega arith, subst (λ (x : ℕ). AreFrom x ks) (sym e) k)
from_up_to r s (j ∷ js) ks new e le h k =
    up_to_pick r s j js ks new (nat_le j.after s) refl h.0 (λ l. from_up_to j.after s js ks new e l h.1 k) (from_up_to r s js ks new e le (weaker r j.after js h.0 h.1) k)

past_pick : (a s : ℕ) (j : Jump) (js : List Jump) (b : Bool) → nat_lt s j.after ≡ b → (s < j.after → a ≤ j.after) → (s < j.after → AreFrom j.after (past s js))
    → (j.after ≤ s → AreFrom a (past s js)) → AreFrom a (cond b (j ∷ past s js) (past s js))
past_pick a s j js true p l f g = (l (grind (arith, nat_tests)), f (grind (arith, nat_tests)))
past_pick a s j js false p l f g = g (grind (arith, nat_tests))

all_past : (a s : ℕ) (xs : List Jump) → s < a → AreFrom a xs → AreFrom a (past s xs)
all_past a s [] lt f = tt
all_past a s (x ∷ xs) lt f =
    let h : a ≤ x.after = f.0 in
    past_pick a s x xs (nat_lt s x.after) refl (λ l. h) (λ l. all_past x.after s xs l f.1) (λ l. absurd (omega arith))

from_past : (r s : ℕ) (js : List Jump) → AreFrom r js → AreFrom s (past s js)
from_past r s [] h = tt
from_past r s (j ∷ js) h = past_pick s s j js (nat_lt s j.after) refl (λ l. omega arith) (λ l. all_past j.after s js l h.1) (λ l. from_past j.after s js h.1)

pub from_placed : (r s : ℕ) (js : List Jump) (new : Jump) → new.after ≡ s → r ≤ s → AreFrom r js → AreFrom r (up_to s js ++ new ∷ past s js)
from_placed r s js new e le h = from_up_to r s js (past s js) new e le h (from_past r s js h)

pub risen_placed : (s w t : ℕ) (js : List Jump) (new : Jump) → new.after ≡ s → new.rise ≡ w → risen (up_to s js ++ new ∷ past s js) t ≡ risen js t + cond (nat_lt s t) w 0
risen_placed s w t js new e f =
    let a : risen (up_to s js ++ new ∷ past s js) t ≡ risen (up_to s js) t + risen (new ∷ past s js) t = risen_append (up_to s js) (new ∷ past s js) t in
    let b : risen (up_to s js) t + risen (past s js) t ≡ risen js t = parts s t js in
    let g : share new t ≡ cond (nat_lt s t) w 0 = ap (λ x. cond (nat_lt x t) new.rise 0) e ∙ ap (λ y. cond (nat_lt s t) y 0) f in
    omega arith

pub share_in : (j : Jump) (t : ℕ) → j.after < t → share j t ≡ j.rise
share_in j t lt = ap (λ b. cond b j.rise 0) (let k : nat_lt j.after t ≡ true = grind (arith, nat_tests) in k)

pub share_out : (j : Jump) (t : ℕ) → t ≤ j.after → share j t ≡ 0
share_out j t le = ap (λ b. cond b j.rise 0) (let k : nat_lt j.after t ≡ false = grind (arith, nat_tests) in k)

append_nil : {A : Type 0} (xs : List A) → xs ++ [] ≡ xs
append_nil [] = refl
append_nil (x ∷ xs) = ap (λ ys. x ∷ ys) (append_nil xs)

pub up_to_in : (s i : ℕ) (j : Jump) (js : List Jump) → slice_get js i ≡ Some j → j.after ≤ s → up_to s (take (i + 1) js) ≡ up_to s (take i js) ++ j ∷ []
up_to_in s i j js at le = up_to_more s i j js at ∙ ap (λ b. up_to s (take i js) ++ cond b (j ∷ []) []) (let k : nat_le j.after s ≡ true = grind (arith, nat_tests) in k)

pub up_to_out : (s i : ℕ) (j : Jump) (js : List Jump) → slice_get js i ≡ Some j → s < j.after → up_to s (take (i + 1) js) ≡ up_to s (take i js)
up_to_out s i j js at lt = up_to_more s i j js at
    ∙ (ap (λ b. up_to s (take i js) ++ cond b (j ∷ []) []) (let k : nat_le j.after s ≡ false = grind (arith, nat_tests) in k) ∙ append_nil (up_to s (take i js)))

pub past_in : (s i : ℕ) (j : Jump) (js : List Jump) → slice_get js i ≡ Some j → s < j.after → past s (take (i + 1) js) ≡ past s (take i js) ++ j ∷ []
past_in s i j js at lt = past_more s i j js at ∙ ap (λ b. past s (take i js) ++ cond b (j ∷ []) []) (let k : nat_lt s j.after ≡ true = grind (arith, nat_tests) in k)

pub past_out : (s i : ℕ) (j : Jump) (js : List Jump) → slice_get js i ≡ Some j → j.after ≤ s → past s (take (i + 1) js) ≡ past s (take i js)
past_out s i j js at le = past_more s i j js at
    ∙ (ap (λ b. past s (take i js) ++ cond b (j ∷ []) []) (let k : nat_lt s j.after ≡ false = grind (arith, nat_tests) in k) ∙ append_nil (past s (take i js)))

pub append_after : {A : Type 0} (xs : List A) (y : A) (ys zs : List A) → (xs ++ y ∷ ys) ++ zs ≡ xs ++ y ∷ (ys ++ zs)
append_after [] y ys zs = refl
append_after (x ∷ xs) y ys zs = ap (λ l. x ∷ l) (append_after xs y ys zs)

pub take_all : {A : Type 0} (js : List A) (i : ℕ) → length js ≤ i → take i js ≡ js
take_all [] zero h = refl
take_all [] (suc i) h = refl
take_all (x ∷ js) zero h = absurd (let k : length js + 1 ≤ 0 = omega arith in omega arith)
take_all (x ∷ js) (suc i) h = ap (λ l. x ∷ l) (take_all js i (omega arith))

pub share_small : (j : Jump) (t : ℕ) → share j t ≤ j.rise
share_small j t = grind (arith, nat_tests)

-- totals
pub total_append : (xs ys : List Jump) → total_rise (xs ++ ys) ≡ total_rise xs + total_rise ys
total_append [] ys = sym (omega arith)
total_append (x ∷ xs) ys = let e : total_rise (xs ++ ys) ≡ total_rise xs + total_rise ys = total_append xs ys in omega arith

total_parts_at : (s : ℕ) (j : Jump) (js : List Jump) (b c : Bool) → nat_le j.after s ≡ b → nat_lt s j.after ≡ c
    → total_rise (up_to s js) + total_rise (past s js) ≡ total_rise js
    → total_rise (cond b (j ∷ up_to s js) (up_to s js)) + total_rise (cond c (j ∷ past s js) (past s js)) ≡ j.rise + total_rise js
total_parts_at s j js true true p q e = absurd (grind (arith, nat_tests))
total_parts_at s j js true false p q e = omega arith
total_parts_at s j js false true p q e = omega arith
total_parts_at s j js false false p q e = absurd (grind (arith, nat_tests))

total_parts : (s : ℕ) (js : List Jump) → total_rise (up_to s js) + total_rise (past s js) ≡ total_rise js
total_parts s [] = refl
total_parts s (j ∷ js) = total_parts_at s j js (nat_le j.after s) (nat_lt s j.after) refl refl (total_parts s js)

pub total_placed : (s : ℕ) (js : List Jump) (new : Jump) → total_rise (up_to s js ++ new ∷ past s js) ≡ total_rise js + new.rise
total_placed s js new =
    let a : total_rise (up_to s js ++ new ∷ past s js) ≡ total_rise (up_to s js) + total_rise (new ∷ past s js) = total_append (up_to s js) (new ∷ past s js) in
    let b : total_rise (up_to s js) + total_rise (past s js) ≡ total_rise js = total_parts s js in
    omega arith

total_suc : (js : List Jump) (i : ℕ) (j : Jump) → slice_get js i ≡ Some j → total_rise (take (suc i) js) ≡ total_rise (take i js) + j.rise
total_suc [] i j at = absurd (none-some j at)
total_suc (x ∷ js) zero j at = let e : x.rise ≡ j.rise = ap (λ (y : Jump). y.rise) (same_Some x j at) in omega arith
total_suc (x ∷ js) (suc i) j at = let e : total_rise (take (suc i) js) ≡ total_rise (take i js) + j.rise = total_suc js i j at in omega arith

pub total_more : (js : List Jump) (i : ℕ) (j : Jump) → slice_get js i ≡ Some j → total_rise (take (i + 1) js) ≡ total_rise (take i js) + j.rise
total_more js i j at = ap (λ k. total_rise (take k js)) (add-one i) ∙ total_suc js i j at

pub total_within : (js : List Jump) (i : ℕ) → total_rise (take i js) ≤ total_rise js
total_within [] zero = omega arith
total_within [] (suc i) = omega arith
total_within (x ∷ js) zero = omega arith
total_within (x ∷ js) (suc i) = let e : total_rise (take i js) ≤ total_rise js = total_within js i in omega arith

pub risen_total : (js : List Jump) (t : ℕ) → risen js t ≤ total_rise js
risen_total [] t = omega arith
risen_total (x ∷ js) t = let e : risen js t ≤ total_rise js = risen_total js t in let s : share x t ≤ x.rise = share_small x t in omega arith

-- all jumps come before the bound
pub risen_all : (n t : ℕ) (js : List Jump) → AreJumpsBefore n js → n ≤ t → risen js t ≡ total_rise js
risen_all n t [] h le = refl
risen_all n t (x ∷ js) h le =
    let b : x.after < n = h.0 in
    let s : share x t ≡ x.rise = share_in x t (omega arith) in
    let e : risen js t ≡ total_rise js = risen_all n t js h.1 le in
    omega arith

pub below_at : (n : ℕ) (js : List Jump) (i : ℕ) (j : Jump) → AreJumpsBefore n js → slice_get js i ≡ Some j → j.after < n
below_at n [] i j h at = absurd (none-some j at)
below_at n (x ∷ js) zero j h at = subst (λ (y : Jump). y.after < n) (same_Some x j at) h.0
below_at n (x ∷ js) (suc i) j h at = below_at n js i j h.1 at

pub below_append : (n : ℕ) (xs ys : List Jump) → AreJumpsBefore n xs → AreJumpsBefore n ys → AreJumpsBefore n (xs ++ ys)
below_append n [] ys h k = k
below_append n (x ∷ xs) ys h k = (h.0, below_append n xs ys h.1 k)

pub below_later : (m n : ℕ) (js : List Jump) → m ≤ n → AreJumpsBefore m js → AreJumpsBefore n js
below_later m n [] le h = tt
below_later m n (x ∷ js) le h = let b : x.after < m = h.0 in (omega arith, below_later m n js le h.1)

below_up_to_at : (n s : ℕ) (j : Jump) (js : List Jump) (b : Bool) → j.after < n → AreJumpsBefore n js → AreJumpsBefore n (cond b (j ∷ js) js)
below_up_to_at n s j js true l h = (l, h)
below_up_to_at n s j js false l h = h

below_up_to : (n s : ℕ) (js : List Jump) → AreJumpsBefore n js → AreJumpsBefore n (up_to s js)
below_up_to n s [] h = tt
below_up_to n s (j ∷ js) h = below_up_to_at n s j (up_to s js) (nat_le j.after s) h.0 (below_up_to n s js h.1)

below_past : (n s : ℕ) (js : List Jump) → AreJumpsBefore n js → AreJumpsBefore n (past s js)
below_past n s [] h = tt
below_past n s (j ∷ js) h = below_up_to_at n s j (past s js) (nat_lt s j.after) h.0 (below_past n s js h.1)

pub below_placed : (n s : ℕ) (js : List Jump) (new : Jump) → new.after < n → AreJumpsBefore n js → AreJumpsBefore n (up_to s js ++ new ∷ past s js)
below_placed n s js new l h = below_append n (up_to s js) (new ∷ past s js) (below_up_to n s js h) (l, below_past n s js h)

-- places in order
pub after_later : (s : ℕ) (js : List Jump) (i : ℕ) (j : Jump) → AreFrom s js → slice_get js i ≡ Some j → s ≤ j.after
after_later s [] i j h at = absurd (none-some j at)
after_later s (x ∷ js) zero j h at = subst (λ (y : Jump). s ≤ y.after) (same_Some x j at) h.0
after_later s (x ∷ js) (suc i) j h at = let a : s ≤ x.after = h.0 in let b : x.after ≤ j.after = after_later x.after js i j h.1 at in omega arith

next_suc : (s : ℕ) (js : List Jump) (i : ℕ) (j k : Jump) → AreFrom s js → slice_get js i ≡ Some j → slice_get js (suc i) ≡ Some k → j.after ≤ k.after
next_suc s [] i j k h at next = absurd (none-some j at)
next_suc s (x ∷ js) zero j k h at next = subst (λ (y : Jump). y.after ≤ k.after) (same_Some x j at) (after_later x.after js zero k h.1 next)
next_suc s (x ∷ js) (suc i) j k h at next = next_suc x.after js i j k h.1 at next

pub next_later : (s : ℕ) (js : List Jump) (i : ℕ) (j k : Jump) → AreFrom s js → slice_get js i ≡ Some j → slice_get js (i + 1) ≡ Some k → j.after ≤ k.after
next_later s js i j k h at next = next_suc s js i j k h at (ap (λ n. slice_get js n) (sym (add-one i)) ∙ next)

-- at a time later than a jump all in front of it have risen
pub taken_past : (s : ℕ) (js : List Jump) (i : ℕ) (j : Jump) (t : ℕ) → AreFrom s js → slice_get js i ≡ Some j → j.after < t → risen (take i js) t ≡ total_rise (take i js)
taken_past s [] i j t h at lt = absurd (none-some j at)
taken_past s (x ∷ js) zero j t h at lt = refl
taken_past s (x ∷ js) (suc i) j t h at lt =
    let b : x.after ≤ j.after = after_later x.after js i j h.1 at in
    let e : share x t ≡ x.rise = share_in x t (omega arith) in
    let r : risen (take i js) t ≡ total_rise (take i js) = taken_past x.after js i j t h.1 at lt in
    omega arith

pub taken_more : (s : ℕ) (js : List Jump) (i : ℕ) (j : Jump) (t : ℕ) → AreFrom s js → slice_get js i ≡ Some j → j.after < t → risen (take (i + 1) js) t ≡ total_rise (take (i + 1) js)
taken_more s js i j t h at lt =
    let a : risen (take (i + 1) js) t ≡ risen (take i js) t + share j t = take_more js i j t at in
    let b : total_rise (take (i + 1) js) ≡ total_rise (take i js) + j.rise = total_more js i j at in
    let e : share j t ≡ j.rise = share_in j t lt in
    let r : risen (take i js) t ≡ total_rise (take i js) = taken_past s js i j t h at lt in
    omega arith

pub none_risen : (s : ℕ) (js : List Jump) (t : ℕ) → AreFrom s js → t ≤ s → risen js t ≡ 0
none_risen s [] t h le = refl
none_risen s (x ∷ js) t h le =
    let a : s ≤ x.after = h.0 in
    let e : share x t ≡ 0 = share_out x t (omega arith) in
    let r : risen js t ≡ 0 = none_risen x.after js t h.1 (omega arith) in
    omega arith

-- at a time up to a jump only those in front of it have risen
pub left_out : (s : ℕ) (js : List Jump) (i : ℕ) (j : Jump) (t : ℕ) → AreFrom s js → slice_get js i ≡ Some j → t ≤ j.after → risen js t ≡ risen (take i js) t
left_out s [] i j t h at le = absurd (none-some j at)
left_out s (x ∷ js) zero j t h at le = none_risen x.after (x ∷ js) t (omega arith, h.1) (subst (λ (y : Jump). t ≤ y.after) (sym (same_Some x j at)) le)
left_out s (x ∷ js) (suc i) j t h at le = let r : risen js t ≡ risen (take i js) t = left_out x.after js i j t h.1 at le in omega arith

-- values and the raised values
pub raise_base : (f : ℕ → ℕ) (w t n : ℕ) → raise 0 w (values_from f t n) ≡ values_from (λ s. f s + w) t n
raise_base f w t zero = refl
raise_base f w t (suc n) = ap (λ ys. (f t + w) ∷ ys) (raise_base f w (suc t) n)

pub base_raised : (bound base w : ℕ) (js : List Jump) → values bound (base + w) js ≡ raise 0 w (values bound base js)
base_raised bound base w js =
    same_values_from (λ t. (base + w) + risen js t) (λ t. (base + risen js t) + w) 1 bound (λ s. omega arith)
    ∙ sym (raise_base (λ t. base + risen js t) w 1 bound)

pub raise_out : (k w : ℕ) (xs : List ℕ) → length xs ≤ k → raise k w xs ≡ xs
raise_out k w [] le = refl
raise_out zero w (x ∷ xs) le = absurd (let h : length xs + 1 ≤ 0 = omega arith in omega arith)
raise_out (suc k) w (x ∷ xs) le = ap (λ ys. x ∷ ys) (raise_out k w xs (omega arith))
