-- Places among the jumps, and the values there.
use Rattle.std.proofs.Common.{◌≡◌, ℕ, suc, zero, ◌+◌, ◌-◌, ◌<◌, ◌≤◌, Bool, true, false, Some, List, [], ◌∷◌, ◌++◌, length, take, refl, sym, ap, ◌∙◌, subst, arith, add-one}
use Rattle.std.specs.Prelude.{slice_get, slice_index_or, slice_index, nat_lt}
use Rattle.std.proofs.lemmas.Bool.Decides.{nat_tests}
use Rattle.std.proofs.lemmas.Option.{none-some, same_Some, slice_get-get_or, get_or_from_slice_get}
use Rattle.std.specs.List.Sorted.{IsNonDecreasingBy}
use Rattle.std.proofs.lemmas.List.Sorted.{IsNonDecreasingBy-from_all_adjacent}
use Rattle.drt_steps.specs.declared.jump.Jump.{Jump}
use Rattle.drt_steps.specs.Jumps.{risen, total_rise, levels, values, AreFrom, AreKept, IsFunctionKept, IsPlaceReached, IsJumpPlace}
use Rattle.drt_steps.specs.Values.{value_at}
use Rattle.drt_steps.proofs.Jumps.{taken_more, left_out, take_all, next_later, risen_total, risen_rises, value_of_jumps}
use Rattle.drt_steps.proofs.Kept.{long}

-- the jump at a place
abbrev pub jump_at : List Jump → ℕ → Jump
jump_at js i = slice_index_or js i (record { after = 0; rise = 0 })

pub jump_there : (js : List Jump) (i : ℕ) → i < length js → slice_get js i ≡ Some (jump_at js i)
jump_there js i lt = slice_get-get_or js i (record { after = 0; rise = 0 }) lt

-- the jumps are in order of time, as a list of numbers is
pub in_order : (js : List Jump) → AreFrom 1 js → IsNonDecreasingBy (λ (j : Jump). j.after) js
in_order js order = IsNonDecreasingBy-from_all_adjacent (λ (j : Jump). j.after) js
    (λ k d lt. next_later 1 js k (slice_index_or js k d) (slice_index_or js (k + 1) d) order (slice_get-get_or js k d (omega arith)) (slice_get-get_or js (k + 1) d (omega arith)))

-- those in front of a place have risen
reached_all : (js : List Jump) (t i : ℕ) → AreFrom 1 js → IsPlaceReached js t i → risen (take i js) t ≡ total_rise (take i js)
reached_all [] t zero order r = refl
reached_all (x ∷ js) t zero order r = refl
reached_all js t (suc i) order r =
    let w : suc i ≤ length js = r.within in
    let at : slice_get js i ≡ Some (jump_at js i) = jump_there js i (omega arith) in
    subst (λ (k : ℕ). risen (take k js) t ≡ total_rise (take k js)) (add-one i) (taken_more 1 js i (jump_at js i) t order at (r.before i (jump_at js i) (add-one i) at))

place_cut : (js : List Jump) (t i : ℕ) (inside : Bool) → nat_lt i (length js) ≡ inside → AreFrom 1 js → IsJumpPlace js t i → risen js t ≡ risen (take i js) t
place_cut js t i true q order p =
    let at : slice_get js i ≡ Some (jump_at js i) = jump_there js i (grind (arith, nat_tests)) in
    left_out 1 js i (jump_at js i) t order at (p.later (jump_at js i) at)
place_cut js t i false q order p = ap (λ ks. risen ks t) (sym (take_all js i (grind (arith, nat_tests))))

pub place_risen : (js : List Jump) (t i : ℕ) → AreFrom 1 js → IsJumpPlace js t i → risen js t ≡ total_rise (take i js)
place_risen js t i order p = place_cut js t i (nat_lt i (length js)) refl order p ∙ reached_all js t i order p.reached

-- a place goes for each earlier time that is later than the jump in front of it
pub place_earlier : (js : List Jump) (s t i : ℕ) → IsJumpPlace js t i → s ≤ t → ((k : ℕ) (j : Jump) → k + 1 ≡ i → slice_get js k ≡ Some j → j.after < s) → IsJumpPlace js s i
place_earlier js s t i p le before = record {
  reached = record { within = p.reached.within; before = before };
  later = λ j at. let l : t ≤ j.after = p.later j at in omega arith;
}

-- since the jump in front of a time's place nothing rises up to the time
pub place_level : (js : List Jump) (s t i : ℕ) → AreFrom 1 js → IsJumpPlace js t i → s ≤ t → ((k : ℕ) (j : Jump) → k + 1 ≡ i → slice_get js k ≡ Some j → j.after < s) → risen js s ≡ risen js t
place_level js s t i order p le before = place_risen js s i order (place_earlier js s t i p le before) ∙ sym (place_risen js t i order p)

-- the jump in front of a place
pub front_is : (js : List Jump) (i k : ℕ) (j : Jump) → k + 1 ≡ i → slice_get js k ≡ Some j → jump_at js (i - 1) ≡ j
front_is js i k j e at = ap (λ n. jump_at js n) (let h : i - 1 ≡ k = omega arith in h) ∙ get_or_from_slice_get js k j (record { after = 0; rise = 0 }) at

pub front_before : (js : List Jump) (t i : ℕ) → IsPlaceReached js t i → (i ≡ 0 → ⊥) → (jump_at js (i - 1)).after < t
front_before js t i r ne =
    let w : i ≤ length js = r.within in
    r.before (i - 1) (jump_at js (i - 1)) (omega (arith, ne)) (jump_there js (i - 1) (omega (arith, ne)))

-- the values from each jump on
pub levels_long : (p : ℕ) (js : List Jump) → length (levels p js) ≡ length js
levels_long p [] = refl
levels_long p (j ∷ js) = ap suc (levels_long (p + j.rise) js)

pub level_is : (p : ℕ) (js : List Jump) (i : ℕ) → i ≤ length js → slice_index (p ∷ levels p js) i ≡ p + total_rise (take i js)
level_is p [] zero le = let e : p ≡ p + 0 = omega arith in e
level_is p (j ∷ js) zero le = let e : p ≡ p + 0 = omega arith in e
level_is p [] (suc i) le = absurd (omega arith)
level_is p (j ∷ js) (suc i) le =
    let a : slice_index ((p + j.rise) ∷ levels (p + j.rise) js) i ≡ (p + j.rise) + total_rise (take i js) = level_is (p + j.rise) js i (let h : suc i ≤ suc (length js) = le in omega arith) in
    a ∙ (let e : (p + j.rise) + total_rise (take i js) ≡ p + (j.rise + total_rise (take i js)) = omega arith in e)

levels_suc : (p : ℕ) (js : List Jump) (i : ℕ) (j : Jump) → slice_get js i ≡ Some j → levels p (take (suc i) js) ≡ levels p (take i js) ++ (p + total_rise (take i js) + j.rise) ∷ []
levels_suc p [] i j at = absurd (none-some j at)
levels_suc p (x ∷ js) zero j at =
    ap (λ (y : Jump). (p + y.rise) ∷ []) (same_Some x j at) ∙ ap (λ n. (n + j.rise) ∷ []) (let e : p ≡ p + 0 = omega arith in e)
levels_suc p (x ∷ js) (suc i) j at =
    ap (λ ls. (p + x.rise) ∷ ls) (levels_suc (p + x.rise) js i j at)
    ∙ ap (λ n. (p + x.rise) ∷ (levels (p + x.rise) (take i js) ++ (n + j.rise) ∷ [])) (let e : p + x.rise + total_rise (take i js) ≡ p + (x.rise + total_rise (take i js)) = omega arith in e)

pub levels_more : (p : ℕ) (js : List Jump) (i : ℕ) (j : Jump) → slice_get js i ≡ Some j → levels p (take (i + 1) js) ≡ levels p (take i js) ++ (p + total_rise (take i js) + j.rise) ∷ []
levels_more p js i j at = ap (λ k. levels p (take k js)) (add-one i) ∙ levels_suc p js i j at

-- the value at a time is that after the jumps in front of its place
pub value_there : (n p : ℕ) (js : List Jump) (ls xs : List ℕ) (t i : ℕ) → values n p js ≡ xs → IsFunctionKept n p js ls → 1 ≤ t → t ≤ length xs → IsJumpPlace js t i
    → slice_index (p ∷ ls) i ≡ value_at xs t
value_there n p js ls xs t i e k from to place =
    let is : n ≡ length xs = long n p js xs e in
    let r : risen js t ≡ total_rise (take i js) = place_risen js t i k.kept.order place in
    ap (λ ms. slice_index (p ∷ ms) i) k.levels_are
    ∙ (level_is p js i place.reached.within
    ∙ (ap (λ z. p + z) (sym r)
    ∙ (sym (value_of_jumps n p t js from (omega arith)) ∙ ap (λ ys. value_at ys t) e)))

pub value_small : (n p : ℕ) (js : List Jump) (xs : List ℕ) (t : ℕ) → values n p js ≡ xs → AreKept n p js → 1 ≤ t → t ≤ length xs → value_at xs t ≤ 1000000000000
value_small n p js xs t e k from to =
    let is : n ≡ length xs = long n p js xs e in
    let v : p + risen js t ≡ value_at xs t = sym (value_of_jumps n p t js from (omega arith)) ∙ ap (λ ys. value_at ys t) e in
    let up : risen js t ≤ total_rise js = risen_total js t in
    let small : p + total_rise js ≤ 1000000000000 = k.small in
    omega arith

pub value_rises : (n p : ℕ) (js : List Jump) (xs : List ℕ) (t s : ℕ) → values n p js ≡ xs → 1 ≤ t → t ≤ s → s ≤ length xs → value_at xs t ≤ value_at xs s
value_rises n p js xs t s e from le to =
    let is : n ≡ length xs = long n p js xs e in
    let v : p + risen js t ≡ value_at xs t = sym (value_of_jumps n p t js from (omega arith)) ∙ ap (λ ys. value_at ys t) e in
    let w : p + risen js s ≡ value_at xs s = sym (value_of_jumps n p s js (omega arith) (omega arith)) ∙ ap (λ ys. value_at ys s) e in
    let up : risen js t ≤ risen js s = risen_rises js t s le in
    omega arith

-- a place in what a call saw of the jumps is one of the values after it
pub place_within : (n p : ℕ) (js : List Jump) (ls : List ℕ) (seen : List Jump) (seen_levels : List ℕ) (t i : ℕ) → IsFunctionKept n p js ls → seen ≡ js → seen_levels ≡ ls
    → IsJumpPlace seen t i → i ≤ length seen_levels
place_within n p js ls seen seen_levels t i k e f place =
    let a : length seen ≡ length js = ap length e in
    let b : length seen_levels ≡ length js = ap length f ∙ (ap length k.levels_are ∙ levels_long p js) in
    let w : i ≤ length seen = place.reached.within in
    omega arith

-- what a call then read is the value at the time
pub value_seen : (n p : ℕ) (js : List Jump) (ls xs : List ℕ) (seen : List Jump) (seen_levels : List ℕ) (t i : ℕ) → values n p js ≡ xs → IsFunctionKept n p js ls → 1 ≤ t
    → t ≤ length xs → seen ≡ js → seen_levels ≡ ls → IsJumpPlace seen t i → slice_index (p ∷ seen_levels) i ≡ value_at xs t
value_seen n p js ls xs seen seen_levels t i v k from to e f place =
    ap (λ ms. slice_index (p ∷ ms) i) f ∙ value_there n p js ls xs t i v k from to (subst (λ (ks : List Jump). IsJumpPlace ks t i) e place)
