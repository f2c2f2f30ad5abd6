-- Multiples of spans, one after another.
use Rattle.std.proofs.Common.{◌≡◌, ℕ, zero, suc, ◌+◌, ◌*◌, ◌/◌, ◌%◌, ◌<◌, ◌≤◌, Bool, true, false, eqb, ◌||◌, cond, List, [], ◌∷◌, ◌++◌, ◌⊎◌, inl, inr, refl, arith, mul-le-mul_left, div-lt_iff_lt-mul}
use Rattle.std.proofs.lemmas.Bool.{cases_lt, eqb-true, eqb-false, or_parts}
use Rattle.std.proofs.lemmas.Nat.{div-add-mod', le-div}
use Rattle.std.proofs.Math.Nat.{mul-mod_left, div-mul-le_self, div-le_self}
use Rattle.drt_horizon.specs.declared.cycle_turns.CycleTurn.{CycleTurn}
use Rattle.drt_horizon.specs.CycleTurns.{is_step, IsStepTime, steps_to, turned, HasNoOverloadBelow, IsNextStepTime, AreCycleTurns}

apart : (x y : ℕ) → (x ≡ y → ⊥) → eqb x y ≡ false
apart x y differ = go (eqb x y) refl
  where
    go : (b : Bool) → eqb x y ≡ b → b ≡ false
    go true e = absurd (differ (eqb-true x y e))
    go false e = refl

-- In plain numbers: a multiple of p after q * p is at least the next one.
plain : (m q p t s : ℕ) → q * p ≤ t → t < s → m * p ≡ s → s < suc q * p → ⊥
plain m q p t s l k e h = go (cases_lt q m)
  where
    go : (q < m) ⊎ (m ≤ q) → ⊥
    go (inl x) = let f = mul-le-mul_left p x in absurd (omega arith)
    go (inr x) = let f = mul-le-mul_left p x in absurd (omega arith)

-- The first multiple of one span.
pub next_multiple : (c : CycleTurn) (t : ℕ) → 1 ≤ c.span → IsNextStepTime (c ∷ []) t ((t / c.span + 1) * c.span)
unfolding is_step
next_multiple c t some = record {
  after = beyond;
  step = rw (mul-mod_left (t / c.span + 1) c.span) refl;
  first = λ s l m. rw (apart (s % c.span) 0 (λ e. other s l m e)) refl;
}
  where
    beyond : t < (t / c.span + 1) * c.span
    beyond = let l : t / c.span < t / c.span + 1 = omega arith in (div-lt_iff_lt-mul some).0 l

    other : (s : ℕ) → t < s → s < (t / c.span + 1) * c.span → s % c.span ≡ 0 → ⊥
    other s l m e =
        let d = div-add-mod' s c.span in
        plain (s / c.span) (t / c.span) c.span t s (div-mul-le_self t c.span) l (omega arith) (let f : t / c.span + 1 ≡ suc (t / c.span) = omega arith in rw f at m)

step_push : (cycle_turns : List CycleTurn) (c : CycleTurn) (s : ℕ) → is_step (cycle_turns ++ c ∷ []) s ≡ (is_step cycle_turns s || is_step (c ∷ []) s)
unfolding is_step
step_push [] c s = refl
step_push (d ∷ cycle_turns) c s = go (eqb (s % d.span) 0) (step_push cycle_turns c s)
  where
    go : (b : Bool) → is_step (cycle_turns ++ c ∷ []) s ≡ (is_step cycle_turns s || is_step (c ∷ []) s)
        → (b || is_step (cycle_turns ++ c ∷ []) s) ≡ ((b || is_step cycle_turns s) || is_step (c ∷ []) s)
    go true ih = refl
    go false ih = ih

or_left : (a b : Bool) → a ≡ true → (a || b) ≡ true
or_left true b e = refl
or_left false b e = absurd (cc)

or_right : (a b : Bool) → b ≡ true → (a || b) ≡ true
or_right true b e = refl
or_right false b e = e

or_none : (a b : Bool) → a ≡ false → b ≡ false → (a || b) ≡ false
or_none true b e f = absurd (cc)
or_none false b e f = f

-- One more turn whose next time is earlier.
pub next_less : (cycle_turns : List CycleTurn) (c : CycleTurn) (t next other : ℕ) → IsNextStepTime cycle_turns t next → IsNextStepTime (c ∷ []) t other → other < next
    → IsNextStepTime (cycle_turns ++ c ∷ []) t other
next_less cycle_turns c t next other p q l = record {
  after = q.after;
  step = rw step_push (or_right (is_step cycle_turns other) (is_step (c ∷ []) other) q.step);
  first = λ s x y. rw step_push (or_none (is_step cycle_turns s) (is_step (c ∷ []) s) (p.first s x (omega arith)) (q.first s x y));
}

-- One more turn whose next time is no earlier.
pub next_more : (cycle_turns : List CycleTurn) (c : CycleTurn) (t next other : ℕ) → IsNextStepTime cycle_turns t next → IsNextStepTime (c ∷ []) t other → next ≤ other
    → IsNextStepTime (cycle_turns ++ c ∷ []) t next
next_more cycle_turns c t next other p q l = record {
  after = p.after;
  step = rw step_push (or_left (is_step cycle_turns next) (is_step (c ∷ []) next) p.step);
  first = λ s x y. rw step_push (or_none (is_step cycle_turns s) (is_step (c ∷ []) s) (p.first s x y) (q.first s x (omega arith)));
}

count_stays : (cycle_turns : List CycleTurn) (t n : ℕ) → t ≤ n → ((s : ℕ) → t < s → s ≤ n → is_step cycle_turns s ≡ false) → steps_to cycle_turns n ≡ steps_to cycle_turns t
unfolding steps_to
count_stays cycle_turns t zero l none = let e : t ≡ 0 = omega arith in rw e refl
count_stays cycle_turns t (suc n) l none = go (cases_lt t (suc n)) (λ m. count_stays cycle_turns t n m (λ s x y. none s x (omega arith)))
  where
    go : (t < suc n) ⊎ (suc n ≤ t) → (t ≤ n → steps_to cycle_turns n ≡ steps_to cycle_turns t) → cond (is_step cycle_turns (suc n)) 1 0 + steps_to cycle_turns n ≡ steps_to cycle_turns t
    go (inl m) ih = rw (none (suc n) m (omega arith)) (omega (arith, ih (omega arith)))
    go (inr m) ih = let e : t ≡ suc n = omega arith in rw e refl

-- The next step time counts one more.
pub count_more : (cycle_turns : List CycleTurn) (t next : ℕ) → IsNextStepTime cycle_turns t next → steps_to cycle_turns next ≡ steps_to cycle_turns t + 1
unfolding steps_to
count_more cycle_turns t zero is = let a = is.after in absurd (omega arith)
count_more cycle_turns t (suc next) is =
    let a = is.after in
    rw is.step (omega (arith, count_stays cycle_turns t next (omega arith) (λ s x y. is.first s x (omega arith))))

-- No step time is 0.
pub count_none : (cycle_turns : List CycleTurn) → steps_to cycle_turns 0 ≡ 0
unfolding steps_to
count_none cycle_turns = refl

-- between two step times there is nothing to check.
pub clear_to : (cycle_turns : List CycleTurn) (t next : ℕ) → IsNextStepTime cycle_turns t next → HasNoOverloadBelow cycle_turns (t + 1) → HasNoOverloadBelow cycle_turns next
clear_to cycle_turns t next is clear s l step = go (cases_lt t s)
  where
    go : (t < s) ⊎ (s ≤ t) → turned cycle_turns s ≤ s
    go (inl m) = let none = is.first s m l in let some = step.1 in absurd (cc)
    go (inr m) = clear s (omega arith) step

-- The next step time is clear too.
pub clear_more : (cycle_turns : List CycleTurn) (t next : ℕ) → IsNextStepTime cycle_turns t next → HasNoOverloadBelow cycle_turns (t + 1) → turned cycle_turns next ≤ next
    → HasNoOverloadBelow cycle_turns (next + 1)
clear_more cycle_turns t next is clear fits s l step = go (cases_lt s next)
  where
    go : (s < next) ⊎ (next ≤ s) → turned cycle_turns s ≤ s
    go (inl m) = clear_to cycle_turns t next is clear s m step
    go (inr m) = let e : s ≡ next = omega arith in rw e fits

-- The work of one more turn.
pub turned_cons : (c : CycleTurn) (cycle_turns : List CycleTurn) (t : ℕ) → turned (c ∷ cycle_turns) t ≡ t / c.span * c.work + turned cycle_turns t
unfolding turned
turned_cons c cycle_turns t = refl

-- The work of no turns.
pub turned_none : (t : ℕ) → turned [] t ≡ 0
unfolding turned
turned_none t = refl

same_quotient : (t p : ℕ) → 1 ≤ p → (suc t % p ≡ 0 → ⊥) → suc t / p ≡ t / p
same_quotient t p some differ =
    let d = div-add-mod' (suc t) p in
    let r : 1 ≤ suc t % p = positive (suc t % p) differ in
    let x : suc t / p ≤ t / p = le-div (suc t / p) t p some (omega arith) in
    let y : t / p ≤ suc t / p = le-div (t / p) (suc t) p some (let z = div-mul-le_self t p in omega arith) in
    omega arith
  where
    positive : (r : ℕ) → (r ≡ 0 → ⊥) → 1 ≤ r
    positive zero h = absurd (h refl)
    positive (suc r) h = omega arith

turned_stays : (cycle_turns : List CycleTurn) → AreCycleTurns cycle_turns → (t : ℕ) → is_step cycle_turns (suc t) ≡ false → turned cycle_turns (suc t) ≡ turned cycle_turns t
unfolding is_step turned
turned_stays [] are t e = refl
turned_stays (c ∷ cycle_turns) are t e =
    let r = or_parts (eqb (suc t % c.span) 0) (is_step cycle_turns (suc t)) e in
    rw (same_quotient t c.span are.0 (eqb-false (suc t % c.span) 0 r.0), turned_stays cycle_turns are.3 t r.1) refl

-- No work is done by 0.
pub turned_zero : (cycle_turns : List CycleTurn) → AreCycleTurns cycle_turns → turned cycle_turns 0 ≡ 0
unfolding turned
turned_zero [] are = refl
turned_zero (c ∷ cycle_turns) are =
    let z : 0 / c.span ≡ 0 = (let l : 0 / c.span ≤ 0 = div-le_self 0 c.span in omega arith) in
    rw (z, turned_zero cycle_turns are.3) (omega arith)

-- Where whole turns are too much at some time, they are at a step time up to it.
pub steps_decide : (cycle_turns : List CycleTurn) → AreCycleTurns cycle_turns → (t : ℕ) → t < turned cycle_turns t → (s : ℕ) × IsStepTime cycle_turns s × (s ≤ t) × (s < turned cycle_turns s)
steps_decide cycle_turns are zero l = let z = turned_zero cycle_turns are in absurd (omega arith)
steps_decide cycle_turns are (suc t) l = go (is_step cycle_turns (suc t)) refl (λ m. steps_decide cycle_turns are t m)
  where
    go : (b : Bool) → is_step cycle_turns (suc t) ≡ b → (t < turned cycle_turns t → (s : ℕ) × IsStepTime cycle_turns s × (s ≤ t) × (s < turned cycle_turns s))
        → (s : ℕ) × IsStepTime cycle_turns s × (s ≤ suc t) × (s < turned cycle_turns s)
    go true e ih = (suc t, (omega arith, e), omega arith, l)
    go false e ih = let r = ih (omega (arith, turned_stays cycle_turns are t e)) in (r.0, r.1, omega (arith, r.2), r.3)

-- Of t times at most t are step times.
pub steps_few : (cycle_turns : List CycleTurn) (n : ℕ) → steps_to cycle_turns n ≤ n
unfolding steps_to
steps_few cycle_turns zero = omega arith
steps_few cycle_turns (suc n) = go (is_step cycle_turns (suc n)) (steps_few cycle_turns n)
  where
    go : (b : Bool) → steps_to cycle_turns n ≤ n → cond b 1 0 + steps_to cycle_turns n ≤ suc n
    go true ih = omega arith
    go false ih = omega arith
