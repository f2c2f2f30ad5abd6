-- Lists of jumps with one more jump.
use Rattle.std.proofs.Common.{◌≡◌, ℕ, zero, suc, ◌+◌, ◌-◌, ◌<◌, ◌≤◌, ◌⊎◌, inl, inr, max, All, List, [], ◌∷◌, ◌++◌, length, get_or, take, Bool, true, false, cond, refl, sym, ap, subst, ◌∙◌, arith}
use Rattle.std.specs.Prelude.{nat_lt}
use Rattle.std.proofs.Math.Seq.{get_or-append_seam}
use Rattle.std.proofs.lemmas.Bool.{cases_lt, lt-ltb, le-ltb, cond-true, cond-false}
use Rattle.std.proofs.lemmas.List.{get_or_append_left, get_or-take, length-append, length-take, take_more}
use Rattle.std.proofs.lemmas.List.Elements.{All-append, All-cons, All-head, All-nil, All-tail}
use Rattle.drt_states.specs.Tails.{last_work, value_before}
use Rattle.drt_states.specs.declared.claims.Jump.{Jump}
use Rattle.drt_check_states.specs.Crests.{AreUpTo, HasJump}
use Rattle.drt_check_states.specs.Curves.{IsRise, IsRising}
use Rattle.drt_check_states.proofs.Items.{ascending_to}

-- The value with one more jump behind.
last_behind : (known : ℕ) (xs : List Jump) (x : Jump) (t : ℕ) → last_work known (xs ++ x ∷ []) t ≡ cond (nat_lt x.offset t) x.work (last_work known xs t)
unfolding last_work
last_behind known [] x t = refl
last_behind known (y ∷ xs) x t = last_behind (cond (nat_lt y.offset t) y.work known) xs x t

either : (b : Bool) (x y m : ℕ) → x ≤ m → y ≤ m → cond b x y ≤ m
either true x y m l k = l
either false x y m l k = k

-- The value is at most what all jumps are.
last_most : (known m : ℕ) (xs : List Jump) (t : ℕ) → known ≤ m → All (λ j. j.work ≤ m) xs → last_work known xs t ≤ m
unfolding last_work
last_most known m [] t l all = l
last_most known m (y ∷ xs) t l all =
    last_most (cond (nat_lt y.offset t) y.work known) m xs t (either (nat_lt y.offset t) y.work known m (All-head (λ j. j.work ≤ m) y xs all) l) (All-tail (λ j. j.work ≤ m) y xs all)

-- The item before the last, and the last one.
before_seam : (xs : List Jump) (x d : Jump) (n : ℕ) → n < length xs → get_or (xs ++ x ∷ []) n d ≡ get_or xs n d
before_seam xs x d n l = get_or_append_left xs (x ∷ []) d n l

at_seam : (xs : List Jump) (x d : Jump) (n : ℕ) → n ≡ length xs → get_or (xs ++ x ∷ []) n d ≡ x
at_seam xs x d n e = ap (λ (i : ℕ). get_or (xs ++ x ∷ []) i d) e ∙ get_or-append_seam xs x [] d

long_behind : (xs : List Jump) (x : Jump) → length (xs ++ x ∷ []) ≡ length xs + 1
long_behind xs x = length-append xs (x ∷ [])

rise_by : (a b c d : Jump) → a ≡ c → b ≡ d → IsRise c d → IsRise a b
rise_by a b c d e f is = subst (λ (v : Jump). IsRise v b) (sym e) (subst (λ (w : Jump). IsRise c w) (sym f) is)

-- A list that rises does so with one more jump behind that rises above its last one.
rising_behind : (xs : List Jump) (x : Jump) → IsRising xs → ((d : Jump) → 0 < length xs → IsRise (get_or xs (length xs - 1) d) x) → IsRising (xs ++ x ∷ [])
rising_behind xs x is last n d l = go (cases_lt (n + 1) (length xs))
  where
    long : n + 1 < length xs + 1
    long = omega (arith, l, long_behind xs x)

    go : (n + 1 < length xs) ⊎ (length xs ≤ n + 1) → IsRise (get_or (xs ++ x ∷ []) n d) (get_or (xs ++ x ∷ []) (n + 1) d)
    go (inl m) = rise_by _ _ (get_or xs n d) (get_or xs (n + 1) d) (before_seam xs x d n (omega arith)) (before_seam xs x d (n + 1) m) (is n d m)
    go (inr m) =
        let e : n ≡ length xs - 1 = omega (arith, long) in
        let same : get_or (xs ++ x ∷ []) n d ≡ get_or xs (length xs - 1) d = before_seam xs x d n (omega (arith, long)) ∙ ap (λ (i : ℕ). get_or xs i d) e in
        rise_by _ _ (get_or xs (length xs - 1) d) x same (at_seam xs x d (n + 1) (omega (arith, long))) (last d (omega (arith, long)))

-- A list that rises does so without its last jump, which rises above the one before it, and goes at least as high as each.
rising_front : (xs : List Jump) (x : Jump) → IsRising (xs ++ x ∷ []) → IsRising xs
rising_front xs x is n d l =
    rise_by _ _ (get_or (xs ++ x ∷ []) n d) (get_or (xs ++ x ∷ []) (n + 1) d) (sym (before_seam xs x d n (omega arith))) (sym (before_seam xs x d (n + 1) l))
    (is n d (omega (arith, l, long_behind xs x)))

rise_last : (xs : List Jump) (x d : Jump) → IsRising (xs ++ x ∷ []) → 0 < length xs → IsRise (get_or xs (length xs - 1) d) x
rise_last xs x d is some =
    let n : ℕ = length xs - 1 in
    rise_by _ _ (get_or (xs ++ x ∷ []) n d) (get_or (xs ++ x ∷ []) (n + 1) d) (sym (before_seam xs x d n (omega arith))) (sym (at_seam xs x d (n + 1) (omega arith)))
    (is n d (omega (arith, long_behind xs x)))

works_under : (xs : List Jump) (x : Jump) → IsRising (xs ++ x ∷ []) → All (λ j. j.work ≤ x.work) xs
works_under xs x is k d l =
    let g = ascending_to (λ (j : Jump). j.work) (xs ++ x ∷ []) (λ n e h. (is n e h).1) k (length xs) d (omega arith) (omega (arith, long_behind xs x)) in
    omega (arith, g, ap (λ (j : Jump). j.work) (before_seam xs x d k l), ap (λ (j : Jump). j.work) (at_seam xs x d (length xs) refl))

-- The parts of a list of jumps up to an offset.
up_front : (o : ℕ) (xs : List Jump) (x : Jump) → AreUpTo o (xs ++ x ∷ []) → AreUpTo o xs
up_front o xs x all k d l = subst (λ (j : Jump). j.offset ≤ o) (before_seam xs x d k l) (all k d (omega (arith, l, long_behind xs x)))

up_last : (o : ℕ) (xs : List Jump) (x : Jump) → AreUpTo o (xs ++ x ∷ []) → x.offset ≤ o
up_last o xs x all = subst (λ (j : Jump). j.offset ≤ o) (at_seam xs x x (length xs) refl) (all (length xs) x (omega (arith, long_behind xs x)))

up_behind : (o : ℕ) (xs : List Jump) (x : Jump) → AreUpTo o xs → x.offset ≤ o → AreUpTo o (xs ++ x ∷ [])
up_behind o xs x all l = All-append (λ j. j.offset ≤ o) xs (x ∷ []) all (All-cons (λ j. j.offset ≤ o) x [] l (All-nil (λ j. j.offset ≤ o)))

pub up_more : (o p : ℕ) (xs : List Jump) → AreUpTo o xs → o ≤ p → AreUpTo p xs
up_more o p xs all l k d m = let h = all k d m in omega (arith, h)

-- The value of a single jump, and of one behind others.
value_one : (x : Jump) (t : ℕ) → x.offset < t → value_before (x ∷ []) t ≡ x.work
unfolding last_work
value_one x t l = cond-true (nat_lt x.offset t) x.work 0 (lt-ltb x.offset t l)

value_not : (x : Jump) (t : ℕ) → t ≤ x.offset → value_before (x ∷ []) t ≡ 0
unfolding last_work
value_not x t l = cond-false (nat_lt x.offset t) x.work 0 (le-ltb x.offset t l)

value_past : (xs : List Jump) (x : Jump) (t : ℕ) → x.offset < t → value_before (xs ++ x ∷ []) t ≡ x.work
value_past xs x t l = last_behind 0 xs x t ∙ cond-true (nat_lt x.offset t) x.work (value_before xs t) (lt-ltb x.offset t l)

value_short : (xs : List Jump) (x : Jump) (t : ℕ) → t ≤ x.offset → value_before (xs ++ x ∷ []) t ≡ value_before xs t
value_short xs x t l = last_behind 0 xs x t ∙ cond-false (nat_lt x.offset t) x.work (value_before xs t) (le-ltb x.offset t l)

-- A jump behind a list that it rises above.
pub jump_behind : (xs : List Jump) (x : Jump) → IsRising xs → AreUpTo x.offset xs → ((d : Jump) → 0 < length xs → IsRise (get_or xs (length xs - 1) d) x) → HasJump xs x (xs ++ x ∷ [])
jump_behind xs x is up last = record { rising = rises; last = up_behind x.offset xs x up (omega arith); value = λ t. go t (cases_lt x.offset t) }
  where
    rises : IsRising (xs ++ x ∷ [])
    rises = rising_behind xs x is last

    go : (t : ℕ) → (x.offset < t) ⊎ (t ≤ x.offset) → value_before (xs ++ x ∷ []) t ≡ max (value_before xs t) (value_before (x ∷ []) t)
    go t (inl l) = let m : value_before xs t ≤ x.work = last_most 0 x.work xs t (omega arith) (works_under xs x rises) in omega (arith, value_past xs x t l, value_one x t l, m)
    go t (inr l) = omega (arith, value_short xs x t l, value_not x t l)

-- A jump in place of the last one, which lies no earlier and goes less high.
pub jump_over : (xs : List Jump) (l x : Jump) → IsRising (xs ++ l ∷ []) → AreUpTo x.offset (xs ++ l ∷ []) → x.offset ≤ l.offset → l.work < x.work
    → HasJump (xs ++ l ∷ []) x (xs ++ x ∷ [])
jump_over xs l x is up far less = record {
  rising = rising_behind xs x (rising_front xs l is) (λ d some. let r = rise_last xs l d is some in (omega (arith, r.0, far, same), omega (arith, r.1, less)));
  last = up_behind x.offset xs x (up_front x.offset xs l up) (omega arith);
  value = λ t. go t (cases_lt x.offset t);
}
  where
    same : l.offset ≤ x.offset
    same = up_last x.offset xs l up

    go : (t : ℕ) → (x.offset < t) ⊎ (t ≤ x.offset) → value_before (xs ++ x ∷ []) t ≡ max (value_before (xs ++ l ∷ []) t) (value_before (x ∷ []) t)
    go t (inl m) = omega (arith, value_past xs x t m, value_past xs l t (omega (arith, m, same)), value_one x t m, less)
    go t (inr m) = omega (arith, value_short xs x t m, value_short xs l t (omega (arith, m, far)), value_not x t m)

-- A jump that goes no higher than the last one changes nothing.
pub jump_under : (xs : List Jump) (l x : Jump) → IsRising (xs ++ l ∷ []) → AreUpTo x.offset (xs ++ l ∷ []) → x.work ≤ l.work → HasJump (xs ++ l ∷ []) x (xs ++ l ∷ [])
jump_under xs l x is up low = record { rising = is; last = up; value = λ t. go t (cases_lt x.offset t) }
  where
    same : l.offset ≤ x.offset
    same = up_last x.offset xs l up

    go : (t : ℕ) → (x.offset < t) ⊎ (t ≤ x.offset) → value_before (xs ++ l ∷ []) t ≡ max (value_before (xs ++ l ∷ []) t) (value_before (x ∷ []) t)
    go t (inl m) = omega (arith, value_past xs l t (omega (arith, m, same)), value_one x t m, low)
    go t (inr m) = omega (arith, value_not x t m)

-- The jumps before a number rise, and lie at most at the jump of that number.
pub rising_take : (xs : List Jump) (n : ℕ) → IsRising xs → IsRising (take n xs)
rising_take xs n is k d l =
    let long = length-take n xs in
    rise_by _ _ (get_or xs k d) (get_or xs (k + 1) d) (get_or-take n xs k d (omega (arith, long, l))) (get_or-take n xs (k + 1) d (omega (arith, long, l))) (is k d (omega (arith, long, l)))

up_take : (xs : List Jump) (n : ℕ) (d : Jump) → IsRising xs → n < length xs → AreUpTo (get_or xs n d).offset (take n xs)
up_take xs n d is l k e m =
    let long = length-take n xs in
    let g = ascending_to (λ (j : Jump). j.offset) xs (λ i f h. (is i f h).0) k n d (omega (arith, long, m)) l in
    let same : get_or (take n xs) k e ≡ get_or xs k d = get_or-take n xs k e (omega (arith, long, m)) ∙ default_by xs k e d (omega (arith, long, m)) in
    omega (arith, g, ap (λ (j : Jump). j.offset) same)
  where
    default_by : (ys : List Jump) (i : ℕ) (a b : Jump) → i < length ys → get_or ys i a ≡ get_or ys i b
    default_by [] i a b h = absurd (omega arith)
    default_by (y ∷ ys) zero a b h = refl
    default_by (y ∷ ys) (suc i) a b h = default_by ys i a b (omega arith)

-- The value of the jumps up to a number.
pub value_more : (xs : List Jump) (n t : ℕ) (d : Jump) → IsRising xs → n < length xs → value_before (take (n + 1) xs) t ≡ max (value_before (take n xs) t) (value_before (get_or xs n d ∷ []) t)
value_more xs n t d is l =
    let x : Jump = get_or xs n d in
    let more : take (n + 1) xs ≡ take n xs ++ x ∷ [] = take_more xs n d l in
    let rises : IsRising (take n xs ++ x ∷ []) = subst IsRising more (rising_take xs (n + 1) is) in
    let has = jump_behind (take n xs) x (rising_take xs n is) (up_take xs n d is l) (λ e some. rise_last (take n xs) x e rises some) in
    ap (λ (js : List Jump). value_before js t) more ∙ has.value t

-- A jump behind one that it rises above.
pub jump_past : (xs : List Jump) (l x : Jump) → IsRising (xs ++ l ∷ []) → AreUpTo x.offset (xs ++ l ∷ []) → l.offset < x.offset → l.work < x.work
    → HasJump (xs ++ l ∷ []) x ((xs ++ l ∷ []) ++ x ∷ [])
jump_past xs l x is up far high =
    jump_behind (xs ++ l ∷ []) x is up (λ d some.
    let e : get_or (xs ++ l ∷ []) (length (xs ++ l ∷ []) - 1) d ≡ l = at_seam xs l d (length (xs ++ l ∷ []) - 1) (omega (arith, long_behind xs l)) in
    rise_by _ x l x e refl (far, high))

-- A jump behind none.
pub jump_first : (old xs new : List Jump) (x : Jump) → length old ≡ 0 → length xs ≡ 0 → new ≡ xs ++ x ∷ [] → HasJump old x new
jump_first [] [] new x e f is = subst (HasJump [] x) (sym is) (jump_behind [] x (λ n d l. absurd (omega arith)) (λ k d l. absurd (omega arith)) (λ d some. absurd (omega arith)))
jump_first [] (y ∷ xs) new x e f is = absurd (omega arith)
jump_first (y ∷ old) xs new x e f is = absurd (omega arith)

-- The same of lists that are equal.
pub has_by : (old new old' new' : List Jump) (x : Jump) → old ≡ old' → new ≡ new' → HasJump old' x new' → HasJump old x new
has_by old new old' new' x e f has = subst (λ (js : List Jump). HasJump js x new) (sym e) (subst (λ (js : List Jump). HasJump old' x js) (sym f) has)
