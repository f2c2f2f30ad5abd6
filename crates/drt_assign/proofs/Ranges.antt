-- The open tasks as a list.
use Rattle.std.proofs.Common.{◌≡◌, ℕ, zero, suc, ◌+◌, ◌<◌, Bool, true, false, cond, eqb, List, [], ◌∷◌, ◌++◌, length, get_or, Contains, sym, ap, ◌∙◌, subst, arith, inl, inr}
use Rattle.std.specs.Prelude.{filter}
use Rattle.std.specs.List.{range_with_len}
use Rattle.std.proofs.lemmas.Bool.{cases_Bool, eq-eqb, eqb-true}
use Rattle.std.proofs.lemmas.List.{append-nil, map-id}
use Rattle.std.proofs.lemmas.List.Elements.{All-contains, filter-append, filter_passes}
use Rattle.std.proofs.lemmas.List.FromFn.{get_or-range_with_len, length-range_with_len, map-range_with_len_more}
use Rattle.drt_assign.specs.Rule.{open_tasks}

pub range_more : (n : ℕ) → range_with_len 0 (n + 1) ≡ range_with_len 0 n ++ n ∷ []
range_more n =
    sym (map-id (range_with_len 0 (n + 1)))
    ∙ (map-range_with_len_more (λ (k : ℕ). k) 0 n n (omega arith) ∙ ap (λ (xs : List ℕ). xs ++ n ∷ []) (map-id (range_with_len 0 n)))

-- One number more, which passes or doesn't.
pub filter_more_in : (p : ℕ → Bool) (n : ℕ) → p n ≡ true → filter p (range_with_len 0 (n + 1)) ≡ filter p (range_with_len 0 n) ++ n ∷ []
filter_more_in p n h =
    ap (filter p) (range_more n) ∙ (filter-append p (range_with_len 0 n) (n ∷ []) ∙ ap (λ (b : Bool). filter p (range_with_len 0 n) ++ cond b (n ∷ []) []) h)

pub filter_more_out : (p : ℕ → Bool) (n : ℕ) → p n ≡ false → filter p (range_with_len 0 (n + 1)) ≡ filter p (range_with_len 0 n)
filter_more_out p n h =
    ap (filter p) (range_more n)
    ∙ (filter-append p (range_with_len 0 n) (n ∷ []) ∙ (ap (λ (b : Bool). filter p (range_with_len 0 n) ++ cond b (n ∷ []) []) h ∙ append-nil (filter p (range_with_len 0 n))))

contains_filter : (p : ℕ → Bool) (xs : List ℕ) (x : ℕ) → Contains xs x → p x ≡ true → Contains (filter p xs) x
contains_filter p [] x c h = absurd (omega (arith, c.1))
contains_filter p (y ∷ ys) x (zero, l, e) h = subst (λ (b : Bool). Contains (cond b (y ∷ filter p ys) (filter p ys)) x) (sym (ap p e ∙ h)) (zero, omega arith, e)
contains_filter p (y ∷ ys) x (suc k, l, e) h = elim (cases_Bool (p y)) [
  | inl t ↦ (let rest = contains_filter p ys x (k, omega (arith, l), e) h in
      subst (λ (b : Bool). Contains (cond b (y ∷ filter p ys) (filter p ys)) x) (sym t) (suc rest.0, omega (arith, rest.1), rest.2))
  | inr f ↦ subst (λ (b : Bool). Contains (cond b (y ∷ filter p ys) (filter p ys)) x) (sym f) (contains_filter p ys x (k, omega (arith, l), e) h)
]

contains_later : (y : ℕ) (ys : List ℕ) (x : ℕ) → Contains ys x → Contains (y ∷ ys) x
contains_later y ys x d = (suc d.0, omega (arith, d.1), d.2)

contains_either : (y : ℕ) (zs ys : List ℕ) (x : ℕ) → (Contains zs x → Contains ys x) → Contains (y ∷ zs) x → Contains (y ∷ ys) x
contains_either y zs ys x rest (zero, l, e) = (zero, omega arith, e)
contains_either y zs ys x rest (suc k, l, e) = contains_later y ys x (rest (k, omega (arith, l), e))

filter_contains : (p : ℕ → Bool) (xs : List ℕ) (x : ℕ) → Contains (filter p xs) x → Contains xs x
filter_contains p [] x c = c
filter_contains p (y ∷ ys) x c = elim (cases_Bool (p y)) [
  | inl t ↦ contains_either y (filter p ys) ys x (filter_contains p ys x) (subst (λ (b : Bool). Contains (cond b (y ∷ filter p ys) (filter p ys)) x) t c)
  | inr f ↦ contains_later y ys x (filter_contains p ys x (subst (λ (b : Bool). Contains (cond b (y ∷ filter p ys) (filter p ys)) x) f c))
]

-- Which tasks are open.
pub is_in_open : (ranks : List ℕ) (k : ℕ) → k < length ranks → get_or ranks k 0 ≡ 0 → Contains (open_tasks ranks) k
is_in_open ranks k l e =
    contains_filter (λ j. eqb (get_or ranks j 0) 0) (range_with_len 0 (length ranks)) k
    (k, omega (arith, length-range_with_len 0 (length ranks)), omega (arith, get_or-range_with_len 0 (length ranks) k k l)) (eq-eqb (get_or ranks k 0) 0 e)

pub in_open_is : (ranks : List ℕ) (k : ℕ) → Contains (open_tasks ranks) k → (k < length ranks) × (get_or ranks k 0 ≡ 0)
in_open_is ranks k c =
    let at = filter_contains (λ j. eqb (get_or ranks j 0) 0) (range_with_len 0 (length ranks)) k c in
    let n = length-range_with_len 0 (length ranks) in
    let l : at.0 < length ranks = omega (arith, at.1, n) in
    let same = get_or-range_with_len 0 (length ranks) at.0 k l in
    let passes : eqb (get_or ranks k 0) 0 ≡ true =
    All-contains (λ j. eqb (get_or ranks j 0) 0 ≡ true) (open_tasks ranks) k (filter_passes (λ j. eqb (get_or ranks j 0) 0) (range_with_len 0 (length ranks))) c in
    (omega (arith, l, same, at.2), eqb-true (get_or ranks k 0) 0 passes)
