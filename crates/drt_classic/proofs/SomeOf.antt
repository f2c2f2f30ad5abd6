-- Some element of a list, by cases on the list.
use Rattle.std.proofs.Common.{◌≡◌, ℕ, zero, suc, ◌+◌, ◌<◌, ◌≤◌, ◌⊎◌, List, [], ◌∷◌, ◌++◌, length, map, get_or, inl, inr, refl, sym, subst, arith}
use Rattle.std.specs.Prelude.{Any}
use Rattle.std.specs.List.{range_with_len}

-- P holds of some element.
abbrev pub SomeOf : {X : Type 0} → (X → Type 0) → List X → Type 0
SomeOf P [] = ⊥
SomeOf P (x ∷ xs) = P x ⊎ SomeOf P xs

pub some_of_any : {X : Type 0} (P : X → Type 0) (xs : List X) (k : ℕ) (x : X) → k < length xs → get_or xs k x ≡ x → P x → SomeOf P xs
some_of_any P [] k x lt e p = absurd (omega (arith, lt))
some_of_any P (y ∷ xs) zero x lt e p = inl (subst P (sym e) p)
some_of_any P (y ∷ xs) (suc k) x lt e p = inr (some_of_any P xs k x (omega (arith, lt)) e p)

pub some_any : {X : Type 0} (P : X → Type 0) (xs : List X) → Any P xs → SomeOf P xs
some_any P xs h = some_of_any P xs h.0 h.1 h.2 h.3 h.4

pub any_some : {X : Type 0} (P : X → Type 0) (xs : List X) → SomeOf P xs → Any P xs
any_some P [] h = absurd h
any_some P (x ∷ xs) (inl p) = (0, x, omega arith, refl, p)
any_some P (x ∷ xs) (inr h) =
    let r = any_some P xs h in
    (suc r.0, r.1, (let lt = r.2 in omega (arith, lt)), r.3, r.4)

pub some_split : {X : Type 0} (P : X → Type 0) (xs ys : List X) → SomeOf P (xs ++ ys) → SomeOf P xs ⊎ SomeOf P ys
some_split P [] ys h = inr h
some_split P (x ∷ xs) ys (inl p) = inl (inl p)
some_split P (x ∷ xs) ys (inr h) = elim (some_split P xs ys h) [ inl a ↦ inl (inr a) | inr b ↦ inr b ]

pub some_left : {X : Type 0} (P : X → Type 0) (xs ys : List X) → SomeOf P xs → SomeOf P (xs ++ ys)
some_left P [] ys h = absurd h
some_left P (x ∷ xs) ys (inl p) = inl p
some_left P (x ∷ xs) ys (inr h) = inr (some_left P xs ys h)

pub some_right : {X : Type 0} (P : X → Type 0) (xs ys : List X) → SomeOf P ys → SomeOf P (xs ++ ys)
some_right P [] ys h = h
some_right P (x ∷ xs) ys h = inr (some_right P xs ys h)

-- The list has this number.
abbrev pub Has : ℕ → List ℕ → Type 0
Has j js = SomeOf (λ k. k ≡ j) js

pub range_has : (a n j : ℕ) → a ≤ j → j < a + n → Has j (range_with_len a n)
range_has a zero j le lt = absurd (omega (arith, le, lt))
range_has a (suc n) j le lt = elim (at_or_above a j le) [ inl e ↦ inl e | inr more ↦ inr (range_has (a + 1) n j more (omega (arith, lt))) ]
  where
    at_or_above : (a j : ℕ) → a ≤ j → (a ≡ j) ⊎ (a + 1 ≤ j)
    at_or_above a j le = grind (arith, le)
