-- What a write and a push change of a list and of its first place that passes, and a search among some places alone.
use Rattle.std.proofs.Common.{◌≡◌, ℕ, suc, zero, ◌+◌, ◌<◌, ◌⊎◌, Bool, true, false, cond, Some, None, List, [], ◌∷◌, ◌++◌, length, refl, sym, ap, ◌∙◌, arith, set, inl, inr, zero-add}
use Rattle.std.specs.Prelude.{option_map, slice_get}
use Rattle.std.proofs.lemmas.Option.{none-some, same_Some, slice_get_within}
use Rattle.drt_worklist.specs.Places.{first, places, changed}
use Rattle.drt_worklist.proofs.Lists.{first_is, first_none, none_found}
use Rattle.drt_worklist.proofs.Places.{Placed, placed, places_rise}

-- what stands at a place after a write
pub set_at : {A : Type 0} (xs : List A) (i : ℕ) (y : A) (k : ℕ) (x : A) → slice_get (set xs i y) k ≡ Some x → ((k ≡ i) × (x ≡ y)) ⊎ ((k ≡ i → ⊥) × (slice_get xs k ≡ Some x))
set_at [] i y k x at = absurd (none-some x at)
set_at (z ∷ xs) zero y zero x at = inl (refl, sym (same_Some y x at))
set_at (z ∷ xs) zero y (suc k) x at = inr ((λ e. absurd (omega arith)), at)
set_at (z ∷ xs) (suc i) y zero x at = inr ((λ e. absurd (omega arith)), at)
set_at (z ∷ xs) (suc i) y (suc k) x at =
    elim (set_at xs i y k x at) as (λ _. ((suc k ≡ suc i) × (x ≡ y)) ⊎ ((suc k ≡ suc i → ⊥) × (slice_get xs k ≡ Some x)))
    [ inl p ↦ inl (ap suc p.0, p.1) | inr q ↦ inr ((λ e. q.0 (omega arith)), q.1) ]

pub set_here : {A : Type 0} (xs : List A) (i : ℕ) (y : A) → i < length xs → slice_get (set xs i y) i ≡ Some y
set_here [] i y lt = absurd (let h : i < 0 = lt in omega arith)
set_here (z ∷ xs) zero y lt = refl
set_here (z ∷ xs) (suc i) y lt = set_here xs i y (omega arith)

pub length_set : {A : Type 0} (xs : List A) (i : ℕ) (y : A) → length (set xs i y) ≡ length xs
length_set [] i y = refl
length_set (z ∷ xs) zero y = refl
length_set (z ∷ xs) (suc i) y = ap suc (length_set xs i y)

-- a change, as a write
pub changed_set : {A : Type 0} (f : A → A) (xs : List A) (k : ℕ) (x : A) → slice_get xs k ≡ Some x → changed k f xs ≡ set xs k (f x)
changed_set f [] k x at = absurd (none-some x at)
changed_set f (z ∷ xs) zero x at = ap (λ y. f y ∷ xs) (same_Some z x at)
changed_set f (z ∷ xs) (suc k) x at = ap (λ ys. z ∷ ys) (changed_set f xs k x at)

module _ {A : Type 0} (p : A → Bool) where
  -- a write that p doesn't see
  pub first_same : (xs : List A) (i : ℕ) (x y : A) → slice_get xs i ≡ Some x → p x ≡ false → p y ≡ false → first p (set xs i y) ≡ first p xs
  first_same [] i x y at e f = refl
  first_same (z ∷ xs) zero x y at e f = ap (λ b. cond b (Some 0) (option_map suc (first p xs))) (f ∙ sym (ap p (same_Some z x at) ∙ e))
  first_same (z ∷ xs) (suc i) x y at e f = ap (λ o. cond (p z) (Some 0) (option_map suc o)) (first_same xs i x y at e f)

  -- a write that p sees, where it saw none before
  pub first_new : (xs : List A) (i : ℕ) (y : A) → i < length xs → first p xs ≡ None → p y ≡ true → Some i ≡ first p (set xs i y)
  first_new xs i y lt none e = first_is p (set xs i y) i y (set_here xs i y lt) e
      (λ k x less at. elim (set_at xs i y k x at) as (λ _. p x ≡ false) [ inl h ↦ absurd (let g : k ≡ i = h.0 in omega arith) | inr h ↦ none_found p xs none k x h.1 ])

  -- a push that p doesn't see
  pub first_more : (xs : List A) (y : A) → p y ≡ false → first p (xs ++ y ∷ []) ≡ first p xs
  first_more [] y e = ap (λ b. cond b (Some 0) None) e
  first_more (x ∷ xs) y e = ap (λ o. cond (p x) (Some 0) (option_map suc o)) (first_more xs y e)

-- of what q sees, p sees each: so the first one that q sees is among the places of p
module _ {A : Type 0} (p q : A → Bool) (both : (x : A) → q x ≡ true → p x ≡ true) (xs : List A) (ps : List ℕ) (is : ps ≡ places p xs) where
  -- q sees none of the first j of the places
  abbrev pub AreUnseen : ℕ → Type 0
  AreUnseen j = (i k : ℕ) (x : A) → i < j → slice_get ps i ≡ Some k → slice_get xs k ≡ Some x → q x ≡ false

  place_of : (k : ℕ) (y : A) → slice_get xs k ≡ Some y → q y ≡ true → (i : ℕ) × (slice_get ps i ≡ Some k)
  place_of k y at e =
      let r : Placed 0 p xs k = placed p 0 xs k y at (both y e) in
      (r.place, ap (λ l. slice_get l r.place) is ∙ (r.at ∙ ap (λ n. Some n) (zero-add k)))

  false_by : (b c : Bool) → b ≡ c → (b ≡ true → ⊥) → c ≡ false
  false_by true c e h = absurd (h refl)
  false_by false c e h = sym e

  orders : (i j : ℕ) → (i < j) ⊎ ((i ≡ j) ⊎ (j < i))
  orders i j = grind arith

  pub first_among : (j id : ℕ) (x : A) → slice_get ps j ≡ Some id → slice_get xs id ≡ Some x → q x ≡ true → AreUnseen j → Some id ≡ first q xs
  first_among j id x there at e unseen = first_is q xs id x at e (λ k y lt here. false_by (q y) (q y) refl (λ f. clash k y lt here f (place_of k y here f)))
    where
      clash : (k : ℕ) (y : A) → k < id → slice_get xs k ≡ Some y → q y ≡ true → (i : ℕ) × (slice_get ps i ≡ Some k) → ⊥
      clash k y lt here f r = elim (orders r.0 j) as (λ _. ⊥) [
        | inl less ↦ (let g : q y ≡ false = unseen r.0 k y less r.1 here in absurd (let h : true ≡ false = sym f ∙ g in cc))
        | inr more ↦ elim more as (λ _. ⊥) [
          | inl same ↦ (let g : k ≡ id = same_Some k id (sym r.1 ∙ (ap (λ n. slice_get ps n) same ∙ there)) in absurd (omega arith))
          | inr later ↦ (let g : id < k = places_rise p 0 xs j r.0 id k later (ap (λ l. slice_get l j) (sym is) ∙ there) (ap (λ l. slice_get l r.0) (sym is) ∙ r.1) in absurd (omega arith))
        ]
      ]

  pub none_among : AreUnseen (length ps) → None ≡ first q xs
  none_among unseen = first_none q xs (λ k y lt here. false_by (q y) (q y) refl (λ f. clash k y here f (place_of k y here f)))
    where
      clash : (k : ℕ) (y : A) → slice_get xs k ≡ Some y → q y ≡ true → (i : ℕ) × (slice_get ps i ≡ Some k) → ⊥
      clash k y here f r =
          let g : q y ≡ false = unseen r.0 k y (slice_get_within ps r.0 k r.1) r.1 here in
          absurd (let h : true ≡ false = sym f ∙ g in cc)

  unseen_by : (j id : ℕ) (x : A) → slice_get ps j ≡ Some id → slice_get xs id ≡ Some x → q x ≡ false → AreUnseen j → AreUnseen (j + 1)
  unseen_by j id x there at e unseen i k y lt here found = elim (halves i j lt) as (λ _. q y ≡ false) [
    | inl less ↦ unseen i k y less here found
    | inr same ↦ (let g : id ≡ k = same_Some id k (sym there ∙ (ap (λ n. slice_get ps n) (sym same) ∙ here)) in
        let h : x ≡ y = same_Some x y (sym at ∙ (ap (λ n. slice_get xs n) g ∙ found)) in
        ap q (sym h) ∙ e)
  ]
    where
      halves : (i j : ℕ) → i < j + 1 → (i < j) ⊎ (i ≡ j)
      halves i j lt = grind arith

  pub unseen_more : (j id : ℕ) (x : A) → slice_get ps j ≡ Some id → slice_get xs id ≡ Some x → q x ≡ false → AreUnseen j → AreUnseen (j + 1)
  unseen_more j id x there at e unseen = unseen_by j id x there at e unseen
