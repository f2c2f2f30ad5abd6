-- The place of least value among those that pass a test.
use Rattle.std.proofs.Common.{◌≡◌, ℕ, suc, zero, ◌<◌, ◌≤◌, ◌⊎◌, Bool, true, false, cond, Option, Some, None, List, [], ◌∷◌, refl, sym, ap, ◌∙◌, subst, inl, inr, arith}
use Rattle.std.specs.Prelude.{slice_get, min, ◌&&◌, ◌==◌}
use Rattle.std.proofs.lemmas.Option.{none-some, same_Some}
use Rattle.std.proofs.lemmas.Bool.Decides.{nat_tests}
use Rattle.drt_table.specs.Earliest.{smaller, least_of, first_with, earliest}
use Rattle.std.proofs.Common.{map}
use Rattle.drt_worklist.proofs.Lists.{Found, found, none_found, first_is}
use Rattle.drt_worklist.proofs.Views.{first-map}

pub and_left : (b c : Bool) → (b && c) ≡ true → b ≡ true
and_left true c h = refl
and_left false c h = absurd (cc)

pub and_right : (b c : Bool) → (b && c) ≡ true → c ≡ true
and_right true c h = h
and_right false c h = absurd (cc)

pub both : (b c : Bool) → b ≡ true → c ≡ true → (b && c) ≡ true
both b c p q = ap (λ x. x && c) p ∙ q

pub not_left : (b c : Bool) → b ≡ false → (b && c) ≡ false
not_left b c p = ap (λ x. x && c) p

is_number : (m n : ℕ) → (m == n) ≡ true → m ≡ n
is_number m n h = grind (arith, nat_tests)

number_is : (m n : ℕ) → m ≡ n → (m == n) ≡ true
number_is m n h = grind (arith, nat_tests)

number_not : (m n : ℕ) → m < n → (n == m) ≡ false
number_not m n h = grind (arith, nat_tests)

-- the least of some values is at most each of them
pub record IsLeast {A : Type 0} (p : A → Bool) (f : A → ℕ) (xs : List A) (m : ℕ) : Type 0 where
  pub number : ℕ
  pub item : A
  pub at : slice_get xs number ≡ Some item
  pub passes : p item ≡ true
  pub is : f item ≡ m
  pub below : (k : ℕ) (y : A) → slice_get xs k ≡ Some y → p y ≡ true → m ≤ f y

module _ {A : Type 0} (p : A → Bool) (f : A → ℕ) where
  pub none_least : (xs : List A) → least_of p f xs ≡ None → (k : ℕ) (y : A) → slice_get xs k ≡ Some y → p y ≡ false
  none_least [] e k y h = absurd (none-some y h)
  none_least (x ∷ xs) e k y h = at_head (p x) refl (none_least xs) e k y h
    where
      some_smaller : (m : ℕ) (o : Option ℕ) → smaller (Some m) o ≡ None → ⊥
      some_smaller m None e = absurd (cc)
      some_smaller m (Some n) e = absurd (cc)

      at_head : (b : Bool) → p x ≡ b → (least_of p f xs ≡ None → (k : ℕ) (y : A) → slice_get xs k ≡ Some y → p y ≡ false)
          → cond b (smaller (Some (f x)) (least_of p f xs)) (least_of p f xs) ≡ None → (k : ℕ) (y : A) → slice_get (x ∷ xs) k ≡ Some y → p y ≡ false
      at_head true q rest e k y h = absurd (some_smaller (f x) (least_of p f xs) e)
      at_head false q rest e zero y h = subst (λ z. p z ≡ false) (same_Some x y h) q
      at_head false q rest e (suc k) y h = rest e k y h

  later_least : (x : A) (xs : List A) (m : ℕ) → IsLeast p f xs m → ((p x ≡ true) → m ≤ f x) → IsLeast p f (x ∷ xs) m
  later_least x xs m l h = record {
    number = suc l.number;
    item = l.item;
    at = l.at;
    passes = l.passes;
    is = l.is;
    below = below;
  }
    where
      below : (k : ℕ) (y : A) → slice_get (x ∷ xs) k ≡ Some y → p y ≡ true → m ≤ f y
      below zero y g q = subst (λ (z : A). m ≤ f z) (same_Some x y g) (h (ap p (same_Some x y g) ∙ q))
      below (suc k) y g q = l.below k y g q

  head_least : (x : A) (xs : List A) → p x ≡ true → ((k : ℕ) (y : A) → slice_get xs k ≡ Some y → p y ≡ true → f x ≤ f y) → IsLeast p f (x ∷ xs) (f x)
  head_least x xs q h = record { number = 0; item = x; at = refl; passes = q; is = refl; below = below }
    where
      below : (k : ℕ) (y : A) → slice_get (x ∷ xs) k ≡ Some y → p y ≡ true → f x ≤ f y
      below zero y g r = subst (λ (z : A). f x ≤ f z) (same_Some x y g) (omega arith)
      below (suc k) y g r = h k y g r

  min_cases : (m n : ℕ) → ((min m n ≡ m) × (m ≤ n)) ⊎ ((min m n ≡ n) × (n ≤ m))
  min_cases m n = grind arith

  with_smaller : (x : A) (xs : List A) (m : ℕ) (o : Option ℕ) → p x ≡ true → least_of p f xs ≡ o → ((n : ℕ) → o ≡ Some n → IsLeast p f xs n) → smaller (Some (f x)) o ≡ Some m → IsLeast p f (x ∷ xs) m
  with_smaller x xs m None q e rest h =
      subst (λ (n : ℕ). IsLeast p f (x ∷ xs) n) (same_Some (f x) m h)
      (head_least x xs q (λ k y g r. absurd (let no : p y ≡ false = none_least xs e k y g in cc (r, no))))
  with_smaller x xs m (Some n) q e rest h =
      elim (min_cases (f x) n) as (λ _. IsLeast p f (x ∷ xs) m) [
        | inl c ↦ subst (λ (j : ℕ). IsLeast p f (x ∷ xs) j) (sym c.0 ∙ same_Some (min (f x) n) m h)
            (head_least x xs q (λ k y g r. let b : n ≤ f y = (rest n refl).below k y g r in let d : f x ≤ n = c.1 in omega arith))
        | inr c ↦ subst (λ (j : ℕ). IsLeast p f (x ∷ xs) j) (sym c.0 ∙ same_Some (min (f x) n) m h)
            (later_least x xs n (rest n refl) (λ _. c.1))
      ]

  pub least_is : (xs : List A) (m : ℕ) → least_of p f xs ≡ Some m → IsLeast p f xs m
  least_is [] m h = absurd (none-some m h)
  least_is (x ∷ xs) m h = at_head (p x) refl (least_is xs) h
    where
      at_head : (b : Bool) → p x ≡ b → ((n : ℕ) → least_of p f xs ≡ Some n → IsLeast p f xs n) → cond b (smaller (Some (f x)) (least_of p f xs)) (least_of p f xs) ≡ Some m → IsLeast p f (x ∷ xs) m
      at_head true q rest e = with_smaller x xs m (least_of p f xs) q refl rest e
      at_head false q rest e = later_least x xs m (rest m e) (λ r. absurd (cc (q, r)))

  -- an element that passes and has the least value
  pub record Earliest (xs : List A) (k : ℕ) : Type 0 where
    pub item : A
    pub at : slice_get xs k ≡ Some item
    pub passes : p item ≡ true
    pub least : (j : ℕ) (y : A) → slice_get xs j ≡ Some y → p y ≡ true → f item ≤ f y

  found_with : (xs : List A) (k : ℕ) (o : Option ℕ) → least_of p f xs ≡ o → first_with p f xs o ≡ Some k → Earliest xs k
  found_with xs k None e h = absurd (none-some k h)
  found_with xs k (Some m) e h =
      let l : IsLeast p f xs m = least_is xs m e in
      let g : Found (λ x. p x && (f x == m)) xs k = found (λ x. p x && (f x == m)) xs k h in
      let same : f g.item ≡ m = is_number (f g.item) m (and_right (p g.item) (f g.item == m) g.passes) in
      record { item = g.item; at = g.at; passes = and_left (p g.item) (f g.item == m) g.passes; least = λ j y at r. subst (λ (n : ℕ). n ≤ f y) (sym same) (l.below j y at r) }

  pub found_earliest : (xs : List A) (k : ℕ) → earliest p f xs ≡ Some k → Earliest xs k
  found_earliest xs k h = found_with xs k (least_of p f xs) refl h

  none_with : (xs : List A) (o : Option ℕ) → least_of p f xs ≡ o → first_with p f xs o ≡ None → (k : ℕ) (y : A) → slice_get xs k ≡ Some y → p y ≡ false
  none_with xs None e h k y g = none_least xs e k y g
  none_with xs (Some m) e h k y g =
      let l : IsLeast p f xs m = least_is xs m e in
      let no : (p l.item && (f l.item == m)) ≡ false = none_found (λ x. p x && (f x == m)) xs h l.number l.item l.at in
      let yes : (p l.item && (f l.item == m)) ≡ true = both (p l.item) (f l.item == m) l.passes (number_is (f l.item) m l.is) in
      absurd (cc (no, yes))

  pub none_earliest : (xs : List A) → earliest p f xs ≡ None → (k : ℕ) (y : A) → slice_get xs k ≡ Some y → p y ≡ false
  none_earliest xs h k y g = none_with xs (least_of p f xs) refl h k y g

  -- the earliest one, from what a search saw
  pub earliest_none : (xs : List A) → ((k : ℕ) (y : A) → slice_get xs k ≡ Some y → p y ≡ false) → None ≡ earliest p f xs
  earliest_none xs h = with_least (least_of p f xs) refl
    where
      with_least : (o : Option ℕ) → least_of p f xs ≡ o → None ≡ first_with p f xs o
      with_least None e = refl
      with_least (Some m) e = let l : IsLeast p f xs m = least_is xs m e in absurd (let no : p l.item ≡ false = h l.number l.item l.at in let yes : p l.item ≡ true = l.passes in cc)

  pub earliest_is : (xs : List A) (i : ℕ) (x : A) → slice_get xs i ≡ Some x → p x ≡ true → ((j : ℕ) (y : A) → slice_get xs j ≡ Some y → p y ≡ true → f x ≤ f y)
      → ((j : ℕ) (y : A) → j < i → slice_get xs j ≡ Some y → p y ≡ true → f x < f y) → Some i ≡ earliest p f xs
  earliest_is xs i x at passes least before = with_least (least_of p f xs) refl
    where
      no_number : (m : ℕ) (y : A) (b : Bool) → p y ≡ b → f x ≡ m → ((p y ≡ true) → f x < f y) → (p y && (f y == m)) ≡ false
      no_number m y false q e h = not_left (p y) (f y == m) q
      no_number m y true q e h = ap (λ b. b && (f y == m)) q ∙ (let lt : f x < f y = h q in number_not m (f y) (subst (λ (n : ℕ). n < f y) e lt))

      with_least : (o : Option ℕ) → least_of p f xs ≡ o → Some i ≡ first_with p f xs o
      with_least None e = absurd (let no : p x ≡ false = none_least xs e i x at in cc (no, passes))
      with_least (Some m) e =
          let l : IsLeast p f xs m = least_is xs m e in
          let le : m ≤ f x = l.below i x at passes in
          let ge : f x ≤ f l.item = least l.number l.item l.at l.passes in
          let is : f l.item ≡ m = l.is in
          let same : f x ≡ m = omega arith in
          first_is (λ z. p z && (f z == m)) xs i x at (both (p x) (f x == m) passes (number_is (f x) m same))
          (λ j y lt g. no_number m y (p y) refl same (λ r. before j y lt g r))

-- a view of each element
least_of-map : {A B : Type 0} (p : B → Bool) (f : B → ℕ) (v : A → B) (xs : List A) → least_of p f (map v xs) ≡ least_of (λ x. p (v x)) (λ x. f (v x)) xs
least_of-map p f v [] = refl
least_of-map p f v (x ∷ xs) = ap (λ o. cond (p (v x)) (smaller (Some (f (v x))) o) o) (least_of-map p f v xs)

first_with-map : {A B : Type 0} (p : B → Bool) (f : B → ℕ) (v : A → B) (xs : List A) (o : Option ℕ) → first_with p f (map v xs) o ≡ first_with (λ x. p (v x)) (λ x. f (v x)) xs o
first_with-map p f v xs None = refl
first_with-map p f v xs (Some m) = first-map (λ y. p y && (f y == m)) v xs

pub earliest-map : {A B : Type 0} (p : B → Bool) (f : B → ℕ) (v : A → B) (xs : List A) → earliest p f (map v xs) ≡ earliest (λ x. p (v x)) (λ x. f (v x)) xs
earliest-map p f v xs = ap (λ o. first_with p f (map v xs) o) (least_of-map p f v xs) ∙ first_with-map p f v xs (least_of (λ x. p (v x)) (λ x. f (v x)) xs)
