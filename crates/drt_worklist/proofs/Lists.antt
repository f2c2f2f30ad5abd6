-- Elements of a list by their place, after a change and in two lists end to end; the first place that passes; and sums.
use Rattle.std.proofs.Common.{◌≡◌, ℕ, suc, zero, ◌+◌, ◌<◌, ◌⊎◌, Bool, true, false, cond, Option, Some, None, List, [], ◌∷◌, ◌++◌, length, refl, sym, ap, ◌∙◌, inl, inr, arith, subst, zero-add}
use Rattle.std.specs.Prelude.{option_map, slice_get}
use Rattle.std.proofs.lemmas.Option.{none-some, same_Some}
use Rattle.drt_worklist.specs.Places.{first, changed, total}

-- what stood at a place before it was changed
pub record Before {A : Type 0} (k : ℕ) (f : A → A) (xs : List A) (j : ℕ) (y : A) : Type 0 where
  pub old : A
  pub at : slice_get xs j ≡ Some old
  pub is : ((j ≡ k) × (y ≡ f old)) ⊎ (y ≡ old)

pub before_change : {A : Type 0} (k : ℕ) (f : A → A) (xs : List A) (j : ℕ) (y : A) → slice_get (changed k f xs) j ≡ Some y → Before k f xs j y
before_change k f [] j y h = absurd (none-some y h)
before_change zero f (x ∷ xs) zero y h = record { old = x; at = refl; is = inl (refl, sym (same_Some (f x) y h)) }
before_change zero f (x ∷ xs) (suc j) y h = record { old = y; at = h; is = inr refl }
before_change (suc k) f (x ∷ xs) zero y h = record { old = x; at = refl; is = inr (sym (same_Some x y h)) }
before_change (suc k) f (x ∷ xs) (suc j) y h = lift (before_change k f xs j y h)
  where
    lift : Before k f xs j y → Before (suc k) f (x ∷ xs) (suc j) y
    lift b = record { old = b.old; at = b.at; is = elim b.is as (λ _. ((suc j ≡ suc k) × (y ≡ f b.old)) ⊎ (y ≡ b.old)) [ inl p ↦ inl (ap suc p.0, p.1) | inr q ↦ inr q ] }

-- what stands at a place after a change
pub record After {A : Type 0} (k : ℕ) (f : A → A) (xs : List A) (j : ℕ) (x : A) : Type 0 where
  pub new : A
  pub at : slice_get (changed k f xs) j ≡ Some new
  pub is : ((j ≡ k) × (new ≡ f x)) ⊎ (new ≡ x)

pub after_change : {A : Type 0} (k : ℕ) (f : A → A) (xs : List A) (j : ℕ) (x : A) → slice_get xs j ≡ Some x → After k f xs j x
after_change k f [] j x h = absurd (none-some x h)
after_change zero f (z ∷ xs) zero x h = record { new = f z; at = refl; is = inl (refl, ap f (same_Some z x h)) }
after_change zero f (z ∷ xs) (suc j) x h = record { new = x; at = h; is = inr refl }
after_change (suc k) f (z ∷ xs) zero x h = record { new = z; at = refl; is = inr (same_Some z x h) }
after_change (suc k) f (z ∷ xs) (suc j) x h = lift (after_change k f xs j x h)
  where
    lift : After k f xs j x → After (suc k) f (z ∷ xs) (suc j) x
    lift b = record { new = b.new; at = b.at; is = elim b.is as (λ _. ((suc j ≡ suc k) × (b.new ≡ f x)) ⊎ (b.new ≡ x)) [ inl p ↦ inl (ap suc p.0, p.1) | inr q ↦ inr q ] }

pub length-changed : {A : Type 0} (k : ℕ) (f : A → A) (xs : List A) → length (changed k f xs) ≡ length xs
length-changed k f [] = refl
length-changed zero f (x ∷ xs) = refl
length-changed (suc k) f (x ∷ xs) = ap suc (length-changed k f xs)

-- what a change makes, and what it leaves
pub changed_at : {A : Type 0} (k : ℕ) (f : A → A) (xs : List A) (x : A) → slice_get xs k ≡ Some x → slice_get (changed k f xs) k ≡ Some (f x)
changed_at k f [] x h = absurd (none-some x h)
changed_at zero f (z ∷ xs) x h = ap (λ v. Some (f v)) (same_Some z x h)
changed_at (suc k) f (z ∷ xs) x h = changed_at k f xs x h

pub changed_other : {A : Type 0} (i : ℕ) (g : A → A) (xs : List A) (k : ℕ) → (k ≡ i → ⊥) → slice_get (changed i g xs) k ≡ slice_get xs k
changed_other i g [] k ne = refl
changed_other zero g (x ∷ xs) zero ne = absurd (ne refl)
changed_other zero g (x ∷ xs) (suc k) ne = refl
changed_other (suc i) g (x ∷ xs) zero ne = refl
changed_other (suc i) g (x ∷ xs) (suc k) ne = changed_other i g xs k (λ e. ne (ap suc e))

-- a first place that passes
pub record Found {A : Type 0} (p : A → Bool) (xs : List A) (k : ℕ) : Type 0 where
  pub item : A
  pub at : slice_get xs k ≡ Some item
  pub passes : p item ≡ true

found_rest : {A : Type 0} (p : A → Bool) (x : A) (xs : List A) (k : ℕ) (o : Option ℕ) → ((i : ℕ) → o ≡ Some i → Found p xs i) → option_map suc o ≡ Some k → Found p (x ∷ xs) k
found_rest p x xs k None rest g = absurd (none-some k g)
found_rest p x xs k (Some i) rest g =
    let f : Found p xs i = rest i refl in
    subst (λ (m : ℕ). Found p (x ∷ xs) m) (same_Some (suc i) k g) (record { item = f.item; at = f.at; passes = f.passes })

found_head : {A : Type 0} (p : A → Bool) (x : A) (xs : List A) (k : ℕ) (b : Bool) → p x ≡ b → ((i : ℕ) → first p xs ≡ Some i → Found p xs i)
    → cond b (Some 0) (option_map suc (first p xs)) ≡ Some k → Found p (x ∷ xs) k
found_head p x xs k true e rest g = subst (λ (m : ℕ). Found p (x ∷ xs) m) (same_Some 0 k g) (record { item = x; at = refl; passes = e })
found_head p x xs k false e rest g = found_rest p x xs k (first p xs) rest g

pub found : {A : Type 0} (p : A → Bool) (xs : List A) (k : ℕ) → first p xs ≡ Some k → Found p xs k
found p [] k h = absurd (none-some k h)
found p (x ∷ xs) k h = found_head p x xs k (p x) refl (found p xs) h

rest_none : (o : Option ℕ) → option_map suc o ≡ None → o ≡ None
rest_none None e = refl
rest_none (Some i) e = cc

none_found_head : {A : Type 0} (p : A → Bool) (y : A) (xs : List A) (b : Bool) → p y ≡ b → (first p xs ≡ None → (k : ℕ) (x : A) → slice_get xs k ≡ Some x → p x ≡ false)
    → cond b (Some 0) (option_map suc (first p xs)) ≡ None → (k : ℕ) (x : A) → slice_get (y ∷ xs) k ≡ Some x → p x ≡ false
none_found_head p y xs true e rest h k x g = cc
none_found_head p y xs false e rest h zero x g = subst (λ z. p z ≡ false) (same_Some y x g) e
none_found_head p y xs false e rest h (suc k) x g = rest (rest_none (first p xs) h) k x g

pub none_found : {A : Type 0} (p : A → Bool) (xs : List A) → first p xs ≡ None → (k : ℕ) (x : A) → slice_get xs k ≡ Some x → p x ≡ false
none_found p [] h k x g = absurd (none-some x g)
none_found p (y ∷ xs) h k x g = none_found_head p y xs (p y) refl (none_found p xs) h k x g

-- the first place that passes, from what a search saw
pub first_is : {A : Type 0} (p : A → Bool) (xs : List A) (i : ℕ) (x : A) → slice_get xs i ≡ Some x → p x ≡ true
    → ((k : ℕ) (y : A) → k < i → slice_get xs k ≡ Some y → p y ≡ false) → Some i ≡ first p xs
first_is p [] i x at passed below = absurd (none-some x at)
first_is p (z ∷ xs) zero x at passed below = ap (λ b. cond b (Some 0) (option_map suc (first p xs))) (sym (ap p (same_Some z x at) ∙ passed))
first_is p (z ∷ xs) (suc i) x at passed below =
    ap (λ o. option_map suc o) (first_is p xs i x at passed (λ k y lt h. below (suc k) y (omega arith) h))
    ∙ ap (λ b. cond b (Some 0) (option_map suc (first p xs))) (sym (below 0 z (omega arith) refl))

pub first_none : {A : Type 0} (p : A → Bool) (xs : List A) → ((k : ℕ) (y : A) → k < length xs → slice_get xs k ≡ Some y → p y ≡ false) → None ≡ first p xs
first_none p [] below = refl
first_none p (z ∷ xs) below =
    ap (λ o. option_map suc o) (first_none p xs (λ k y lt h. below (suc k) y (omega arith) h))
    ∙ ap (λ b. cond b (Some 0) (option_map suc (first p xs))) (sym (below 0 z (omega arith) refl))

pub fails_more : {A : Type 0} (p : A → Bool) (xs : List A) (i : ℕ) (x : A) → slice_get xs i ≡ Some x → p x ≡ false
    → ((k : ℕ) (y : A) → k < i → slice_get xs k ≡ Some y → p y ≡ false) → (k : ℕ) (y : A) → k < i + 1 → slice_get xs k ≡ Some y → p y ≡ false
fails_more p xs i x at failed below k y lt h = elim (cases_le k i lt) as (λ _. p y ≡ false)
    [ inl less ↦ below k y less h | inr e ↦ subst (λ z. p z ≡ false) (same_Some x y (sym at ∙ (ap (λ j. slice_get xs j) (sym e) ∙ h))) failed ]
  where
    cases_le : (k i : ℕ) → k < i + 1 → (k < i) ⊎ (k ≡ i)
    cases_le k i lt = grind arith

pub get_within : {A : Type 0} (xs : List A) (i : ℕ) → i < length xs → (x : A) × (slice_get xs i ≡ Some x)
get_within [] i lt = absurd (let h : i < 0 = lt in omega arith)
get_within (x ∷ xs) zero lt = (x, refl)
get_within (x ∷ xs) (suc i) lt = get_within xs i (omega arith)

-- what stood at a place of two lists end to end
pub data Joined {A : Type 0} (xs ys : List A) (j : ℕ) (y : A) : Type 0 where
  earlier : slice_get xs j ≡ Some y → Joined xs ys j y
  later : (k : ℕ) → j ≡ length xs + k → slice_get ys k ≡ Some y → Joined xs ys j y

pub before_join : {A : Type 0} (xs ys : List A) (j : ℕ) (y : A) → slice_get (xs ++ ys) j ≡ Some y → Joined xs ys j y
before_join [] ys j y h = later j (sym (zero-add j)) h
before_join (x ∷ xs) ys zero y h = earlier h
before_join (x ∷ xs) ys (suc j) y h = lift (before_join xs ys j y h)
  where
    lift : Joined xs ys j y → Joined (x ∷ xs) ys (suc j) y
    lift (earlier at) = earlier at
    lift (later k e at) = later k (let g : suc j ≡ suc (length xs) + k = omega arith in g) at

pub after_join : {A : Type 0} (xs ys : List A) (j : ℕ) (x : A) → slice_get xs j ≡ Some x → slice_get (xs ++ ys) j ≡ Some x
after_join [] ys j x h = absurd (none-some x h)
after_join (w ∷ xs) ys zero x h = h
after_join (w ∷ xs) ys (suc j) x h = after_join xs ys j x h

pub after_end : {A : Type 0} (xs ys : List A) (k : ℕ) (y : A) → slice_get ys k ≡ Some y → slice_get (xs ++ ys) (length xs + k) ≡ Some y
after_end [] ys k y h = ap (λ i. slice_get ys i) (zero-add k) ∙ h
after_end (x ∷ xs) ys k y h = ap (λ i. slice_get (x ∷ (xs ++ ys)) i) (let e : suc (length xs) + k ≡ suc (length xs + k) = omega arith in e) ∙ after_end xs ys k y h

pub total_changed : {A : Type 0} (v : A → ℕ) (k : ℕ) (f : A → A) (xs : List A) (x : A) → slice_get xs k ≡ Some x → total v (changed k f xs) + v x ≡ total v xs + v (f x)
total_changed v k f [] x at = absurd (none-some x at)
total_changed v zero f (z ∷ xs) x at = let e : v z ≡ v x = ap v (same_Some z x at) in let g : v (f z) ≡ v (f x) = ap (λ y. v (f y)) (same_Some z x at) in omega arith
total_changed v (suc k) f (z ∷ xs) x at = let e : total v (changed k f xs) + v x ≡ total v xs + v (f x) = total_changed v k f xs x at in omega arith

pub total_join : {A : Type 0} (v : A → ℕ) (xs ys : List A) → total v (xs ++ ys) ≡ total v xs + total v ys
total_join v [] ys = sym (zero-add (total v ys))
total_join v (x ∷ xs) ys = let e : total v (xs ++ ys) ≡ total v xs + total v ys = total_join v xs ys in omega arith

pub length_join : {A : Type 0} (xs ys : List A) → length (xs ++ ys) ≡ length xs + length ys
length_join [] ys = sym (zero-add (length ys))
length_join (x ∷ xs) ys = let e : length (xs ++ ys) ≡ length xs + length ys = length_join xs ys in omega arith
