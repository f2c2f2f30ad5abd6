-- The places at which a test passes: their order, the first of them, and what a write and a push change.
use Rattle.std.proofs.Common.{◌≡◌, ℕ, suc, zero, ◌+◌, ◌<◌, ◌≤◌, Bool, true, false, cond, Option, Some, None, List, [], ◌∷◌, ◌++◌, length, refl, sym, ap, ◌∙◌, arith, set, zero-add}
use Rattle.std.specs.Prelude.{option_map, slice_get, not, ◌==◌}
use Rattle.std.specs.List.{filter}
use Rattle.std.proofs.lemmas.Option.{none-some, same_Some}
use Rattle.std.proofs.lemmas.Bool.Decides.{nat_tests}
use Rattle.drt_worklist.specs.Places.{first, places_from, places}

shifted : (i : ℕ) (o : Option ℕ) → option_map (λ k. suc i + k) o ≡ option_map (λ k. i + k) (option_map suc o)
shifted i None = refl
shifted i (Some k) = ap (λ n. Some n) (let e : suc i + k ≡ i + suc k = omega arith in e)

unshifted : (o : Option ℕ) → option_map (λ k. 0 + k) o ≡ o
unshifted None = refl
unshifted (Some k) = ap (λ n. Some n) (zero-add k)

module _ {A : Type 0} (p : A → Bool) where
  head_by : (i : ℕ) (x : A) (xs : List A) (b : Bool) → slice_get (places_from (suc i) p xs) 0 ≡ option_map (λ k. suc i + k) (first p xs)
      → slice_get (cond b (i ∷ places_from (suc i) p xs) (places_from (suc i) p xs)) 0 ≡ option_map (λ k. i + k) (cond b (Some 0) (option_map suc (first p xs)))
  head_by i x xs true h = ap (λ n. Some n) (let e : i ≡ i + 0 = omega arith in e)
  head_by i x xs false h = h ∙ shifted i (first p xs)

  head_from : (i : ℕ) (xs : List A) → slice_get (places_from i p xs) 0 ≡ option_map (λ k. i + k) (first p xs)
  head_from i [] = refl
  head_from i (x ∷ xs) = head_by i x xs (p x) (head_from (suc i) xs)

  -- the first of the places is the first place
  pub first_place : (xs : List A) → slice_get (places p xs) 0 ≡ first p xs
  first_place xs = head_from 0 xs ∙ unshifted (first p xs)

  -- where nothing passes
  none_from : (i : ℕ) (xs : List A) → ((k : ℕ) (x : A) → slice_get xs k ≡ Some x → p x ≡ false) → places_from i p xs ≡ []
  none_from i [] h = refl
  none_from i (x ∷ xs) h = ap (λ b. cond b (i ∷ places_from (suc i) p xs) (places_from (suc i) p xs)) (h 0 x refl) ∙ none_from (suc i) xs (λ k y at. h (suc k) y at)

  -- a write of one that passes, at a place from which on none passed
  taken_by : (i n : ℕ) (b : Bool) (ps qs : List ℕ) → ps ≡ qs ++ (suc i + n) ∷ [] → cond b (i ∷ ps) ps ≡ cond b (i ∷ qs) qs ++ (i + suc n) ∷ []
  taken_by i n true ps qs h = ap (λ l. i ∷ l) (h ∙ ap (λ m. qs ++ m ∷ []) (let e : suc i + n ≡ i + suc n = omega arith in e))
  taken_by i n false ps qs h = h ∙ ap (λ m. qs ++ m ∷ []) (let e : suc i + n ≡ i + suc n = omega arith in e)

  taken_from : (i n : ℕ) (xs : List A) (y : A) → n < length xs → p y ≡ true → ((k : ℕ) (x : A) → n ≤ k → slice_get xs k ≡ Some x → p x ≡ false)
      → places_from i p (set xs n y) ≡ places_from i p xs ++ (i + n) ∷ []
  taken_from i n [] y lt e none = absurd (let h : n < 0 = lt in omega arith)
  taken_from i zero (x ∷ xs) y lt e none =
      let rest : places_from (suc i) p xs ≡ [] = none_from (suc i) xs (λ k z at. none (suc k) z (omega arith) at) in
      ap (λ b. cond b (i ∷ places_from (suc i) p xs) (places_from (suc i) p xs)) e
      ∙ (ap (λ l. i ∷ l) rest ∙ (ap (λ m. m ∷ []) (let g : i ≡ i + 0 = omega arith in g)
      ∙ ap (λ l. l ++ (i + 0) ∷ []) (sym (ap (λ b. cond b (i ∷ places_from (suc i) p xs) (places_from (suc i) p xs)) (none 0 x (omega arith) refl) ∙ rest))))
  taken_from i (suc n) (x ∷ xs) y lt e none = taken_by i n (p x) (places_from (suc i) p (set xs n y)) (places_from (suc i) p xs)
      (taken_from (suc i) n xs y (omega arith) e (λ k z le at. none (suc k) z (omega arith) at))

  pub places_taken : (xs : List A) (n : ℕ) (y : A) → n < length xs → p y ≡ true → ((k : ℕ) (x : A) → n ≤ k → slice_get xs k ≡ Some x → p x ≡ false) → places p (set xs n y) ≡ places p xs ++ n ∷ []
  places_taken xs n y lt e none = taken_from 0 n xs y lt e none ∙ ap (λ m. places p xs ++ m ∷ []) (zero-add n)

  -- places from i on are at least i
  keep_by : (b : Bool) (i m : ℕ) (ps : List ℕ) → m < i → filter (λ k. not (k == m)) ps ≡ ps → filter (λ k. not (k == m)) (cond b (i ∷ ps) ps) ≡ cond b (i ∷ ps) ps
  keep_by true i m ps lt h = ap (λ c. cond c (i ∷ filter (λ k. not (k == m)) ps) (filter (λ k. not (k == m)) ps)) (let e : (not (i == m)) ≡ true = grind (arith, nat_tests) in e) ∙ ap (λ l. i ∷ l) h
  keep_by false i m ps lt h = h

  keep_from : (i m : ℕ) (xs : List A) → m < i → filter (λ k. not (k == m)) (places_from i p xs) ≡ places_from i p xs
  keep_from i m [] lt = refl
  keep_from i m (x ∷ xs) lt = keep_by (p x) i m (places_from (suc i) p xs) lt (keep_from (suc i) m xs (omega arith))

  -- a write of one that doesn't pass
  drop_here : (b : Bool) (i : ℕ) (ps : List ℕ) → filter (λ k. not (k == i)) ps ≡ ps → ps ≡ filter (λ k. not (k == i)) (cond b (i ∷ ps) ps)
  drop_here true i ps h = sym (ap (λ c. cond c (i ∷ filter (λ k. not (k == i)) ps) (filter (λ k. not (k == i)) ps)) (let e : (not (i == i)) ≡ false = grind (arith, nat_tests) in e) ∙ h)
  drop_here false i ps h = sym h

  drop_by : (b : Bool) (i m : ℕ) (ps qs : List ℕ) → i < m → ps ≡ filter (λ k. not (k == m)) qs → cond b (i ∷ ps) ps ≡ filter (λ k. not (k == m)) (cond b (i ∷ qs) qs)
  drop_by true i m ps qs lt h = ap (λ l. i ∷ l) h
      ∙ sym (ap (λ c. cond c (i ∷ filter (λ k. not (k == m)) qs) (filter (λ k. not (k == m)) qs)) (let e : (not (i == m)) ≡ true = grind (arith, nat_tests) in e))
  drop_by false i m ps qs lt h = h

  dropped_from : (i n : ℕ) (xs : List A) (y : A) → p y ≡ false → places_from i p (set xs n y) ≡ filter (λ k. not (k == i + n)) (places_from i p xs)
  dropped_from i n [] y e = refl
  dropped_from i zero (x ∷ xs) y e =
      ap (λ b. cond b (i ∷ places_from (suc i) p xs) (places_from (suc i) p xs)) e
      ∙ (drop_here (p x) i (places_from (suc i) p xs) (keep_from (suc i) i xs (omega arith))
      ∙ ap (λ m. filter (λ k. not (k == m)) (cond (p x) (i ∷ places_from (suc i) p xs) (places_from (suc i) p xs))) (let g : i ≡ i + 0 = omega arith in g))
  dropped_from i (suc n) (x ∷ xs) y e =
      drop_by (p x) i (i + suc n) (places_from (suc i) p (set xs n y)) (places_from (suc i) p xs) (omega arith)
      (dropped_from (suc i) n xs y e ∙ ap (λ m. filter (λ k. not (k == m)) (places_from (suc i) p xs)) (let g : suc i + n ≡ i + suc n = omega arith in g))

  pub places_dropped : (xs : List A) (n : ℕ) (y : A) → p y ≡ false → places p (set xs n y) ≡ filter (λ k. not (k == n)) (places p xs)
  places_dropped xs n y e = dropped_from 0 n xs y e ∙ ap (λ m. filter (λ k. not (k == m)) (places p xs)) (zero-add n)

  -- a write of one that doesn't pass, where one did
  fewer_by : (b : Bool) (i : ℕ) (ps qs : List ℕ) → length ps + 1 ≡ length qs → length (cond b (i ∷ ps) ps) + 1 ≡ length (cond b (i ∷ qs) qs)
  fewer_by true i ps qs h = omega arith
  fewer_by false i ps qs h = h

  fewer_from : (i n : ℕ) (xs : List A) (x y : A) → slice_get xs n ≡ Some x → p x ≡ true → p y ≡ false → length (places_from i p (set xs n y)) + 1 ≡ length (places_from i p xs)
  fewer_from i n [] x y at e f = absurd (none-some x at)
  fewer_from i zero (z ∷ xs) x y at e f =
      ap (λ b. length (cond b (i ∷ places_from (suc i) p xs) (places_from (suc i) p xs)) + 1) f
      ∙ sym (ap (λ b. length (cond b (i ∷ places_from (suc i) p xs) (places_from (suc i) p xs))) (ap p (same_Some z x at) ∙ e)
      ∙ (let g : suc (length (places_from (suc i) p xs)) ≡ length (places_from (suc i) p xs) + 1 = omega arith in g))
  fewer_from i (suc n) (z ∷ xs) x y at e f = fewer_by (p z) i (places_from (suc i) p (set xs n y)) (places_from (suc i) p xs) (fewer_from (suc i) n xs x y at e f)

  pub places_fewer : (xs : List A) (n : ℕ) (x y : A) → slice_get xs n ≡ Some x → p x ≡ true → p y ≡ false → length (places p (set xs n y)) + 1 ≡ length (places p xs)
  places_fewer xs n x y at e f = fewer_from 0 n xs x y at e f

  -- any write
  two_by : (b c : Bool) (i : ℕ) (ps : List ℕ) → length (cond b (i ∷ ps) ps) ≤ length (cond c (i ∷ ps) ps) + 1
  two_by true true i ps = omega arith
  two_by true false i ps = omega arith
  two_by false true i ps = omega arith
  two_by false false i ps = omega arith

  same_by : (b : Bool) (i : ℕ) (ps qs : List ℕ) → length ps ≤ length qs + 1 → length (cond b (i ∷ ps) ps) ≤ length (cond b (i ∷ qs) qs) + 1
  same_by true i ps qs h = omega arith
  same_by false i ps qs h = h

  set_from : (i n : ℕ) (xs : List A) (y : A) → length (places_from i p (set xs n y)) ≤ length (places_from i p xs) + 1
  set_from i n [] y = omega arith
  set_from i zero (x ∷ xs) y = two_by (p y) (p x) i (places_from (suc i) p xs)
  set_from i (suc n) (x ∷ xs) y = same_by (p x) i (places_from (suc i) p (set xs n y)) (places_from (suc i) p xs) (set_from (suc i) n xs y)

  pub places_set : (xs : List A) (n : ℕ) (y : A) → length (places p (set xs n y)) ≤ length (places p xs) + 1
  places_set xs n y = set_from 0 n xs y

  -- a push of one that doesn't pass
  more_from : (i : ℕ) (xs : List A) (y : A) → p y ≡ false → places_from i p (xs ++ y ∷ []) ≡ places_from i p xs
  more_from i [] y e = ap (λ b. cond b (i ∷ []) []) e
  more_from i (x ∷ xs) y e = ap (λ l. cond (p x) (i ∷ l) l) (more_from (suc i) xs y e)

  pub places_more : (xs : List A) (y : A) → p y ≡ false → places p (xs ++ y ∷ []) ≡ places p xs
  places_more xs y e = more_from 0 xs y e

  few_by : (b : Bool) (i n : ℕ) (ps : List ℕ) → length ps ≤ n → length (cond b (i ∷ ps) ps) ≤ suc n
  few_by true i n ps h = omega arith
  few_by false i n ps h = omega arith

  few_from : (i : ℕ) (xs : List A) → length (places_from i p xs) ≤ length xs
  few_from i [] = omega arith
  few_from i (x ∷ xs) = few_by (p x) i (length xs) (places_from (suc i) p xs) (few_from (suc i) xs)

  -- there are no more places than elements
  pub places_few : (xs : List A) → length (places p xs) ≤ length xs
  places_few xs = few_from 0 xs

-- where a place stands among the places
pub record Placed {A : Type 0} (i : ℕ) (p : A → Bool) (xs : List A) (k : ℕ) : Type 0 where
  pub place : ℕ
  pub at : slice_get (places_from i p xs) place ≡ Some (i + k)

-- what stands at one of the places
pub record IsPlaceOf {A : Type 0} (i : ℕ) (p : A → Bool) (xs : List A) (m : ℕ) : Type 0 where
  pub number : ℕ
  pub item : A
  pub is : m ≡ i + number
  pub at : slice_get xs number ≡ Some item
  pub passes : p item ≡ true

module _ {A : Type 0} (p : A → Bool) where
  placed_head : (i : ℕ) (x : A) (xs : List A) (b : Bool) → p x ≡ b → b ≡ true → Placed i p (x ∷ xs) 0
  placed_head i x xs b e t = record {
    place = 0;
    at = ap (λ c. slice_get (cond c (i ∷ places_from (suc i) p xs) (places_from (suc i) p xs)) 0) (e ∙ t)
        ∙ ap (λ n. Some n) (let g : i ≡ i + 0 = omega arith in g);
  }

  placed_next : (i k : ℕ) (x : A) (xs : List A) (b : Bool) → p x ≡ b → Placed (suc i) p xs k → Placed i p (x ∷ xs) (suc k)
  placed_next i k x xs true e h = record {
    place = suc h.place;
    at = ap (λ c. slice_get (cond c (i ∷ places_from (suc i) p xs) (places_from (suc i) p xs)) (suc h.place)) e
        ∙ (h.at ∙ ap (λ n. Some n) (let g : suc i + k ≡ i + suc k = omega arith in g));
  }
  placed_next i k x xs false e h = record {
    place = h.place;
    at = ap (λ c. slice_get (cond c (i ∷ places_from (suc i) p xs) (places_from (suc i) p xs)) h.place) e
        ∙ (h.at ∙ ap (λ n. Some n) (let g : suc i + k ≡ i + suc k = omega arith in g));
  }

  pub placed : (i : ℕ) (xs : List A) (k : ℕ) (x : A) → slice_get xs k ≡ Some x → p x ≡ true → Placed i p xs k
  placed i [] k x at e = absurd (none-some x at)
  placed i (z ∷ xs) zero x at e = placed_head i z xs (p z) refl (ap p (same_Some z x at) ∙ e)
  placed i (z ∷ xs) (suc k) x at e = placed_next i k z xs (p z) refl (placed (suc i) xs k x at e)

  up : (i : ℕ) (x : A) (xs : List A) (m : ℕ) → IsPlaceOf (suc i) p xs m → IsPlaceOf i p (x ∷ xs) m
  up i x xs m h = record { number = suc h.number; item = h.item; is = h.is ∙ (let g : suc i + h.number ≡ i + suc h.number = omega arith in g); at = h.at; passes = h.passes }

  place_by : (i : ℕ) (x : A) (xs : List A) (b : Bool) → p x ≡ b → ((j m : ℕ) → slice_get (places_from (suc i) p xs) j ≡ Some m → IsPlaceOf (suc i) p xs m) → (j m : ℕ)
      → slice_get (cond b (i ∷ places_from (suc i) p xs) (places_from (suc i) p xs)) j ≡ Some m → IsPlaceOf i p (x ∷ xs) m
  place_by i x xs true e rest zero m at = record { number = 0; item = x; is = sym (same_Some i m at) ∙ (let g : i ≡ i + 0 = omega arith in g); at = refl; passes = e }
  place_by i x xs true e rest (suc j) m at = up i x xs m (rest j m at)
  place_by i x xs false e rest j m at = up i x xs m (rest j m at)

  pub place_is : (i : ℕ) (xs : List A) (j m : ℕ) → slice_get (places_from i p xs) j ≡ Some m → IsPlaceOf i p xs m
  place_is i [] j m at = absurd (none-some m at)
  place_is i (x ∷ xs) j m at = place_by i x xs (p x) refl (place_is (suc i) xs) j m at

  order_by : (i : ℕ) (xs : List A) (b : Bool)
      → ((a c m n : ℕ) → a < c → slice_get (places_from (suc i) p xs) a ≡ Some m → slice_get (places_from (suc i) p xs) c ≡ Some n → m < n) → (a c m n : ℕ) → a < c
      → slice_get (cond b (i ∷ places_from (suc i) p xs) (places_from (suc i) p xs)) a ≡ Some m
      → slice_get (cond b (i ∷ places_from (suc i) p xs) (places_from (suc i) p xs)) c ≡ Some n → m < n
  order_by i xs true rest a zero m n lt f g = absurd (omega arith)
  order_by i xs true rest zero (suc c) m n lt f g =
      let h : IsPlaceOf (suc i) p xs n = place_is (suc i) xs c n g in
      let e : i ≡ m = same_Some i m f in
      let is : n ≡ suc i + h.number = h.is in
      omega arith
  order_by i xs true rest (suc a) (suc c) m n lt f g = rest a c m n (omega arith) f g
  order_by i xs false rest a c m n lt f g = rest a c m n lt f g

  -- the places rise
  pub places_rise : (i : ℕ) (xs : List A) (a c m n : ℕ) → a < c → slice_get (places_from i p xs) a ≡ Some m → slice_get (places_from i p xs) c ≡ Some n → m < n
  places_rise i [] a c m n lt f g = absurd (none-some m f)
  places_rise i (x ∷ xs) a c m n lt f g = order_by i xs (p x) (places_rise (suc i) xs) a c m n lt f g
