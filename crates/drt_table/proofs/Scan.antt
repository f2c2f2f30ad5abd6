-- A search among the elements whose places are listed.
use Rattle.std.proofs.Common.{◌≡◌, ℕ, ◌+◌, ◌<◌, ◌≤◌, ◌⊎◌, Bool, true, false, cond, Option, Some, None, List, ◌∷◌, length, get_or, ◌≢◌, refl, sym, ap, ◌∙◌, subst, inl, inr, arith}
use Rattle.std.specs.Prelude.{slice_get, nat_lt, min, option_map, ◌&&◌, ◌==◌}
use Rattle.std.specs.List.{Contains, swap_remove}
use Rattle.std.proofs.lemmas.List.Sorted.{Contains-permutation, IsPermutation-swap_remove}
use Rattle.std.proofs.lemmas.Bool.Decides.{nat_tests}
use Rattle.std.proofs.lemmas.Option.{same_Some, slice_get_within}
use Rattle.drt_table.specs.Node.{NodeOf, is_held_by, is_taken, is_taken_by, is_taken_state}
use Rattle.drt_table.specs.declared.node.NodeState.{NodeState}
use Rattle.drt_table.specs.declared.node.NodeState.TheVariants.{Pending, Taken, Done}
use Rattle.drt_worklist.specs.Places.{first}
use Rattle.drt_table.specs.Earliest.{earliest, smaller}
use Rattle.drt_table.specs.Waiting.{earlier}
use Rattle.drt_worklist.proofs.Lists.{first_is, first_none}
use Rattle.drt_table.proofs.Earliest.{earliest_is, earliest_none}
use Rattle.drt_table.proofs.Tickets.{at_contains, contains_cases}

pub cases_le : (k i : ℕ) → k < i + 1 → (k < i) ⊎ (k ≡ i)
cases_le k i lt = grind arith

module _ {A : Type 0} (p : A → Bool) (xs : List A) (ks : List ℕ) where
  -- the fact holds of each of the first i places in the list
  abbrev pub Seen : ℕ → (ℕ → A → Type 0) → Type 0
  Seen i P = (j k : ℕ) (x : A) → j < i → slice_get ks j ≡ Some k → slice_get xs k ≡ Some x → P k x

  seen_more : (P : ℕ → A → Type 0) (i k : ℕ) (x : A) → Seen i P → slice_get ks i ≡ Some k → slice_get xs k ≡ Some x → P k x → Seen (i + 1) P
  seen_more P i k x seen at at_x holds j m y lt g h = by_place (cases_le j i lt)
    where
      by_place : (j < i) ⊎ (j ≡ i) → P m y
      by_place (inl less) = seen j m y less g h
      by_place (inr e) =
          let k_is : k ≡ m = same_Some k m (sym at ∙ (ap (λ n. slice_get ks n) (sym e) ∙ g)) in
          let x_is : x ≡ y = same_Some x y (sym at_x ∙ (ap (λ n. slice_get xs n) k_is ∙ h)) in
          subst (λ n. P n y) k_is (subst (λ z. P k z) x_is holds)

  weaker : (P Q : ℕ → A → Type 0) (i : ℕ) → ((k : ℕ) (x : A) → P k x → Q k x) → Seen i P → Seen i Q
  weaker P Q i h seen j k x lt g at = h k x (seen j k x lt g at)

  -- where the list has each place that passes
  abbrev pub Covers : Type 0
  Covers = (k : ℕ) (x : A) → slice_get xs k ≡ Some x → p x ≡ true → Contains ks k

  seen_all : (P : ℕ → A → Type 0) → Covers → Seen (length ks) P → (k : ℕ) (x : A) → slice_get xs k ≡ Some x → p x ≡ true → P k x
  seen_all P covers seen k x at passed = let c = at_contains ks k (covers k x at passed) in seen c.0 k x (slice_get_within ks c.0 k c.1) c.1 at

  all_fail : Covers → Seen (length ks) (λ k x. p x ≡ false) → (k : ℕ) (x : A) → slice_get xs k ≡ Some x → p x ≡ false
  all_fail covers seen k x at = by_test (p x) refl
    where
      by_test : (b : Bool) → p x ≡ b → p x ≡ false
      by_test false e = e
      by_test true e = seen_all (λ k x. p x ≡ false) covers seen k x at e

  -- the least place so far
  pub record LeastOf (i b : ℕ) : Type 0 where
    pub item : A
    pub at : slice_get xs b ≡ Some item
    pub passes : p item ≡ true
    pub least : Seen i (λ k x. p x ≡ true → b ≤ k)

  abbrev pub IsLeastOf : ℕ → Option ℕ → Type 0
  IsLeastOf i None = Seen i (λ k x. p x ≡ false)
  IsLeastOf i (Some b) = LeastOf i b

  pub least_start : IsLeastOf 0 None
  least_start j k x lt g at = absurd (omega arith)

  module _ (i k : ℕ) (x : A) (at : slice_get ks i ≡ Some k) (at_x : slice_get xs k ≡ Some x) where
    pub least_failed : (o : Option ℕ) → IsLeastOf i o → p x ≡ false → IsLeastOf (i + 1) o
    least_failed None h e = seen_more (λ k x. p x ≡ false) i k x h at at_x e
    least_failed (Some b) h e = record { item = h.item; at = h.at; passes = h.passes; least = seen_more (λ k x. p x ≡ true → b ≤ k) i k x h.least at at_x (λ q. absurd (cc (e, q))) }

    min_cases : (m n : ℕ) → ((min m n ≡ m) × (m ≤ n)) ⊎ ((min m n ≡ n) × (n ≤ m))
    min_cases m n = grind arith

    pub least_passed : (o : Option ℕ) → IsLeastOf i o → p x ≡ true → IsLeastOf (i + 1) (smaller o (Some k))
    least_passed None h e = record {
      item = x;
      at = at_x;
      passes = e;
      least = seen_more (λ m y. p y ≡ true → k ≤ m) i k x
          (weaker (λ m y. p y ≡ false) (λ m y. p y ≡ true → k ≤ m) i (λ m y f q. absurd (cc (f, q))) h) at at_x (λ q. omega arith);
    }
    least_passed (Some b) h e = by_case (min_cases b k)
      where
        by_case : ((min b k ≡ b) × (b ≤ k)) ⊎ ((min b k ≡ k) × (k ≤ b)) → LeastOf (i + 1) (min b k)
        by_case (inl c) = subst (λ (n : ℕ). LeastOf (i + 1) n) (sym c.0)
            (record { item = h.item; at = h.at; passes = h.passes; least = seen_more (λ m y. p y ≡ true → b ≤ m) i k x h.least at at_x (λ q. c.1) })
        by_case (inr c) = subst (λ (n : ℕ). LeastOf (i + 1) n) (sym c.0)
            (record {
              item = x;
              at = at_x;
              passes = e;
              least = seen_more (λ m y. p y ≡ true → k ≤ m) i k x
                  (weaker (λ m y. p y ≡ true → b ≤ m) (λ m y. p y ≡ true → k ≤ m) i (λ m y f q. let le : b ≤ m = f q in let c1 : k ≤ b = c.1 in omega arith) h.least) at at_x (λ q. omega arith);
            })

  pub least_all : (o : Option ℕ) → Covers → IsLeastOf (length ks) o → o ≡ first p xs
  least_all None covers h = first_none p xs (λ k y lt g. all_fail covers h k y g)
  least_all (Some b) covers h = first_is p xs b h.item h.at h.passes (λ k y lt g. by_test k y lt g (p y) refl)
    where
      by_test : (k : ℕ) (y : A) → k < b → slice_get xs k ≡ Some y → (c : Bool) → p y ≡ c → p y ≡ false
      by_test k y lt g false e = e
      by_test k y lt g true e = absurd (let le : b ≤ k = seen_all (λ m y. p y ≡ true → b ≤ m) covers h.least k y g e e in omega arith)

  module _ (f : A → ℕ) where
    -- the place b, of value m, comes no later than k
    abbrev NoLater : ℕ → ℕ → ℕ → A → Type 0
    NoLater b m k x = p x ≡ true → (m ≤ f x) × (f x ≡ m → b ≤ k)

    -- the best place so far
    pub record BestOf (i b m : ℕ) : Type 0 where
      pub item : A
      pub at : slice_get xs b ≡ Some item
      pub passes : p item ≡ true
      pub value : f item ≡ m
      pub best : Seen i (NoLater b m)

    abbrev pub IsBestOf : ℕ → Option (ℕ × ℕ) → Type 0
    IsBestOf i None = Seen i (λ k x. p x ≡ false)
    IsBestOf i (Some b) = BestOf i b.0 b.1

    pub best_start : IsBestOf 0 None
    best_start j k x lt g at = absurd (omega arith)

    module _ (i k : ℕ) (x : A) (at : slice_get ks i ≡ Some k) (at_x : slice_get xs k ≡ Some x) where
      pub best_failed : (o : Option (ℕ × ℕ)) → IsBestOf i o → p x ≡ false → IsBestOf (i + 1) o
      best_failed None h e = seen_more (λ k x. p x ≡ false) i k x h at at_x e
      best_failed (Some b) h e = record { item = h.item; at = h.at; passes = h.passes; value = h.value; best = seen_more (NoLater b.0 b.1) i k x h.best at at_x (λ q. absurd (cc (e, q))) }

      new_best : p x ≡ true → Seen i (NoLater k (f x)) → BestOf (i + 1) k (f x)
      new_best e seen = record { item = x; at = at_x; passes = e; value = refl; best = seen_more (NoLater k (f x)) i k x seen at at_x (λ q. (omega arith, λ r. omega arith)) }

      old_best : (b m : ℕ) → BestOf i b m → m ≤ f x → (f x ≡ m → b ≤ k) → BestOf (i + 1) b m
      old_best b m h le tie = record { item = h.item; at = h.at; passes = h.passes; value = h.value; best = seen_more (NoLater b m) i k x h.best at at_x (λ q. (le, tie)) }

      pub best_passed : (o : Option (ℕ × ℕ)) → IsBestOf i o → p x ≡ true → IsBestOf (i + 1) (earlier o k (f x))
      best_passed None h e = new_best e (weaker (λ m y. p y ≡ false) (NoLater k (f x)) i (λ m y g q. absurd (cc (g, q))) h)
      best_passed (Some b) h e = by_less (nat_lt (f x) b.1) refl
        where
          by_tie : (c d : Bool) → (f x == b.1) ≡ c → nat_lt k b.0 ≡ d → nat_lt (f x) b.1 ≡ false → IsBestOf (i + 1) (cond (c && d) (Some (k, f x)) (Some b))
          by_tie true true s t later = new_best e (weaker (NoLater b.0 b.1) (NoLater k (f x)) i (λ m y g q.
              let same : f x ≡ b.1 = grind (arith, nat_tests) in
              let less : k < b.0 = grind (arith, nat_tests) in
              let le : b.1 ≤ f y = (g q).0 in
              (omega arith, λ r. let tie : b.0 ≤ m = (g q).1 (r ∙ same) in omega arith)) h.best)
          by_tie true false s t later = old_best b.0 b.1 h (grind (arith, nat_tests)) (λ r. grind (arith, nat_tests))
          by_tie false d s t later = old_best b.0 b.1 h (grind (arith, nat_tests)) (λ r. absurd (let ne : f x ≡ b.1 → ⊥ = grind (arith, nat_tests) in ne r))

          by_less : (c : Bool) → nat_lt (f x) b.1 ≡ c → IsBestOf (i + 1) (cond c (Some (k, f x)) (cond ((f x == b.1) && nat_lt k b.0) (Some (k, f x)) (Some b)))
          by_less true t = new_best e (weaker (NoLater b.0 b.1) (NoLater k (f x)) i (λ m y g q.
              let less : f x < b.1 = grind (arith, nat_tests) in
              let le : b.1 ≤ f y = (g q).0 in
              (omega arith, λ r. absurd (omega arith))) h.best)
          by_less false t = by_tie (f x == b.1) (nat_lt k b.0) refl refl t

    pub best_all : (o : Option (ℕ × ℕ)) → Covers → IsBestOf (length ks) o → option_map (λ (b : ℕ × ℕ). b.0) o ≡ earliest p f xs
    best_all None covers h = earliest_none p f xs (all_fail covers h)
    best_all (Some b) covers h =
        let v : f h.item ≡ b.1 = h.value in
        earliest_is p f xs b.0 h.item h.at h.passes
        (λ j y g q. let le : b.1 ≤ f y = (seen_all (NoLater b.0 b.1) covers h.best j y g q q).0 in omega arith)
        (λ j y lt g q. strict j y lt v (seen_all (NoLater b.0 b.1) covers h.best j y g q q).0 (seen_all (NoLater b.0 b.1) covers h.best j y g q q).1
        (same_or_more (f y) b.1 (seen_all (NoLater b.0 b.1) covers h.best j y g q q).0))
      where
        same_or_more : (m n : ℕ) → n ≤ m → (n < m) ⊎ (m ≡ n)
        same_or_more m n le = grind arith

        strict : (j : ℕ) (y : A) → j < b.0 → f h.item ≡ b.1 → b.1 ≤ f y → (f y ≡ b.1 → b.0 ≤ j) → (b.1 < f y) ⊎ (f y ≡ b.1) → f h.item < f y
        strict j y lt v le tie (inl less) = omega arith
        strict j y lt v le tie (inr e) = absurd (let no_less : b.0 ≤ j = tie e in omega arith)

-- an element that is not the one taken out stays
pub others_stay : (xs : List ℕ) (i id x : ℕ) → i < length xs → x ≡ get_or xs i x → x ≡ id → (k : ℕ) → k ≢ id → Contains xs k → Contains (swap_remove xs i x) k
others_stay xs i id x lt is e k ne c = by_case (contains_cases x (swap_remove xs i x) k (Contains-permutation xs (x ∷ swap_remove xs i x) k (IsPermutation-swap_remove xs i x lt is) c))
  where
    by_case : (x ≡ k) ⊎ Contains (swap_remove xs i x) k → Contains (swap_remove xs i x) k
    by_case (inl s) = absurd (ne (sym s ∙ e))
    by_case (inr c) = c

-- a node that a worker holds is taken
pub held_taken : {L : Type 0} (w : ℕ) (n : NodeOf L) → is_held_by w n ≡ true → is_taken n ≡ true
held_taken w n = by_state n.state
  where
    by_state : (s : NodeState) → is_taken_by w s ≡ true → is_taken_state s ≡ true
    by_state Pending h = absurd (cc)
    by_state (Taken v) h = refl
    by_state Done h = absurd (cc)
