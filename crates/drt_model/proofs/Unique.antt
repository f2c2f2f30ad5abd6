-- The best pending job is one alone, and stays the best while nothing is released and it isn't done.
use Rattle.std.proofs.Common.{inl, inr, ◌⊎◌, ◌≡◌, ℕ, zero, suc, ◌+◌, ◌<◌, ◌≤◌, Bool, true, false, List, [], ◌∷◌, length, get_or, filter, Option, Some, None, All, refl, ap, ◌∙◌, subst, arith}
use Rattle.std.specs.List.{range_with_len}
use Rattle.std.proofs.lemmas.Bool.{cases_Bool, both_ways}
use Rattle.std.proofs.lemmas.List.Elements.{All-nil, All-cons, All-weaker, All-contains}
use Rattle.drt_model.specs.declared.jobs.Job.{Job}
use Rattle.drt_model.specs.declared.jobs.Policy.{Policy}
use Rattle.drt_model.specs.Trace.{job_at, goes_before, better, best, pending, is_pending, trace, pick, done}
use Rattle.drt_model.proofs.Order.{goes_before-order}
use Rattle.drt_model.proofs.MachineLemmas.{IsPending, pick_pending, pick_some, pending-contains, done_cases, done-picked, done-idle, pick_none, in_range}

-- k goes before x, or neither goes before the other and k isn't behind
abbrev pub IsAhead : Policy → List Job → ℕ → ℕ → Type 0
IsAhead policy jobs k x = (goes_before policy jobs k x ≡ true) ⊎ ((goes_before policy jobs x k ≡ false) × (k ≤ x))

-- places in order
abbrev pub IsAscending : List ℕ → Type 0
IsAscending [] = Unit {0}
IsAscending (j ∷ others) = All (λ x. j < x) others × IsAscending others

none_if : (o : Option ℕ) → ((k : ℕ) → o ≡ Some k → ⊥) → o ≡ None
none_if None h = refl
none_if (Some k) h = absurd (h k refl)

module _ (policy : Policy) (jobs : List Job) where
  not_behind : (k x : ℕ) → IsAhead policy jobs k x → goes_before policy jobs x k ≡ false
  not_behind k x (inl h) = (goes_before-order policy jobs).one_way k x h
  not_behind k x (inr h) = h.0

  ahead_self : (k : ℕ) → IsAhead policy jobs k k
  ahead_self k = elim (cases_Bool (goes_before policy jobs k k)) [ inl t ↦ inl t | inr f ↦ inr (f, omega arith) ]

  pub ahead_one : (j k : ℕ) → IsAhead policy jobs j k → IsAhead policy jobs k j → j ≡ k
  ahead_one j k (inl h) b = absurd (both_ways (goes_before policy jobs j k) (not_behind k j b) h)
  ahead_one j k (inr h) (inl b) = absurd (both_ways (goes_before policy jobs k j) h.0 b)
  ahead_one j k (inr h) (inr b) = omega arith

  abbrev AheadOf : List ℕ → Option ℕ → Type 0
  AheadOf places None = Unit {0}
  AheadOf places (Some k) = All (IsAhead policy jobs k) places

  ahead_cons : (j : ℕ) (others : List ℕ) (o : Option ℕ) → All (λ x. j < x) others → (o ≡ None → others ≡ []) → AheadOf others o → All (IsAhead policy jobs (better policy jobs j o)) (j ∷ others)
  unfolding better
  ahead_cons j others None a e f = All-cons (IsAhead policy jobs j) j others (ahead_self j) (rw (e refl) (All-nil (IsAhead policy jobs j)))
  ahead_cons j others (Some k) a e f = elim (cases_Bool (goes_before policy jobs k j)) [
    | inl t ↦ rw t (All-cons (IsAhead policy jobs k) j others (inl t) f)
    | inr t ↦ rw t (All-cons (IsAhead policy jobs j) j others (ahead_self j)
        (λ i d h. inr ((goes_before-order policy jobs).chain (get_or others i d) k j (not_behind k (get_or others i d) (f i d h)) t, (let lt = a i d h in omega arith))))
  ]

  best_none : (places : List ℕ) → best policy jobs places ≡ None → places ≡ []
  unfolding best
  best_none [] e = refl
  best_none (j ∷ others) e = cc

  best_ahead : (places : List ℕ) → IsAscending places → AheadOf places (best policy jobs places)
  unfolding best
  best_ahead [] a = tt
  best_ahead (j ∷ others) a = ahead_cons j others (best policy jobs others) a.0 (best_none others) (best_ahead others a.1)

  ascending_range : (p : ℕ → Bool) (n a : ℕ) → IsAscending (filter p (range_with_len a n)) × All (λ x. a ≤ x) (filter p (range_with_len a n))
  ascending_range p zero a = (tt, All-nil (λ x. a ≤ x))
  ascending_range p (suc n) a =
      let (up, low) = ascending_range p n (a + 1) in
      elim (cases_Bool (p a)) [
        | inl t ↦ rw t (
          (All-weaker (λ x. a + 1 ≤ x) (λ x. a < x) (λ x h. omega arith) (filter p (range_with_len (a + 1) n)) low, up),
          All-cons (λ x. a ≤ x) a (filter p (range_with_len (a + 1) n)) (omega arith) (All-weaker (λ x. a + 1 ≤ x) (λ x. a ≤ x) (λ x h. omega arith) (filter p (range_with_len (a + 1) n)) low),
        )
        | inr f ↦ rw f (up, All-weaker (λ x. a + 1 ≤ x) (λ x. a ≤ x) (λ x h. omega arith) (filter p (range_with_len (a + 1) n)) low)
      ]

  -- the job of a tick is ahead of each pending one
  pub pick_ahead : (n j k : ℕ) → pick policy jobs n ≡ Some j → IsPending policy jobs n k → IsAhead policy jobs j k
  unfolding pick pending
  pick_ahead n j k e h =
      let places = filter (is_pending jobs (trace policy jobs n)) (range_with_len 0 (length jobs)) in
      let all : All (IsAhead policy jobs j) places = subst (AheadOf places) e (best_ahead places (ascending_range (is_pending jobs (trace policy jobs n)) (length jobs) 0).0) in
      All-contains (IsAhead policy jobs j) places k all (pending-contains policy jobs n k h)

  -- a pending job that is ahead of each pending one is the job of the tick
  pub pick_is : (n j : ℕ) → IsPending policy jobs n j → ((k : ℕ) → IsPending policy jobs n k → IsAhead policy jobs j k) → pick policy jobs n ≡ Some j
  pick_is n j h f =
      let (k, e) = pick_some policy jobs n j h in
      e ∙ ap Some (ahead_one k j (pick_ahead n k j e h) (f k (pick_pending policy jobs n k e)))

  -- the next tick runs the same job, unless it is done or a job is released
  pub pick_stays : (n j : ℕ) → pick policy jobs n ≡ Some j → done policy jobs j n + 1 < (job_at jobs j).need
      → ((k : ℕ) → k < length jobs → (job_at jobs k).time ≡ suc n → ⊥) → pick policy jobs (suc n) ≡ Some j
  pick_stays n j e left quiet =
      let p = pick_pending policy jobs n j e in
      pick_is (suc n) j (record { released = omega (arith, p.released); lacks = omega (arith, done-picked policy jobs n j e) })
      (λ k q. pick_ahead n j k e (record {
        released = (let ne : (job_at jobs k).time ≡ suc n → ⊥ = quiet k (in_range policy jobs (suc n) k q) in omega (arith, q.released, ne));
        lacks = elim (done_cases policy jobs n k) [ inl (_, d) ↦ omega (arith, d, q.lacks) | inr (_, d) ↦ omega (arith, d, q.lacks) ];
      }))

  -- and an idle tick is followed by one, unless a job is released
  pub idle_stays : (n : ℕ) → pick policy jobs n ≡ None → ((k : ℕ) → k < length jobs → (job_at jobs k).time ≡ suc n → ⊥) → pick policy jobs (suc n) ≡ None
  idle_stays n e quiet = none_if (pick policy jobs (suc n)) (λ k f.
      (let q = pick_pending policy jobs (suc n) k f in
      let ne : (job_at jobs k).time ≡ suc n → ⊥ = quiet k (in_range policy jobs (suc n) k q) in
      pick_none policy jobs n k e (record { released = omega (arith, q.released, ne); lacks = omega (arith, q.lacks, done-idle policy jobs n k e) })))
