-- What the tick machine does.
use Rattle.std.proofs.Common.{inl, inr, ◌⊎◌, ◌≡◌, ℕ, zero, suc, ◌+◌, ◌-◌, ◌<◌, ◌≤◌, true, false, cond, ltb, leb, List, [], length, get_or, Option, Some, None, All, Contains, refl, sym, ap, ◌∙◌, subst, arith, add-zero, add-suc}
use Rattle.std.specs.List.{range_with_len}
use Rattle.std.proofs.lemmas.List.{length_push, get_or_past}
use Rattle.std.proofs.lemmas.List.Sums.{sum_by_push}
use Rattle.std.proofs.lemmas.List.Elements.{filter_passes, All-contains}
use Rattle.std.proofs.lemmas.List.FromFn.{get_or-range_with_len, length-range_with_len}
use Rattle.std.proofs.lemmas.Option.{same_Some}
use Rattle.std.proofs.lemmas.Bool.{false_from_ne_true, cases_lt, cases_eq, and_parts, and_from, leb-true, le-leb, ltb-true, lt-ltb, eq-eqb, ne_eqb}
use Rattle.drt_model.specs.declared.jobs.Job.{Job}
use Rattle.drt_model.specs.declared.jobs.Policy.{Policy}
use Rattle.drt_model.specs.Trace.{pick, job_at, is_pick_of, is_pending, pending, goes_before, trace, done}
use Rattle.drt_model.proofs.Neighbours.{kept}
use Rattle.drt_model.proofs.Order.{IsFirst, FirstOf, best_is_first}

-- after n ticks job j is released and lacks ticks
pub record IsPending (policy : Policy) (jobs : List Job) (n j : ℕ) : Type 0 where
  pub released : (job_at jobs j).time ≤ n
  pub lacks : done policy jobs j n < (job_at jobs j).need

some_if : (o : Option ℕ) → (o ≡ None → ⊥) → (k : ℕ) × (o ≡ Some k)
some_if None h = absurd (h refl)
some_if (Some k) h = (k, refl)

module _ (policy : Policy) (jobs : List Job) where
  pub length-trace : (n : ℕ) → length (trace policy jobs n) ≡ n
  unfolding trace pick
  length-trace zero = refl
  length-trace (suc n) = length_push (trace policy jobs n) (pick policy jobs n) ∙ omega (arith, length-trace n)

  pub done-zero : (j : ℕ) → done policy jobs j 0 ≡ 0
  unfolding done trace
  done-zero j = refl

  pub done-suc : (j n : ℕ) → done policy jobs j (suc n) ≡ done policy jobs j n + cond (is_pick_of j (pick policy jobs n)) 1 0
  unfolding done trace pick
  done-suc j n = sum_by_push (λ p. cond (is_pick_of j p) 1 0) (trace policy jobs n) (pick policy jobs n)

  pub need_past : (j : ℕ) → length jobs ≤ j → (job_at jobs j).need ≡ 0
  need_past j h = ap (λ job. job.need) (get_or_past jobs j (record { task = 0; priority = 0; time = 0; deadline = 0; need = 0 }) h)

  pub in_range : (n j : ℕ) → IsPending policy jobs n j → j < length jobs
  in_range n j p = elim (cases_lt j (length jobs)) [ inl h ↦ h | inr h ↦ absurd (omega (arith, need_past j h, p.lacks)) ]

  pub is_pending-true : (n j : ℕ) → is_pending jobs (trace policy jobs n) j ≡ true → IsPending policy jobs n j
  unfolding is_pending done
  is_pending-true n j h =
      let (t, d) = and_parts (leb (job_at jobs j).time (length (trace policy jobs n))) (ltb (done policy jobs j n) (job_at jobs j).need) h in
      record {
        released = rw length-trace at (leb-true (job_at jobs j).time (length (trace policy jobs n)) t);
        lacks = ltb-true (done policy jobs j n) (job_at jobs j).need d;
      }

  pub is_pending-from : (n j : ℕ) → IsPending policy jobs n j → is_pending jobs (trace policy jobs n) j ≡ true
  unfolding is_pending done
  is_pending-from n j p = and_from _ _ (le-leb _ _ (rw length-trace p.released)) (lt-ltb _ _ p.lacks)

  pub is_pending-no : (n j : ℕ) → (IsPending policy jobs n j → ⊥) → is_pending jobs (trace policy jobs n) j ≡ false
  is_pending-no n j h = false_from_ne_true (is_pending jobs (trace policy jobs n) j) (λ t. h (is_pending-true n j t))

  -- the pending jobs are those of the list `pending`
  pub pending-all : (n : ℕ) → All (IsPending policy jobs n) (pending jobs (trace policy jobs n))
  unfolding pending
  pending-all n k d h = is_pending-true n _ (filter_passes (is_pending jobs (trace policy jobs n)) (range_with_len 0 (length jobs)) k d h)

  pub pending-contains : (n j : ℕ) → IsPending policy jobs n j → Contains (pending jobs (trace policy jobs n)) j
  unfolding pending
  pending-contains n j p =
      let below = in_range n j p in
      let here : get_or (range_with_len 0 (length jobs)) j j ≡ j = get_or-range_with_len 0 (length jobs) j j below ∙ omega arith in
      let (c, in', same) = kept (is_pending jobs (trace policy jobs n)) (range_with_len 0 (length jobs)) j j (rw length-range_with_len below) (rw here (is_pending-from n j p)) in
      (c, in', same ∙ here)

  first_at : (n : ℕ) → FirstOf policy jobs (pending jobs (trace policy jobs n)) (pick policy jobs n)
  unfolding pick
  first_at n = best_is_first policy jobs (pending jobs (trace policy jobs n))

  first_at_some : (n j : ℕ) → pick policy jobs n ≡ Some j → IsFirst policy jobs (pending jobs (trace policy jobs n)) j
  first_at_some n j e = subst (FirstOf policy jobs (pending jobs (trace policy jobs n))) e (first_at n)

  -- the job of a tick is pending
  pub pick_pending : (n j : ℕ) → pick policy jobs n ≡ Some j → IsPending policy jobs n j
  pick_pending n j e = All-contains (IsPending policy jobs n) (pending jobs (trace policy jobs n)) j (pending-all n) (first_at_some n j e).member

  -- and no pending job goes before it
  pub pick_first : (n j k : ℕ) → pick policy jobs n ≡ Some j → IsPending policy jobs n k → goes_before policy jobs k j ≡ false
  pick_first n j k e p = All-contains (λ i. goes_before policy jobs i j ≡ false) (pending jobs (trace policy jobs n)) k (first_at_some n j e).first (pending-contains n k p)

  -- a tick is idle only where no job is pending
  pub pick_none : (n j : ℕ) → pick policy jobs n ≡ None → IsPending policy jobs n j → ⊥
  pick_none n j e p =
      let none : pending jobs (trace policy jobs n) ≡ [] = subst (FirstOf policy jobs (pending jobs (trace policy jobs n))) e (first_at n) in
      let (i, h, _) = pending-contains n j p in
      omega (arith, ap length none)

  -- where a job is pending, the tick runs some job
  pub pick_some : (n j : ℕ) → IsPending policy jobs n j → (k : ℕ) × (pick policy jobs n ≡ Some k)
  pick_some n j p = some_if (pick policy jobs n) (λ e. pick_none n j e p)

  -- a tick runs one job
  pub done-picked : (n j : ℕ) → pick policy jobs n ≡ Some j → done policy jobs j (suc n) ≡ done policy jobs j n + 1
  done-picked n j e = done-suc j n ∙ ap (λ o. done policy jobs j n + cond (is_pick_of j o) 1 0) e ∙ rw (eq-eqb j j refl)

  pub done-other : (n j k : ℕ) → pick policy jobs n ≡ Some k → (k ≡ j → ⊥) → done policy jobs j (suc n) ≡ done policy jobs j n
  done-other n j k e ne = done-suc j n ∙ ap (λ o. done policy jobs j n + cond (is_pick_of j o) 1 0) e ∙ rw (ne_eqb k j ne) (omega arith)

  pub done-idle : (n j : ℕ) → pick policy jobs n ≡ None → done policy jobs j (suc n) ≡ done policy jobs j n
  done-idle n j e = done-suc j n ∙ ap (λ o. done policy jobs j n + cond (is_pick_of j o) 1 0) e ∙ omega arith

  -- a job has a tick more after its own tick, and as many after another
  pub done_cases : (n j : ℕ) → ((pick policy jobs n ≡ Some j) × (done policy jobs j (suc n) ≡ done policy jobs j n + 1)) ⊎
      ((pick policy jobs n ≡ Some j → ⊥) × (done policy jobs j (suc n) ≡ done policy jobs j n))
  done_cases n j = cases_of (pick policy jobs n) refl where
    cases_of : (o : Option ℕ) → pick policy jobs n ≡ o → ((pick policy jobs n ≡ Some j) × (done policy jobs j (suc n) ≡ done policy jobs j n + 1)) ⊎
        ((pick policy jobs n ≡ Some j → ⊥) × (done policy jobs j (suc n) ≡ done policy jobs j n))
    cases_of None e = inr ((λ f. cc), done-idle n j e)
    cases_of (Some k) e = elim (cases_eq k j) [
      | inl s ↦ (let f = e ∙ ap Some s in inl (f, done-picked n j f))
      | inr ne ↦ inr ((λ f. ne (same_Some k j (sym e ∙ f))), done-other n j k e ne)
    ]

  -- a job never has more ticks than its need
  pub done-le-need : (j n : ℕ) → done policy jobs j n ≤ (job_at jobs j).need
  done-le-need j zero = omega (arith, done-zero j)
  done-le-need j (suc n) = elim (done_cases n j) [
    | inl (p, e) ↦ omega (arith, e, (pick_pending n j p).lacks)
    | inr (_, e) ↦ omega (arith, e, done-le-need j n)
  ]

  pub done-le-suc : (j n : ℕ) → done policy jobs j n ≤ done policy jobs j (suc n)
  done-le-suc j n = omega (arith, done-suc j n)

  -- ticks aren't taken back
  pub done_mono : (j m k : ℕ) → done policy jobs j m ≤ done policy jobs j (m + k)
  done_mono j m zero = rw add-zero (omega arith)
  done_mono j m (suc k) = rw add-suc (omega (arith, done_mono j m k, done-le-suc j (m + k)))

  pub done_mono_le : (j m n : ℕ) → m ≤ n → done policy jobs j m ≤ done policy jobs j n
  done_mono_le j m n h =
      let e : m + (n - m) ≡ n = omega arith in
      rw e at (done_mono j m (n - m))

  -- no ticks before the release
  pub done_unreleased : (j n : ℕ) → n ≤ (job_at jobs j).time → done policy jobs j n ≡ 0
  done_unreleased j zero h = done-zero j
  done_unreleased j (suc n) h = elim (done_cases n j) [
    | inl (p, e) ↦ absurd (omega (arith, (pick_pending n j p).released))
    | inr (_, e) ↦ e ∙ done_unreleased j n (omega arith)
  ]

  -- at most one tick for each tick
  pub done-le : (j n : ℕ) → done policy jobs j n ≤ n
  done-le j zero = omega (arith, done-zero j)
  done-le j (suc n) = elim (done_cases n j) [
    | inl (_, e) ↦ omega (arith, e, done-le j n)
    | inr (_, e) ↦ omega (arith, e, done-le j n)
  ]
