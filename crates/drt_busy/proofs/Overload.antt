-- Where jobs need more than there are ticks, one of them misses.
use Rattle.std.proofs.Common.{inl, inr, ◌⊎◌, ◌≡◌, ℕ, zero, suc, ◌+◌, ◌<◌, ◌≤◌, Bool, true, false, ◌&&◌, eqb, leb, ltb, List, length, Some, refl, ap, arith}
use Rattle.std.proofs.lemmas.Bool.{cases_eq, cases_lt, cases_Bool, both_ways, le-ltb, leb-true, ltb-true, and_parts, or_cases, eqb-true}
use Rattle.std.proofs.lemmas.List.Sums.{count_by-le-length}
use Rattle.drt_model.specs.declared.jobs.Job.{Job}
use Rattle.drt_model.specs.declared.jobs.Policy.{Policy}
use Rattle.drt_model.specs.declared.jobs.Policy.TheVariants.{Fixed}
use Rattle.drt_model.specs.Trace.{job_at, pick, trace, done, Misses, goes_before}
use Rattle.drt_model.proofs.MachineLemmas.{pick_pending, pick_first, in_range, length-trace, done_mono_le, done-le-suc}
use Rattle.drt_busy.proofs.Busy.{served, served-work, work, work_of, work_of-in, due-in, demand, due_of, is_due_by, is_pick_in}
use Rattle.drt_busy.proofs.Fixed.{is_higher, is_higher_or, as_or, higher_or-self, due-other, demand-below, higher_favoured, is_higher-self}

module _ (policy : Policy) (jobs : List Job) (p : ℕ → Bool) where
  -- each tick serves at most once
  pub served-le : (n : ℕ) → served policy jobs p n ≤ n
  unfolding served
  served-le n = omega (arith, count_by-le-length (is_pick_in p) (trace policy jobs n), length-trace policy jobs n)

  due_is : (b m : ℕ) → (p m && (leb 0 (job_at jobs m).time && ltb (job_at jobs m).time b)) ≡ true → due_of policy jobs p 0 b m ≡ (job_at jobs m).need
  unfolding due_of
  due_is b m t = rw t refl

  due_none : (b m : ℕ) → (p m && (leb 0 (job_at jobs m).time && ltb (job_at jobs m).time b)) ≡ false → due_of policy jobs p 0 b m ≡ 0
  unfolding due_of
  due_none b m t = rw t refl

  due_done : (b n m : ℕ) → (p m ≡ true → (job_at jobs m).time < b → (job_at jobs m).need ≤ done policy jobs m n) → due_of policy jobs p 0 b m ≤ work_of policy jobs p n m
  due_done b n m f = elim (cases_Bool (p m && (leb 0 (job_at jobs m).time && ltb (job_at jobs m).time b))) [
    | inl t ↦
        (let (of_set, timed) = and_parts (p m) (leb 0 (job_at jobs m).time && ltb (job_at jobs m).time b) t in
        let (_, before) = and_parts (leb 0 (job_at jobs m).time) (ltb (job_at jobs m).time b) timed in
        omega (arith, due_is b m t, work_of-in policy jobs p n m of_set, f of_set (ltb-true (job_at jobs m).time b before)))
    | inr f' ↦ omega (arith, due_none b m f')
  ]

  -- jobs of the set that are done have had all that is due
  demand-done : (b n m : ℕ) → ((i : ℕ) → i < m → p i ≡ true → (job_at jobs i).time < b → (job_at jobs i).need ≤ done policy jobs i n) → demand policy jobs p m 0 b ≤ work policy jobs p m n
  unfolding demand work
  demand-done b n zero h = omega arith
  demand-done b n (suc m) h = omega (arith, demand-done b n m (λ i l. h i (omega arith)), due_done b n m (h m (omega arith)))

  -- so at n ticks no more than n is due of a set that is done
  pub done_fits : (b n : ℕ) → ((i : ℕ) → i < length jobs → p i ≡ true → (job_at jobs i).time < b → (job_at jobs i).need ≤ done policy jobs i n) → demand policy jobs p (length jobs) 0 b ≤ n
  done_fits b n h = omega (arith, demand-done b n (length jobs) h, served-work policy jobs p n, served-le n)

module _ (policy : Policy) (jobs : List Job) (d : ℕ) where
  -- either some job that is due by d misses, or none of the first m does
  miss_or_met : (m : ℕ) → ((j : ℕ) × (j < m) × ((job_at jobs j).deadline ≤ d) × Misses policy jobs j) ⊎ ((i : ℕ) → i < m → (job_at jobs i).deadline ≤ d → (job_at jobs i).need ≤ done policy jobs i d)
  miss_or_met zero = inr (λ i l. absurd (omega arith))
  miss_or_met (suc m) = elim (miss_or_met m) [
    | inl (j, l, due, miss) ↦ inl (j, omega arith, due, miss)
    | inr met ↦ elim (cases_lt d (job_at jobs m).deadline) [
      | inl late ↦ inr (λ i l due. elim (cases_eq i m) [ inl e ↦ absurd (omega (arith, ap (λ k. (job_at jobs k).deadline) e)) | inr ne ↦ met i (omega arith) due ])
      | inr due ↦ elim (cases_lt (done policy jobs m (job_at jobs m).deadline) (job_at jobs m).need) [
        | inl miss ↦ inl (m, omega arith, due, miss)
        | inr had ↦ inr (λ i l due'. elim (cases_eq i m) [
          | inl e ↦ rw e (omega (arith, had, done_mono_le policy jobs m (job_at jobs m).deadline d due))
          | inr ne ↦ met i (omega arith) due'
        ])
      ]
    ]
  ]

  -- Under any policy: where the jobs that are due by d need more than d ticks, one of them misses.
  pub overloaded_misses : d < demand policy jobs (is_due_by jobs d) (length jobs) 0 d → (j : ℕ) × (j < length jobs) × ((job_at jobs j).deadline ≤ d) × Misses policy jobs j
  overloaded_misses h = elim (miss_or_met (length jobs)) [
    | inl m ↦ m
    | inr met ↦ absurd (omega (arith, h, done_fits policy jobs (is_due_by jobs d) d d (λ i l t _. met i l (leb-true (job_at jobs i).deadline d t))))
  ]

module _ (jobs : List Job) (j b : ℕ) where
  due_self : (job_at jobs j).time < b → due_of Fixed jobs (is_higher_or jobs j) 0 b j ≡ (job_at jobs j).need
  due_self h = due-in Fixed jobs (is_higher_or jobs j) 0 b j (higher_or-self jobs j) (omega arith) h

  due_higher_self : due_of Fixed jobs (is_higher jobs j) 0 b j ≡ 0
  unfolding due_of is_higher
  due_higher_self = rw (le-ltb (job_at jobs j).priority (job_at jobs j).priority (omega arith)) refl

  demand-with : (m : ℕ) → j < m → (job_at jobs j).time < b → demand Fixed jobs (is_higher jobs j) m 0 b + (job_at jobs j).need ≤ demand Fixed jobs (is_higher_or jobs j) m 0 b
  unfolding demand
  demand-with zero l h = absurd (omega arith)
  demand-with (suc m) l h = elim (cases_eq m j) [
    | inl e ↦ (let below = demand-below jobs j 0 b m (omega arith) in rw e (omega (arith, rw e at below, due_self h, due_higher_self)))
    | inr ne ↦ omega (arith, demand-with m (omega arith) h, due-other jobs j 0 b m ne)
  ]

-- Under fixed priorities: when job j has its last tick, its need and all that the higher tasks released before have had their ticks.
pub finish_fits : (jobs : List Job) (j n : ℕ) → pick Fixed jobs n ≡ Some j → done Fixed jobs j (suc n) ≡ (job_at jobs j).need
    → demand Fixed jobs (is_higher jobs j) (length jobs) 0 (suc n) + (job_at jobs j).need ≤ suc n
finish_fits jobs j n e last =
    let q = pick_pending Fixed jobs n j e in
    let here = in_range Fixed jobs n j q in
    let met : (i : ℕ) → i < length jobs → is_higher_or jobs j i ≡ true → (job_at jobs i).time < suc n → (job_at jobs i).need ≤ done Fixed jobs i (suc n) =
    λ i l t r. elim (or_cases (is_higher jobs j i) (eqb i j) (as_or jobs j i t)) [
      | inr s ↦ (let same = eqb-true i j s in omega (arith, last, ap (λ k. (job_at jobs k).need) same, ap (λ k. done Fixed jobs k (suc n)) same))
      | inl h ↦ elim (cases_lt (done Fixed jobs i n) (job_at jobs i).need) [
        | inr had ↦ omega (arith, had, done-le-suc Fixed jobs i n)
        | inl lacks ↦ absurd (both_ways (goes_before Fixed jobs i j) (pick_first Fixed jobs n j i e (record { released = omega arith; lacks = lacks }))
            (higher_favoured jobs j i j h (is_higher-self jobs j)))
      ]
    ] in
    omega (arith, demand-with jobs j (suc n) (length jobs) here (omega (arith, q.released)), done_fits Fixed jobs (is_higher_or jobs j) (suc n) (suc n) met)
