-- Under fixed priorities a miss shows a start of the higher tasks' busy time from which no length up to the deadline suffices.
use Rattle.std.proofs.Common.{inl, inr, ◌⊎◌, ◌≡◌, ℕ, zero, suc, ◌+◌, ◌<◌, ◌≤◌, Bool, true, false, ◌&&◌, ◌||◌, cond, eqb, leb, ltb, List, length, Option, Some, None, refl, ap, arith}
use Rattle.std.proofs.lemmas.Bool.{cases_eq, cases_lt, cases_Bool, lt-ltb, ltb-true, ltb-false, le-ltb, eq-eqb, ne_eqb, or_left, or_right, or_cases, eqb-true}
use Rattle.std.proofs.lemmas.Bool.Decides.{nat_tests}
use Rattle.drt_model.specs.declared.jobs.Job.{Job}
use Rattle.drt_model.specs.declared.jobs.Policy.TheVariants.{Fixed}
use Rattle.drt_model.specs.Trace.{job_at, pick, done, goes_before, is_before, Misses}
use Rattle.drt_model.proofs.MachineLemmas.{IsPending, pick_pending, pick_first, pick_some, in_range, done_mono_le}
use Rattle.drt_busy.proofs.Busy.{IsQuiet, IsFavoured, is_pick_in, served_run, served-work, work-demand, work-demand-lt, demand, due_of, last_quiet, busy_before}

or-false : (x : Bool) → (x || false) ≡ x
or-false true = refl
or-false false = refl

tests_say : (a b x y : ℕ) → (ltb b a || (eqb b a && (ltb y x || (eqb y x && false)))) ≡ false → (a < b) ⊎ ((a ≡ b) × (x ≤ y))
tests_say a b x y h = grind (arith, nat_tests)

module _ (jobs : List Job) where
  -- the jobs of the tasks above that of job j
  unfoldable pub is_higher : ℕ → ℕ → Bool
  is_higher j i = ltb (job_at jobs i).priority (job_at jobs j).priority

  -- those, and job j
  unfoldable pub is_higher_or : ℕ → ℕ → Bool
  is_higher_or j i = is_higher j i || eqb i j

  pub higher_favoured : (j : ℕ) → IsFavoured Fixed jobs (is_higher j)
  unfolding goes_before is_before is_higher
  higher_favoured j k i h g =
      let lt : (job_at jobs k).priority < (job_at jobs i).priority = omega
      (arith, ltb-true (job_at jobs k).priority (job_at jobs j).priority h, ltb-false (job_at jobs i).priority (job_at jobs j).priority g) in
      rw (lt-ltb (job_at jobs k).priority (job_at jobs i).priority lt) refl

  -- a job that j doesn't go before is of a higher task, or of the same one and no later
  no_lower : (j i : ℕ) → goes_before Fixed jobs j i ≡ false
      → ((job_at jobs i).priority < (job_at jobs j).priority) ⊎ (((job_at jobs i).priority ≡ (job_at jobs j).priority) × ((job_at jobs i).time ≤ (job_at jobs j).time))
  unfolding goes_before is_before
  no_lower j i h = tests_say (job_at jobs i).priority (job_at jobs j).priority (job_at jobs i).time (job_at jobs j).time h

  -- earlier jobs of its task are done when job j is released
  abbrev pub AreEarlierDone : ℕ → Type 0
  AreEarlierDone j = (i : ℕ) → (i ≡ j → ⊥) → (job_at jobs i).priority ≡ (job_at jobs j).priority → (job_at jobs i).time ≤ (job_at jobs j).time
      → (job_at jobs i).need ≤ done Fixed jobs i (job_at jobs j).time

  pub is_higher-self : (j : ℕ) → is_higher j j ≡ false
  unfolding is_higher
  is_higher-self j = le-ltb (job_at jobs j).priority (job_at jobs j).priority (omega arith)

  pub higher_or-self : (j : ℕ) → is_higher_or j j ≡ true
  unfolding is_higher_or
  higher_or-self j = or_right (is_higher j j) (eqb j j) (eq-eqb j j refl)

  pub as_or : (j i : ℕ) → is_higher_or j i ≡ true → (is_higher j i || eqb i j) ≡ true
  unfolding is_higher_or
  as_or j i h = h

  -- while j waits, the tick runs a higher job or j
  pick_above : (j n : ℕ) → AreEarlierDone j → (job_at jobs j).time ≤ n → done Fixed jobs j n < (job_at jobs j).need → is_pick_in (is_higher_or j) (pick Fixed jobs n) ≡ true
  unfolding is_higher_or is_higher
  pick_above j n earlier r l =
      let p : IsPending Fixed jobs n j = record { released = r; lacks = l } in
      let (i, e) = pick_some Fixed jobs n j p in
      let q = pick_pending Fixed jobs n i e in
      rw e (elim (cases_eq i j) [
        | inl s ↦ or_right (is_higher j i) (eqb i j) (eq-eqb i j s)
        | inr ne ↦ elim (no_lower j i (pick_first Fixed jobs n i j e p)) [
          | inl h ↦ or_left (is_higher j i) (eqb i j) (lt-ltb (job_at jobs i).priority (job_at jobs j).priority h)
          | inr (same, t) ↦ absurd (omega (arith, earlier i ne same t, done_mono_le Fixed jobs i (job_at jobs j).time n r, q.lacks))
        ]
      ])

  pick_higher_or : (j : ℕ) (o : Option ℕ) → is_pick_in (is_higher j) o ≡ true → is_pick_in (is_higher_or j) o ≡ true
  unfolding is_higher_or
  pick_higher_or j None h = h
  pick_higher_or j (Some i) h = or_left (is_higher j i) (eqb i j) h

  module _ (j a b : ℕ) where
    pub higher_or-other : (i : ℕ) → (i ≡ j → ⊥) → is_higher_or j i ≡ is_higher j i
    unfolding is_higher_or
    higher_or-other i ne = rw (ne_eqb i j ne) (or-false (is_higher j i))

    pub due-other : (i : ℕ) → (i ≡ j → ⊥) → due_of Fixed jobs (is_higher_or j) a b i ≡ due_of Fixed jobs (is_higher j) a b i
    unfolding due_of
    due-other i ne = ap (λ x. cond (x && (leb a (job_at jobs i).time && ltb (job_at jobs i).time b)) (job_at jobs i).need 0) (higher_or-other i ne)

    due-le-need : (p : ℕ → Bool) (i : ℕ) → due_of Fixed jobs p a b i ≤ (job_at jobs i).need
    unfolding due_of
    due-le-need p i = elim (cases_Bool (p i && (leb a (job_at jobs i).time && ltb (job_at jobs i).time b))) [ inl t ↦ rw t (omega arith) | inr t ↦ rw t (omega arith) ]

    pub demand-below : (m : ℕ) → m ≤ j → demand Fixed jobs (is_higher_or j) m a b ≡ demand Fixed jobs (is_higher j) m a b
    unfolding demand
    demand-below zero h = refl
    demand-below (suc m) h = omega (arith, demand-below m (omega arith), due-other m (λ e. omega arith))

    demand-or : (m : ℕ) → demand Fixed jobs (is_higher_or j) m a b ≤ demand Fixed jobs (is_higher j) m a b + (job_at jobs j).need
    unfolding demand
    demand-or zero = omega arith
    demand-or (suc m) = elim (cases_eq m j) [
      | inl e ↦ omega (arith, demand-below m (omega arith), rw e at (due-le-need (is_higher_or j) m), ap (λ i. due_of Fixed jobs (is_higher_or j) a b i) e)
      | inr ne ↦ omega (arith, demand-or m, due-other m ne)
    ]

  -- a job that lacks ticks at d: from some start of the higher tasks' busy time no length up to d has room
  pub late_overload : (j d : ℕ) → AreEarlierDone j → done Fixed jobs j d < (job_at jobs j).need → (s : ℕ) × (s ≤ (job_at jobs j).time)
      × ((t : ℕ) → 1 ≤ t → (job_at jobs j).time + t ≤ d → t < (job_at jobs j).need + demand Fixed jobs (is_higher j) (length jobs) s (s + t))
  late_overload j d earlier miss =
      let r = (job_at jobs j).time in
      let p = is_higher j in
      let p' = is_higher_or j in
      let (s, h, q, f) = last_quiet Fixed jobs p r in
      let higher : (n : ℕ) → s ≤ n → n < r
      → is_pick_in p (pick Fixed jobs n) ≡ true = λ n l u. (let w = f (suc n) (omega arith) (omega arith) in busy_before Fixed jobs p (higher_favoured j) n w.0 w.1) in
      let quiet : IsQuiet Fixed jobs p' s = λ i e l. elim (or_cases (is_higher j i) (eqb i j) (as_or j i e)) [
        | inl t ↦ q i t l
        | inr t ↦ absurd (omega (arith, ap (λ k. (job_at jobs k).time) (eqb-true i j t)))
      ] in (
        s,
        h,
        λ t one due.
            (let lacks : done Fixed jobs j (s + t) < (job_at jobs j).need = omega (arith, miss, done_mono_le Fixed jobs j (s + t) d (omega arith)) in
            elim (cases_lt r (s + t)) [
              | inr early ↦
                  (let run = served_run Fixed jobs p s t (λ n l u. higher n l (omega arith)) in
                  omega (arith, run, served-work Fixed jobs p s, served-work Fixed jobs p (s + t), work-demand Fixed jobs p s (s + t) q (length jobs), miss))
              | inl late ↦
                  (let run = served_run Fixed jobs p' s t (λ n l u. elim (cases_lt n r) [
                    | inl before ↦ pick_higher_or j (pick Fixed jobs n) (higher n l before)
                    | inr after ↦ pick_above j n earlier after (omega (arith, miss, done_mono_le Fixed jobs j n d (omega arith)))
                  ]) in
                  let here : j < length jobs = in_range Fixed jobs (s + t) j (record { released = omega arith; lacks = lacks }) in
                  let less = work-demand-lt Fixed jobs p' s (s + t) quiet (length jobs) j here (higher_or-self j) late lacks h in
                  omega (arith, run, served-work Fixed jobs p' s, served-work Fixed jobs p' (s + t), less, demand-or j s (s + t) (length jobs)))
            ]),
      )

  pub fixed_overload : (j : ℕ) → AreEarlierDone j → Misses Fixed jobs j → (s : ℕ) × (s ≤ (job_at jobs j).time)
      × ((t : ℕ) → 1 ≤ t → (job_at jobs j).time + t ≤ (job_at jobs j).deadline → t < (job_at jobs j).need + demand Fixed jobs (is_higher j) (length jobs) s (s + t))
  fixed_overload j earlier miss = late_overload j (job_at jobs j).deadline earlier miss
