-- Busy intervals: from the last quiet point on, the machine runs jobs of a set without a pause.
use Rattle.std.proofs.Common.{inl, inr, ◌⊎◌, ◌≡◌, ℕ, zero, suc, ◌+◌, ◌-◌, ◌<◌, ◌≤◌, Bool, true, false, ◌&&◌, cond, leb, ltb, List, length, Option, Some, None, count_by, refl, sym, ap, ◌∙◌, subst, arith}
use Rattle.std.proofs.lemmas.List.Sums.{sum_by_push}
use Rattle.std.proofs.lemmas.Bool.{cases_eq, cases_lt, cases_Bool, both_ways, le-leb, lt-ltb, leb-true, leb-false}
use Rattle.std.proofs.lemmas.Option.{same_Some, none-some}
use Rattle.drt_model.specs.declared.jobs.Job.{Job}
use Rattle.drt_model.specs.declared.jobs.Policy.{Policy}
use Rattle.drt_model.specs.Trace.{job_at, pick, trace, done, goes_before, is_before, Misses}
use Rattle.drt_model.specs.declared.jobs.Policy.TheVariants.{Edf}
use Rattle.drt_model.proofs.MachineLemmas.{IsPending, pick_pending, pick_first, pick_some, in_range, need_past, done-picked, done-other, done_cases, done_mono_le, done-zero, done-le-need, done_unreleased}

-- whether a pick is of the set
abbrev pub is_pick_in : (ℕ → Bool) → Option ℕ → Bool
is_pick_in p None = false
is_pick_in p (Some j) = p j

-- how many of the first n ticks ran a job of the set
unfoldable pub served : Policy → List Job → (ℕ → Bool) → ℕ → ℕ
served policy jobs p n = count_by (is_pick_in p) (trace policy jobs n)

-- the jobs of the set that were released before s are done at s
abbrev pub IsQuiet : Policy → List Job → (ℕ → Bool) → ℕ → Type 0
IsQuiet policy jobs p s = (j : ℕ) → p j ≡ true → (job_at jobs j).time < s → (job_at jobs j).need ≤ done policy jobs j s

-- a job of the set that was released before s lacks ticks at s
pub record IsBehind (policy : Policy) (jobs : List Job) (p : ℕ → Bool) (s j : ℕ) : Type 0 where
  pub of_set : p j ≡ true
  pub released : (job_at jobs j).time < s
  pub lacks : done policy jobs j s < (job_at jobs j).need

-- each job of the set goes before each other job
abbrev pub IsFavoured : Policy → List Job → (ℕ → Bool) → Type 0
IsFavoured policy jobs p = (k j : ℕ) → p k ≡ true → p j ≡ false → goes_before policy jobs k j ≡ true

module _ (policy : Policy) (jobs : List Job) (p : ℕ → Bool) where
  pub served-suc : (n : ℕ) → served policy jobs p (suc n) ≡ served policy jobs p n + cond (is_pick_in p (pick policy jobs n)) 1 0
  unfolding served trace pick
  served-suc n = sum_by_push (λ o. cond (is_pick_in p o) 1 0) (trace policy jobs n) (pick policy jobs n)

  quiet_below : (s m : ℕ) → ((j : ℕ) → j < m → p j ≡ true → (job_at jobs j).time < s → (job_at jobs j).need ≤ done policy jobs j s) ⊎ ((j : ℕ) × IsBehind policy jobs p s j)
  quiet_below s zero = inl (λ j h. absurd (omega arith))
  quiet_below s (suc m) = elim (quiet_below s m) [
    | inr w ↦ inr w
    | inl q ↦ elim (cases_Bool (p m)) [
      | inr out ↦ inl (λ j h e r. elim (cases_eq j m) [ inl s ↦ absurd (both_ways (p m) out (rw s at e)) | inr ne ↦ q j (omega arith) e r ])
      | inl of_set ↦ elim (cases_lt (job_at jobs m).time s) [
        | inr late ↦ inl (λ j h e r. elim (cases_eq j m) [ inl s ↦ absurd (omega (arith, ap (λ i. (job_at jobs i).time) s)) | inr ne ↦ q j (omega arith) e r ])
        | inl released ↦ elim (cases_lt (done policy jobs m s) (job_at jobs m).need) [
          | inl lacks ↦ inr (m, record { of_set = of_set; released = released; lacks = lacks })
          | inr over ↦ inl (λ j h e r. elim (cases_eq j m) [ inl s ↦ rw s over | inr ne ↦ q j (omega arith) e r ])
        ]
      ]
    ]
  ]

  pub quiet_or_behind : (s : ℕ) → IsQuiet policy jobs p s ⊎ ((j : ℕ) × IsBehind policy jobs p s j)
  quiet_or_behind s = elim (quiet_below s (length jobs)) [
    | inr w ↦ inr w
    | inl q ↦ inl (λ j e r. elim (cases_lt j (length jobs)) [ inl h ↦ q j h e r | inr h ↦ omega (arith, need_past policy jobs j h) ])
  ]

  -- the last quiet point up to t
  pub last_quiet : (t : ℕ) → (s : ℕ) × (s ≤ t) × IsQuiet policy jobs p s × ((n : ℕ) → s < n → n ≤ t → (j : ℕ) × IsBehind policy jobs p n j)
  last_quiet zero = (0, omega arith, (λ j e r. absurd (omega arith)), (λ n a b. absurd (omega arith)))
  last_quiet (suc t) = elim (quiet_or_behind (suc t)) [
    | inl q ↦ (suc t, omega arith, q, (λ n a b. absurd (omega arith)))
    | inr w ↦ (let (s, h, q, f) = last_quiet t in
        (s, omega arith, q, (λ n a b. elim (cases_eq n (suc t)) [ inl e ↦ subst (λ m. (j : ℕ) × IsBehind policy jobs p m j) (sym e) w | inr ne ↦ f n a (omega arith) ])))
  ]

  module _ (favoured : IsFavoured policy jobs p) where
    -- where a job of the set is pending, the tick runs one of the set
    pub pick_of_set : (n k : ℕ) → p k ≡ true → IsPending policy jobs n k → is_pick_in p (pick policy jobs n) ≡ true
    pick_of_set n k of_set h =
        let (j, e) = pick_some policy jobs n k h in
        rw e (elim (cases_Bool (p j)) [
          | inl t ↦ t
          | inr f ↦ absurd (both_ways (goes_before policy jobs k j) (pick_first policy jobs n j k e h) (favoured k j of_set f))
        ])

    -- a job of the set that is behind at n + 1 was pending at n
    pub busy_before : (n j : ℕ) → IsBehind policy jobs p (suc n) j → is_pick_in p (pick policy jobs n) ≡ true
    busy_before n j b = pick_of_set n j b.of_set (record { released = omega (arith, b.released); lacks = omega (arith, b.lacks, done_mono_le policy jobs j n (suc n) (omega arith)) })

  -- a run of ticks that all serve the set
  pub served_run : (a m : ℕ) → ((n : ℕ) → a ≤ n → n < a + m → is_pick_in p (pick policy jobs n) ≡ true) → served policy jobs p (a + m) ≡ served policy jobs p a + m
  served_run a zero h = let e : a + zero ≡ a = omega arith in rw e (omega arith)
  served_run a (suc m) h =
      let e : a + suc m ≡ suc (a + m) = omega arith in
      let more = served-suc (a + m) in
      let one : ◌≡◌ {A = ℕ} (cond (is_pick_in p (pick policy jobs (a + m))) 1 0) 1 = rw (h (a + m) (omega arith) (omega arith)) in
      rw e (omega (arith, more, one, served_run a m (λ n l u. h n l (omega arith))))

  -- the ticks that served the set are those that its jobs had
  unfoldable pub work_of : ℕ → ℕ → ℕ
  work_of n j = cond (p j) (done policy jobs j n) 0

  unfoldable pub work : ℕ → ℕ → ℕ
  work zero n = 0
  work (suc m) n = work m n + work_of n m

  work-zero : (m : ℕ) → work m 0 ≡ 0
  unfolding work work_of
  work-zero zero = refl
  work-zero (suc m) = grind (arith, work-zero m, done-zero policy jobs m)

  -- a tick adds one to the work of the job that it runs
  work-other : (m n : ℕ) → ((j : ℕ) → j < m → pick policy jobs n ≡ Some j → p j ≡ true → ⊥) → work m (suc n) ≡ work m n
  unfolding work work_of
  work-other zero n h = refl
  work-other (suc m) n h =
      let before = work-other m n (λ j l. h j (omega arith)) in
      elim (cases_Bool (p m)) [
        | inr out ↦ rw (out, before)
        | inl of_set ↦ elim (done_cases policy jobs n m) [
          | inl (e, d) ↦ absurd (h m (omega arith) e of_set)
          | inr (ne, d) ↦ rw (before, d)
        ]
      ]

  work-one : (m n j : ℕ) → j < m → pick policy jobs n ≡ Some j → p j ≡ true → work m (suc n) ≡ work m n + 1
  unfolding work work_of
  work-one zero n j l e t = absurd (omega arith)
  work-one (suc m) n j l e t = elim (cases_eq j m) [
    | inl s ↦
        (let t' : p m ≡ true = rw s at t in
        let e' : pick policy jobs n ≡ Some m = rw s at e in
        let before = work-other m n (λ i h f _. omega (arith, same_Some i m (sym f ∙ e'))) in
        let more : done policy jobs m (suc n) ≡ done policy jobs m n + 1 = done-picked policy jobs n m e' in
        rw (t', before, more) (omega arith))
    | inr ne ↦
        (let before = work-one m n j (omega arith) e t in
        let same : done policy jobs m (suc n) ≡ done policy jobs m n = done-other policy jobs n m j e ne in
        rw (before, same) (omega arith))
  ]

  served-zero : served policy jobs p 0 ≡ 0
  unfolding served trace
  served-zero = refl

  pub served-work : (n : ℕ) → served policy jobs p n ≡ work (length jobs) n
  served-work zero = served-zero ∙ sym (work-zero (length jobs))
  served-work (suc n) = by_pick (served-work n) (pick policy jobs n) refl where
    by_pick : served policy jobs p n ≡ work (length jobs) n → (o : Option ℕ) → pick policy jobs n ≡ o → served policy jobs p (suc n) ≡ work (length jobs) (suc n)
    by_pick before None e =
        (let same = work-other (length jobs) n (λ j l f _. absurd (none-some j (sym e ∙ f))) in
        let zero' : ◌≡◌ {A = ℕ} (cond (is_pick_in p (pick policy jobs n)) 1 0) 0 = rw e refl in
        omega (arith, served-suc n, before, same, zero'))
    by_pick before (Some j) e = elim (cases_Bool (p j)) [
      | inl t ↦
          (let more = work-one (length jobs) n j (in_range policy jobs n j (pick_pending policy jobs n j e)) e t in
          let one' : ◌≡◌ {A = ℕ} (cond (is_pick_in p (pick policy jobs n)) 1 0) 1 = rw e (rw t refl) in
          omega (arith, served-suc n, before, more, one'))
      | inr f ↦
          (let same = work-other (length jobs) n (λ i l g t. both_ways (p i) (rw (same_Some j i (sym e ∙ g)) at f) t) in
          let zero' : ◌≡◌ {A = ℕ} (cond (is_pick_in p (pick policy jobs n)) 1 0) 0 = rw e (rw f refl) in
          omega (arith, served-suc n, before, same, zero'))
    ]

  -- what the jobs of the set that are released from a up to b need
  unfoldable pub due_of : ℕ → ℕ → ℕ → ℕ
  due_of a b j = cond (p j && (leb a (job_at jobs j).time && ltb (job_at jobs j).time b)) (job_at jobs j).need 0

  unfoldable pub demand : ℕ → ℕ → ℕ → ℕ
  demand zero a b = 0
  demand (suc m) a b = demand m a b + due_of a b m

  pub due-in : (a b j : ℕ) → p j ≡ true → a ≤ (job_at jobs j).time → (job_at jobs j).time < b → due_of a b j ≡ (job_at jobs j).need
  unfolding due_of
  due-in a b j t l h = rw (t, le-leb a (job_at jobs j).time l, lt-ltb (job_at jobs j).time b h) refl

  pub work_of-in : (n j : ℕ) → p j ≡ true → work_of n j ≡ done policy jobs j n
  unfolding work_of
  work_of-in n j t = rw t refl

  work_of-out : (n j : ℕ) → p j ≡ false → work_of n j ≡ 0
  unfolding work_of
  work_of-out n j t = rw t refl

  module _ (a b : ℕ) (q : IsQuiet policy jobs p a) where
    -- from a quiet point on, a job has at most what it is due
    work-due : (j : ℕ) → work_of b j ≤ work_of a j + due_of a b j
    work-due j = elim (cases_Bool (p j)) [
      | inr out ↦ omega (arith, work_of-out b j out)
      | inl t ↦ elim (cases_lt (job_at jobs j).time a) [
        | inl early ↦ omega (arith, work_of-in b j t, work_of-in a j t, q j t early, done-le-need policy jobs j b)
        | inr late ↦ elim (cases_lt (job_at jobs j).time b) [
          | inl h ↦ omega (arith, work_of-in b j t, due-in a b j t late h, done-le-need policy jobs j b)
          | inr past ↦ omega (arith, work_of-in b j t, done_unreleased policy jobs j b past)
        ]
      ]
    ]

    pub work-demand : (m : ℕ) → work m b ≤ work m a + demand m a b
    unfolding work demand
    work-demand zero = omega arith
    work-demand (suc m) = omega (arith, work-demand m, work-due m)

    -- and less, where one lacks ticks
    pub work-demand-lt : (m j : ℕ) → j < m → p j ≡ true → (job_at jobs j).time < b → done policy jobs j b < (job_at jobs j).need → a ≤ (job_at jobs j).time → work m b < work m a + demand m a b
    unfolding work demand
    work-demand-lt zero j l t r k f = absurd (omega arith)
    work-demand-lt (suc m) j l t r k f = elim (cases_eq j m) [
      | inl s ↦
          (let t' : p m ≡ true = rw s at t in
          let r' : (job_at jobs m).time < b = rw s at r in
          let k' : done policy jobs m b < (job_at jobs m).need = rw s at k in
          let f' : a ≤ (job_at jobs m).time = rw s at f in
          omega (arith, work-demand m, work_of-in b m t', due-in a b m t' f' r', k'))
      | inr ne ↦ omega (arith, work-demand-lt m j (omega arith) t r k f, work-due m)
    ]

  -- A job of a favoured set that is behind at t shows a start s from which the set's demand up to t is past t - s.
  pub overload : IsFavoured policy jobs p → (t j : ℕ) → IsBehind policy jobs p t j → (s : ℕ) × (s < t) × (t < s + demand (length jobs) s t)
  overload favoured t j b =
      let (s, h, q, f) = last_quiet t in
      let lt : s < t = elim (cases_lt s t) [ inl l ↦ l | inr l ↦ (let e : s ≡ t = omega arith in absurd (omega (arith, (rw e at q) j b.of_set b.released, b.lacks))) ] in
      let e : s + (t - s) ≡ t = omega arith in
      let run = rw e at (served_run s (t - s) (λ n l u. (let w = f (suc n) (omega arith) (omega arith) in busy_before favoured n w.0 w.1))) in
      let from : s ≤ (job_at jobs j).time = elim (cases_lt (job_at jobs j).time s) [ inr l ↦ l | inl l ↦ absurd (omega (arith, q j b.of_set l, done_mono_le policy jobs j s t h, b.lacks)) ] in
      let in' = in_range policy jobs t j (record { released = omega (arith, b.released); lacks = b.lacks }) in
      let less = work-demand-lt s t q (length jobs) j in' b.of_set b.released b.lacks from in
      (s, lt, omega (arith, run, served-work s, served-work t, less))

-- the jobs that are due by d
abbrev pub is_due_by : List Job → ℕ → ℕ → Bool
is_due_by jobs d j = leb (job_at jobs j).deadline d

favoured_by_deadline : (jobs : List Job) (d : ℕ) → IsFavoured Edf jobs (is_due_by jobs d)
unfolding goes_before is_before
favoured_by_deadline jobs d k j h g =
    let lt : (job_at jobs k).deadline < (job_at jobs j).deadline = omega (arith, leb-true (job_at jobs k).deadline d h, leb-false (job_at jobs j).deadline d g) in
    rw (lt-ltb (job_at jobs k).deadline (job_at jobs j).deadline lt) refl

-- Under earliest deadline first a miss shows an interval whose jobs need more than it has ticks.
pub edf_overload : (jobs : List Job) (j : ℕ) → (job_at jobs j).time < (job_at jobs j).deadline → Misses Edf jobs j → (s : ℕ) × (s < (job_at jobs j).deadline)
    × ((job_at jobs j).deadline < s + demand Edf jobs (is_due_by jobs (job_at jobs j).deadline) (length jobs) s (job_at jobs j).deadline)
edf_overload jobs j h m =
    let d = (job_at jobs j).deadline in
    overload Edf jobs (is_due_by jobs d) (favoured_by_deadline jobs d) d j (record { of_set = le-leb d d (omega arith); released = h; lacks = m })
