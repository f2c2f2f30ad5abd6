-- No assignment gives jobs more ticks than there are.
use Rattle.std.proofs.Common.{inl, inr, ◌⊎◌, ◌≡◌, ℕ, zero, suc, ◌+◌, ◌-◌, ◌<◌, ◌≤◌, Bool, true, false, cond, leb, List, length, take, sum_by, Option, Some, None, refl, sym, ap, ◌∙◌, arith, add-one, add-suc, add-zero}
use Rattle.std.proofs.lemmas.Bool.{cases_eq, cases_lt, cases_Bool, and_parts, eqb-true, leb-true, ne_eqb}
use Rattle.std.proofs.lemmas.List.{take_all}
use Rattle.std.proofs.lemmas.List.Sums.{sum_by_more}
use Rattle.drt_model.specs.declared.jobs.Job.{Job}
use Rattle.drt_model.specs.Trace.{is_pick_of, job_at}
use Rattle.drt_busy.specs.Assignment.{NoAssignmentMeets, had}
use Rattle.drt_busy.specs.Needs.{is_due}

-- a tick is given to one job
one_pick : (o : Option ℕ) (m j : ℕ) → is_pick_of m o ≡ true → (j ≡ m → ⊥) → is_pick_of j o ≡ false
one_pick None m j h ne = refl
one_pick (Some k) m j h ne = (let e = eqb-true k m h in ne_eqb k j (λ f. ne (sym f ∙ e)))

module _ (assigned : ℕ → Option ℕ) where
  had-suc : (j n : ℕ) → had assigned j (suc n) ≡ had assigned j n + cond (is_pick_of j (assigned n)) 1 0
  unfolding had
  had-suc j n = refl

  had_grows : (j n k : ℕ) → had assigned j n ≤ had assigned j (n + k)
  had_grows j n zero = rw add-zero (omega arith)
  had_grows j n (suc k) = rw add-suc (omega (arith, had_grows j n k, had-suc j (n + k)))

  had_grows_to : (j n m : ℕ) → n ≤ m → had assigned j n ≤ had assigned j m
  had_grows_to j n m h =
      let e : n + (m - n) ≡ m = omega arith in
      rw e at (had_grows j n (m - n))

  module _ (q : ℕ → Bool) where
    -- the ticks that the jobs of a set had
    unfoldable total : ℕ → ℕ → ℕ
    total zero n = 0
    total (suc m) n = total m n + cond (q m) (had assigned m n) 0

    total-zero : (m : ℕ) → total m 0 ≡ 0
    unfolding total had
    total-zero zero = refl
    total-zero (suc m) = elim (cases_Bool (q m)) [ inl t ↦ rw t (omega (arith, total-zero m)) | inr f ↦ rw f (omega (arith, total-zero m)) ]

    total-other : (m n : ℕ) → ((j : ℕ) → j < m → is_pick_of j (assigned n) ≡ false) → total m (suc n) ≡ total m n
    unfolding total
    total-other zero n h = refl
    total-other (suc m) n h =
        let before = total-other m n (λ j l. h j (omega arith)) in
        let same : had assigned m (suc n) ≡ had assigned m n = had-suc m n ∙ rw (h m (omega arith)) (omega arith) in
        rw (before, same) refl

    cond_most : (b : Bool) (x y : ℕ) → y ≤ x + 1 → cond b y 0 ≤ cond b x 0 + 1
    cond_most true x y h = h
    cond_most false x y h = omega arith

    total-suc : (m n : ℕ) → total m (suc n) ≤ total m n + 1
    unfolding total
    total-suc zero n = omega arith
    total-suc (suc m) n = elim (cases_Bool (is_pick_of m (assigned n))) [
      | inl t ↦
          (let before = total-other m n (λ j l. one_pick (assigned n) m j t (λ e. omega arith)) in
          let more : had assigned m (suc n) ≤ had assigned m n + 1 = (let e : had assigned m (suc n) ≡ had assigned m n + 1 = had-suc m n ∙ rw t refl in omega arith) in
          omega (arith, before, cond_most (q m) (had assigned m n) (had assigned m (suc n)) more))
      | inr f ↦
          (let same : had assigned m (suc n) ≡ had assigned m n = had-suc m n ∙ rw f (omega arith) in
          rw same (omega (arith, total-suc m n)))
    ]

    total-le : (m n : ℕ) → total m n ≤ n
    total-le m zero = omega (arith, total-zero m)
    total-le m (suc n) = omega (arith, total-le m n, total-suc m n)

  module _ (jobs : List Job) (t : ℕ) where
    -- either a job that is due by t gets too little, or each of the first m does get its need by t
    short_or_met : (m : ℕ) → ((j : ℕ) × (j < m) × ((job_at jobs j).deadline ≤ t) × (had assigned j (job_at jobs j).deadline < (job_at jobs j).need))
        ⊎ ((i : ℕ) → i < m → (job_at jobs i).deadline ≤ t → (job_at jobs i).need ≤ had assigned i t)
    short_or_met zero = inr (λ i l. absurd (omega arith))
    short_or_met (suc m) = elim (short_or_met m) [
      | inl (j, l, due, short) ↦ inl (j, omega arith, due, short)
      | inr met ↦ elim (cases_lt t (job_at jobs m).deadline) [
        | inl late ↦ inr (λ i l due. elim (cases_eq i m) [ inl e ↦ absurd (omega (arith, ap (λ k. (job_at jobs k).deadline) e)) | inr ne ↦ met i (omega arith) due ])
        | inr due ↦ elim (cases_lt (had assigned m (job_at jobs m).deadline) (job_at jobs m).need) [
          | inl short ↦ inl (m, omega arith, due, short)
          | inr got ↦ inr (λ i l due'. elim (cases_eq i m) [
            | inl e ↦ rw e (omega (arith, got, had_grows_to m (job_at jobs m).deadline t due))
            | inr ne ↦ met i (omega arith) due'
          ])
        ]
      ]
    ]

    due_at : ℕ → Bool
    due_at j = is_due 0 t (job_at jobs j)

    cond_met : (b : Bool) (x y : ℕ) → (b ≡ true → x ≤ y) → cond b x 0 ≤ cond b y 0
    cond_met true x y h = h refl
    cond_met false x y h = omega arith

    needs_met : ((i : ℕ) → i < length jobs → (job_at jobs i).deadline ≤ t → (job_at jobs i).need ≤ had assigned i t) → (m : ℕ) → m ≤ length jobs
        → sum_by (λ job. cond (is_due 0 t job) job.need 0) (take m jobs) ≤ total due_at m t
    unfolding total due_at
    needs_met met zero h = omega arith
    needs_met met (suc m) h =
        let more = sum_by_more (λ job. cond (is_due 0 t job) job.need 0) jobs m (record { task = 0; priority = 0; time = 0; deadline = 0; need = 0 }) (omega arith) in
        let one = cond_met (is_due 0 t (job_at jobs m)) (job_at jobs m).need (had assigned m t)
        (λ d. met m (omega arith) (let (a, b) = and_parts (leb 0 (job_at jobs m).time) (leb (job_at jobs m).deadline t) d in leb-true (job_at jobs m).deadline t b)) in
        omega (arith, needs_met met m (omega arith), rw add-one at more, one)

pub no_assignment_meets : NoAssignmentMeets
no_assignment_meets assigned jobs t h = elim (short_or_met assigned jobs t (length jobs)) [
  | inl short ↦ short
  | inr met ↦ absurd (
      let whole = ap (sum_by (λ job. cond (is_due 0 t job) job.need 0)) (take_all (length jobs) jobs (omega arith)) in
      omega (arith, h, whole, needs_met assigned jobs t met (length jobs) (omega arith), total-le assigned (due_at assigned jobs t) (length jobs) t)
      )
]
