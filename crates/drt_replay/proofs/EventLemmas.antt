-- Many ticks at once: while nothing is released and the running job isn't done, it runs on.
use Rattle.std.proofs.Common.{inl, inr, ◌≡◌, ℕ, zero, suc, ◌+◌, ◌-◌, ◌<◌, ◌≤◌, List, length, get_or, set, cond, Some, None, refl, sym, ◌∙◌, subst, arith, eqb}
use Rattle.std.proofs.lemmas.Bool.{cases_eq, cases_lt, eq-eqb, ne_eqb}
use Rattle.std.proofs.lemmas.List.{get_or-set_same, get_or-set_other, length-set}
use Rattle.drt_model.specs.declared.jobs.Job.{Job}
use Rattle.drt_model.specs.declared.jobs.Policy.{Policy}
use Rattle.drt_model.specs.Trace.{job_at, pick, done, IsFinish}
use Rattle.drt_model.proofs.MachineLemmas.{pick_pending, in_range, done-picked, done-other, done-idle, done_mono_le}
use Rattle.drt_model.proofs.Unique.{pick_stays, idle_stays}
use Rattle.drt_replay.specs.Board.{IsLeft, AreFinishes}

-- nothing is released after n and before n + m
pub record IsCalm (jobs : List Job) (n m : ℕ) : Type 0 where
  pub calm : (k : ℕ) → k < length jobs → n < (job_at jobs k).time → n + m ≤ (job_at jobs k).time

-- from n on, job j alone has m ticks
pub record IsRun (policy : Policy) (jobs : List Job) (n m j : ℕ) : Type 0 where
  pub runs : (i : ℕ) → i ≤ m → done policy jobs j (n + i) ≡ done policy jobs j n + i
  pub others : (k : ℕ) → (j ≡ k → ⊥) → done policy jobs k (n + m) ≡ done policy jobs k n

module _ (policy : Policy) (jobs : List Job) (n : ℕ) where
  module _ (j : ℕ) (e : pick policy jobs n ≡ Some j) (m : ℕ) (c : IsCalm jobs n m) (enough : done policy jobs j n + m ≤ (job_at jobs j).need) where
    stays : (i : ℕ) → i < m → (pick policy jobs (n + i) ≡ Some j) × (done policy jobs j (n + i) ≡ done policy jobs j n + i)
    stays zero h = (let z : n + zero ≡ n = omega arith in rw z (e, omega arith))
    stays (suc i) h =
        let (p, d) = stays i (omega arith) in
        let s : n + suc i ≡ suc (n + i) = omega arith in
        let next = pick_stays policy jobs (n + i) j p (omega arith) (λ k l t. omega (arith, c.calm k l (omega arith))) in
        rw s (next, omega (arith, done-picked policy jobs (n + i) j p))

    -- job j runs at each of these ticks
    pub runs_through : (i : ℕ) → n ≤ i → i < n + m → pick policy jobs i ≡ Some j
    runs_through i from before =
        let at : n + (i - n) ≡ i = omega arith in
        subst (λ x. pick policy jobs x ≡ Some j) at (stays (i - n) (omega arith)).0

    runs_at : (i : ℕ) → i ≤ m → done policy jobs j (n + i) ≡ done policy jobs j n + i
    runs_at zero h = (let z : n + zero ≡ n = omega arith in rw z (omega arith))
    runs_at (suc i) h =
        let (p, d) = stays i (omega arith) in
        let s : n + suc i ≡ suc (n + i) = omega arith in
        rw s (omega (arith, done-picked policy jobs (n + i) j p))

    others_at : (k : ℕ) → (j ≡ k → ⊥) → (i : ℕ) → i ≤ m → done policy jobs k (n + i) ≡ done policy jobs k n
    others_at k ne zero h = (let z : n + zero ≡ n = omega arith in rw z refl)
    others_at k ne (suc i) h =
        let (p, d) = stays i (omega arith) in
        let s : n + suc i ≡ suc (n + i) = omega arith in
        rw s (done-other policy jobs (n + i) k j p ne ∙ others_at k ne i (omega arith))

    pub run_on : IsRun policy jobs n m j
    run_on = record { runs = runs_at; others = λ k ne. others_at k ne m (omega arith) }

  -- an idle machine stays idle
  pub idle_on : (m : ℕ) → pick policy jobs n ≡ None → IsCalm jobs n m → (i : ℕ) → i < m → pick policy jobs (n + i) ≡ None
  idle_on m e c zero h = (let z : n + zero ≡ n = omega arith in rw z e)
  idle_on m e c (suc i) h =
      let s : n + suc i ≡ suc (n + i) = omega arith in
      rw s (idle_stays policy jobs (n + i) (idle_on m e c i (omega arith)) (λ k l t. omega (arith, c.calm k l (omega arith))))

  -- the machine is idle at each of these ticks
  pub idle_through : (m : ℕ) → pick policy jobs n ≡ None → IsCalm jobs n m → (i : ℕ) → n ≤ i → i < n + m → pick policy jobs i ≡ None
  idle_through m e c i from before =
      let at : n + (i - n) ≡ i = omega arith in
      subst (λ x. pick policy jobs x ≡ None) at (idle_on m e c (i - n) (omega arith))

  pub idle_done : (m : ℕ) → pick policy jobs n ≡ None → IsCalm jobs n m → (k : ℕ) (i : ℕ) → i ≤ m → done policy jobs k (n + i) ≡ done policy jobs k n
  idle_done m e c k zero h = (let z : n + zero ≡ n = omega arith in rw z refl)
  idle_done m e c k (suc i) h =
      let s : n + suc i ≡ suc (n + i) = omega arith in
      rw s (done-idle policy jobs (n + i) k (idle_on m e c i (omega arith)) ∙ idle_done m e c k i (omega arith))

  module _ (m j : ℕ) (r : IsRun policy jobs n m j) (left : List ℕ) (shown : IsLeft policy jobs n left) (here : j < length jobs) where
    pub left-jump : m ≤ get_or left j 0 → IsLeft policy jobs (n + m) (set left j (get_or left j 0 - m))
    left-jump h = record {
      as_many = length-set left j (get_or left j 0 - m) ∙ shown.as_many;
      each = λ k l. elim (cases_eq j k) [
        | inl s ↦ subst (λ i. get_or (set left j (get_or left j 0 - m)) i 0 + done policy jobs i (n + m) ≡ (job_at jobs i).need) s
            (omega (arith, get_or-set_same left j (get_or left j 0 - m) 0 (omega (arith, shown.as_many)), r.runs m (omega arith), shown.each j here))
        | inr ne ↦ rw (get_or-set_other left j k (get_or left j 0 - m) 0 (λ s. ne (sym s)), r.others k ne) (shown.each k l)
      ];
    }

    module _ (ends : List ℕ) (ok : AreFinishes policy jobs n left ends) where
      -- a job that has nothing left now had nothing left before, unless it is the one that ran
      others_before : (k : ℕ) → (k ≡ j → ⊥) → get_or (set left j (get_or left j 0 - m)) k 0 ≡ 0 → get_or left k 0 ≡ 0
      others_before k ne z = omega (arith, get_or-set_other left j k (get_or left j 0 - m) 0 ne, z)

      -- it isn't done yet
      pub finishes-jump : m < get_or left j 0 → AreFinishes policy jobs (n + m) (set left j (get_or left j 0 - m)) ends
      finishes-jump h = record {
        as_many = ok.as_many;
        each = λ k l z. elim (cases_eq k j) [
          | inl s ↦ absurd (let z' = subst (λ i. get_or (set left j (get_or left j 0 - m)) i 0 ≡ 0) s z in
              omega (arith, get_or-set_same left j (get_or left j 0 - m) 0 (omega (arith, shown.as_many, here)), z'))
          | inr ne ↦ (let (is, by) = ok.each k l (others_before k ne z) in (is, omega (arith, by)))
        ];
      }

      -- it has had its need
      pub finishes-end : 1 ≤ m → m ≡ get_or left j 0 → AreFinishes policy jobs (n + m) (set left j (get_or left j 0 - m)) (set ends j (n + m))
      finishes-end one h = record {
        as_many = length-set ends j (n + m) ∙ ok.as_many;
        each = λ k l z. elim (cases_eq j k) [
          | inl s ↦
              (let e : n + (m - 1) + 1 ≡ n + m = omega arith in
              let before = r.runs (m - 1) (omega arith) in
              let reached : done policy jobs j (n + m) ≡ (job_at jobs j).need = omega (arith, r.runs m (omega arith), shown.each j here) in
              let finish : IsFinish policy jobs j (n + m) = record {
                reached = reached;
                least = λ x d. elim (cases_lt x (n + m))
                    [ inr ge ↦ ge | inl lt ↦ absurd (omega (arith, done_mono_le policy jobs j x (n + (m - 1)) (omega arith), before, r.runs m (omega arith), reached, d)) ];
              } in
              subst (λ i. IsFinish policy jobs i (get_or (set ends j (n + m)) i 0) × (get_or (set ends j (n + m)) i 0 ≤ n + m)) s
              (rw (get_or-set_same ends j (n + m) 0 (omega (arith, ok.as_many))) (finish, omega arith)))
          | inr ne ↦ rw (get_or-set_other ends j k (n + m) 0 (λ s. ne (sym s)))
              (let (is, by) = ok.each k l (others_before k (λ s. ne (sym s)) z) in (is, omega (arith, by)))
        ];
      }

-- up to the next release
pub calm_up_to : (jobs : List Job) (n m next : ℕ) → n + m ≤ next → ((k : ℕ) → k < length jobs → n < (job_at jobs k).time → next ≤ (job_at jobs k).time) → IsCalm jobs n m
calm_up_to jobs n m next h f = record { calm = λ k l t. (let g = f k l t in omega arith) }

module _ (policy : Policy) (jobs : List Job) (n : ℕ) (left : List ℕ) (shown : IsLeft policy jobs n left) where
  module _ (j m : ℕ) (e : pick policy jobs n ≡ Some j) (c : IsCalm jobs n m) (some : 0 < m) (enough : m ≤ get_or left j 0) where
    jump_here : j < length jobs
    jump_here = in_range policy jobs n j (pick_pending policy jobs n j e)

    jump_run : IsRun policy jobs n m j
    jump_run = run_on policy jobs n j e m c (omega (arith, shown.each j jump_here))

    pub jump_left : IsLeft policy jobs (n + m) (set left j (get_or left j 0 - m))
    jump_left = left-jump policy jobs n m j jump_run left shown jump_here enough

    pub jump_finishes : (ends : List ℕ) → AreFinishes policy jobs n left ends
        → AreFinishes policy jobs (n + m) (set left j (get_or left j 0 - m)) (cond (eqb (get_or left j 0) m) (set ends j (n + m)) ends)
    jump_finishes ends ok = elim (cases_eq (get_or left j 0) m) [
      | inl l ↦ rw (eq-eqb (get_or left j 0) m l) (finishes-end policy jobs n m j jump_run left shown jump_here ends ok some (sym l))
      | inr ne ↦ rw (ne_eqb (get_or left j 0) m ne) (finishes-jump policy jobs n m j jump_run left shown jump_here ends ok (omega (arith, ne)))
    ]

  pub idle_left : (m : ℕ) → pick policy jobs n ≡ None → IsCalm jobs n m → IsLeft policy jobs (n + m) left
  idle_left m e c = record { as_many = shown.as_many; each = λ k h. rw (idle_done policy jobs n m e c k m (omega arith)) (shown.each k h) }

pub idle_finishes : (policy : Policy) (jobs : List Job) (n m : ℕ) (left ends : List ℕ) → AreFinishes policy jobs n left ends → AreFinishes policy jobs (n + m) left ends
idle_finishes policy jobs n m left ends ok = record {
  as_many = ok.as_many;
  each = λ k h z. (let (is, by) = ok.each k h z in (is, omega (arith, by)));
}
