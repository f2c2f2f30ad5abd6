-- Which jobs are late, and which of them is the first.
use Rattle.std.proofs.Common.{inl, inr, ◌≡◌, ℕ, ◌+◌, ◌<◌, ◌≤◌, Bool, List, length, take, sum_by, count_by, cond, ◌==◌, eqb, Option, Some, None, MatchOption, refl, sym, ap, ◌∙◌, subst, arith}
use Rattle.std.proofs.lemmas.List.{take-take}
use Rattle.std.proofs.lemmas.List.Sums.{sum_by-take-le, count_by_more_yes}
use Rattle.drt_model.specs.declared.jobs.Miss.{Miss}
use Rattle.std.proofs.lemmas.Bool.{cases_eq, cases_lt, cases_order, eq-eqb}
use Rattle.drt_model.specs.declared.jobs.Job.{Job}
use Rattle.drt_model.specs.declared.jobs.Policy.{Policy}
use Rattle.drt_model.specs.Trace.{job_at, done, Misses}
use Rattle.drt_model.proofs.MachineLemmas.{done_mono_le, done-le-need}
use Rattle.drt_model.specs.Misses.{index_of, miss_of, IsJob, IsLeastMiss}
use Rattle.drt_replay.specs.Board.{Shown, IsFinishSoFar, IsLate, IsLateBy, IsNoLaterAt, IsEarlier, IsFirstLate, IsNoLaterMiss, IsFirstMiss}

late_by : (policy : Policy) (jobs : List Job) (ticks j : ℕ) (o : Option ℕ) → IsFinishSoFar policy jobs ticks j o → IsLateBy (job_at jobs j) o ticks → Misses policy jobs j
late_by policy jobs ticks j None f h = omega (arith, f, done_mono_le policy jobs j (job_at jobs j).deadline ticks h.0)
late_by policy jobs ticks j (Some n) f h =
    elim (cases_eq (done policy jobs j (job_at jobs j).deadline) (job_at jobs j).need) [
      | inl e ↦ absurd (omega (arith, f.0.least (job_at jobs j).deadline e, h.1))
      | inr ne ↦ omega (arith, done-le-need policy jobs j (job_at jobs j).deadline, ne)
    ]

late_by_from : (policy : Policy) (jobs : List Job) (ticks j : ℕ) (o : Option ℕ) → IsFinishSoFar policy jobs ticks j o → Misses policy jobs j
    → (job_at jobs j).deadline ≤ ticks → IsLateBy (job_at jobs j) o ticks
late_by_from policy jobs ticks j None f m d = (d, tt)
late_by_from policy jobs ticks j (Some n) f m d = (
  d,
  elim (cases_lt (job_at jobs j).deadline n) [
    | inl h ↦ h
    | inr h ↦ absurd (omega (arith, f.0.reached, done_mono_le policy jobs j n (job_at jobs j).deadline h, m))
  ],
)

-- the first late job among those below j
abbrev pub FirstBelow : Shown → ℕ → Option ℕ → Type 0
FirstBelow shown j first =
    MatchOption first ((k : ℕ) → k < j → IsLate shown k → ⊥) (λ b. (b < j) × IsLate shown b × ((k : ℕ) → k < j → IsLate shown k → IsNoLaterAt shown.jobs b k))

no_later-trans : (jobs : List Job) (a b c : ℕ) → IsNoLaterAt jobs a b → IsNoLaterAt jobs b c → IsNoLaterAt jobs a c
no_later-trans jobs a b c h k = grind arith

module _ (shown : Shown) (j : ℕ) (h : j < length shown.jobs) (finish : Option ℕ) (ok : IsFinishSoFar shown.policy shown.jobs shown.ticks j finish) where
  is_late_if : IsLateBy (job_at shown.jobs j) finish shown.ticks → IsLate shown j
  is_late_if l = (h, late_by shown.policy shown.jobs shown.ticks j finish ok l, l.0)

  pub below-more : (first : Option ℕ) → FirstBelow shown j first → (IsLateBy (job_at shown.jobs j) finish shown.ticks → ⊥) → FirstBelow shown (j + 1) first
  below-more None f not_late = λ k l late. elim (cases_eq k j) [
    | inl e ↦ not_late (let at_j = subst (IsLate shown) e late in late_by_from shown.policy shown.jobs shown.ticks j finish ok at_j.1 at_j.2)
    | inr ne ↦ f k (omega arith) late
  ]
  below-more (Some b) f not_late = (
    omega (arith, f.0),
    f.1,
    λ k l late. elim (cases_eq k j) [
      | inl e ↦ absurd (not_late (let at_j = subst (IsLate shown) e late in late_by_from shown.policy shown.jobs shown.ticks j finish ok at_j.1 at_j.2))
      | inr ne ↦ f.2 k (omega arith) late
    ],
  )

  pub below-late : (first : Option ℕ) (r : ℕ) → FirstBelow shown j first → IsLateBy (job_at shown.jobs j) finish shown.ticks
      → MatchOption first (r ≡ j) (λ k. IsEarlier shown.jobs k j r) → FirstBelow shown (j + 1) (Some r)
  below-late None r f l e = (
    omega arith,
    subst (IsLate shown) (sym e) (is_late_if l),
    λ k lt late. elim (cases_eq k j) [
      | inl s ↦ inr (ap (λ x. (job_at shown.jobs x).deadline) (e ∙ sym s), inr (ap (λ x. (job_at shown.jobs x).task) (e ∙ sym s), omega arith))
      | inr ne ↦ absurd (f k (omega arith) late)
    ],
  )
  below-late (Some b) r f l e = (
    elim e.one [ inl s ↦ omega (arith, f.0) | inr s ↦ omega arith ],
    elim e.one [ inl s ↦ subst (IsLate shown) (sym s) f.1 | inr s ↦ subst (IsLate shown) (sym s) (is_late_if l) ],
    λ k lt late. elim (cases_eq k j) [
      | inl s ↦ subst (IsNoLaterAt shown.jobs r) (sym s) e.before_j
      | inr ne ↦ no_later-trans shown.jobs r b k e.before_k (f.2 k (omega arith) late)
    ],
  )

-- among all jobs
pub below-none : (shown : Shown) → FirstBelow shown 0 None
below-none shown k l late = absurd (omega arith)

pub below-all : (shown : Shown) (first : Option ℕ) → FirstBelow shown (length shown.jobs) first → MatchOption first ((j : ℕ) → IsLate shown j → ⊥) (IsFirstLate shown)
below-all shown None f = λ j late. f j late.0 late
below-all shown (Some b) f = record { late = f.1; first = λ k late. f.2 k late.0 late }

-- a later job of the same task has no lesser index
index_mono : (jobs : List Job) (j k : ℕ) → (job_at jobs j).task ≡ (job_at jobs k).task → j ≤ k → index_of jobs j ≤ index_of jobs k
index_mono jobs j k e h =
    let f : Job → ℕ = λ job. cond (eqb job.task (job_at jobs j).task) 1 0 in
    let le : sum_by f (take j jobs) ≤ sum_by f (take k jobs) = subst (λ xs. sum_by f xs ≤ sum_by f (take k jobs)) (take-take j k jobs h) (sum_by-take-le f (take k jobs) j) in
    rw (← e) le

no_later_miss : (jobs : List Job) (j k : ℕ) → IsNoLaterAt jobs j k → IsNoLaterMiss (miss_of jobs j) (miss_of jobs k)
no_later_miss jobs j k (inl h) = inl h
no_later_miss jobs j k (inr (e, inl h)) = inr (e, inl h)
no_later_miss jobs j k (inr (e, inr (f, h))) = inr (e, inr (f, index_mono jobs j k f h))

pub first_miss_if : (shown : Shown) (j : ℕ) (m : Miss) → IsFirstLate shown j → m ≡ miss_of shown.jobs j → IsFirstMiss shown m
first_miss_if shown j m f e = record {
  job = j;
  late = f.late;
  is = e;
  first = λ k late. rw e (no_later_miss shown.jobs j k (f.first k late));
}

pub miss_parts : (jobs : List Job) (j t i d : ℕ) → t ≡ (job_at jobs j).task → i ≡ index_of jobs j → d ≡ (job_at jobs j).deadline
    → ◌≡◌ {A = Miss} (record { task = t; index = i; deadline = d }) (miss_of jobs j)
miss_parts jobs j t i d e f g = rw (e, f, g)

-- the index of a job of a task, by a count over that task
pub index_of_task : (jobs : List Job) (task j : ℕ) → (job_at jobs j).task ≡ task → index_of jobs j ≡ count_by (λ job. job.task == task) (take j jobs)
index_of_task jobs task j e = rw e refl

count_at : (jobs : List Job) (task j k : ℕ) → (job_at jobs j).task ≡ task → j < k → k ≤ length jobs
    → count_by (λ job. job.task == task) (take j jobs) < count_by (λ job. job.task == task) (take k jobs)
count_at jobs task j k e h l =
    let p : Job → Bool = λ job. job.task == task in
    let more = count_by_more_yes p jobs j (record { task = 0; priority = 0; time = 0; deadline = 0; need = 0 }) (omega arith) (eq-eqb (job_at jobs j).task task e) in
    let le : count_by p (take (j + 1) jobs) ≤ count_by p (take k jobs) = subst (λ xs. count_by p xs ≤ count_by p (take k jobs)) (take-take (j + 1) k jobs (omega arith))
    (sum_by-take-le (λ job. cond (p job) 1 0) (take k jobs) (j + 1)) in
    omega (arith, more, le)

-- a task and an index name one job
pub job_unique : (jobs : List Job) (task index j k : ℕ) → IsJob jobs task index j → IsJob jobs task index k → j ≡ k
job_unique jobs task index j k a b =
    let x = index_of_task jobs task j a.task_is in
    let y = index_of_task jobs task k b.task_is in
    elim (cases_order j k) [
      | inl e ↦ e
      | inr (inl h) ↦ absurd (omega (arith, count_at jobs task j k a.task_is h (omega (arith, b.here)), x, y, a.index_is, b.index_is))
      | inr (inr h) ↦ absurd (omega (arith, count_at jobs task k j b.task_is h (omega (arith, a.here)), x, y, a.index_is, b.index_is))
    ]

-- the first miss by now is of least deadline among all misses
pub least_if : (shown : Shown) (m : Miss) → IsFirstMiss shown m → IsLeastMiss shown.policy shown.jobs m
least_if shown m f = record {
  job = f.job;
  here = f.late.0;
  is = f.is;
  misses = f.late.1;
  least = λ k h miss. elim (cases_lt shown.ticks (job_at shown.jobs k).deadline) [
    | inl later ↦ omega (arith, f.late.2)
    | inr come ↦ (let due : m.deadline ≡ (job_at shown.jobs f.job).deadline = ap (λ x. x.deadline) f.is in
        elim (f.first k (h, miss, come)) [
          | inl sooner ↦ omega arith
          | inr (e, _) ↦ omega arith
        ])
  ];
}
