-- The events of jobs are all that happen, each once.
use Rattle.std.proofs.Common.{inl, inr, ◌⊎◌, ◌≡◌, ℕ, ◌+◌, ◌<◌, ◌≤◌, Bool, true, false, ◌&&◌, ◌||◌, eqb, ltb, List, [], ◌∷◌, ◌++◌, length, get_or, All, Contains, IsPermutation, Option, Some, None, refl, sym, ap, ◌∙◌, subst, arith}
use Rattle.std.specs.List.{IsDistinct}
use Rattle.std.specs.List.Sorted.{IsSortedByKey}
use Rattle.std.specs.declared.cmp.Ordering.{Ordering}
use Rattle.std.specs.declared.cmp.Ordering.TheVariants.{Less, Equal, Greater}
use Rattle.std.specs.Ordering.{nat_cmp, ordering_then, is_lt}
use Rattle.std.proofs.lemmas.Bool.{cases_eq, cases_lt, cases_order, lt-ltb, le-ltb, le-leb, lt-leb, eq-eqb, ne_eqb}
use Rattle.std.proofs.lemmas.List.Elements.{All-nil, All-cons, All-head, All-tail, All-append, All-weaker, All-from_recursion, recursion_from_All, Contains-append_left, Contains-append_right}
use Rattle.std.proofs.lemmas.List.Sorted.{All-permutation, Contains-permutation}
use Rattle.std.proofs.lemmas.Map.Keys.{IsDistinct-IsPermutation, apart_from_distinct}
use Rattle.drt_model.specs.declared.jobs.Job.{Job}
use Rattle.drt_model.specs.declared.jobs.Policy.{Policy}
use Rattle.drt_model.specs.Trace.{job_at, done, Misses, IsFinish}
use Rattle.drt_model.proofs.MachineLemmas.{done_mono_le, done-le-need}
use Rattle.drt_replay.specs.Board.{IsFinishSoFar}
use Rattle.drt_timeline.specs.declared.event.Event.{Event}
use Rattle.drt_timeline.specs.declared.event.Mark.{Mark}
use Rattle.drt_timeline.specs.declared.event.Mark.TheVariants.{Finish, Deadline, Miss, Release}
use Rattle.drt_timeline.specs.Events.{AreEvents, Happens, IsEventBefore, IsEvent, mark_rank}
use Rattle.drt_timeline.specs.Gathering.{deadline_events, deadline_mark, finish_events, job_events, order_cmp, event_key, release_events}

-- Two events are of one kind and of one job.
abbrev pub same_kind : Event → Event → Bool
same_kind e f = eqb e.job f.job && eqb (mark_rank e.mark) (mark_rank f.mark)

other_job : (e f : Event) → (e.job ≡ f.job → ⊥) → same_kind e f ≡ false
other_job e f ne = rw (ne_eqb e.job f.job ne) refl

other_mark : (e f : Event) → (mark_rank e.mark ≡ mark_rank f.mark → ⊥) → same_kind e f ≡ false
other_mark e f ne = elim (cases_eq e.job f.job) [
  | inl same ↦ rw (eq-eqb e.job f.job same, ne_eqb (mark_rank e.mark) (mark_rank f.mark) ne) refl
  | inr other ↦ other_job e f other
]

same_kind-sym : (e f : Event) → same_kind e f ≡ same_kind f e
same_kind-sym e f = elim (cases_eq e.job f.job) [
  | inr other ↦ other_job e f other ∙ sym (other_job f e (λ q. other (sym q)))
  | inl same ↦ elim (cases_eq (mark_rank e.mark) (mark_rank f.mark)) [
    | inr other ↦ other_mark e f other ∙ sym (other_mark f e (λ q. other (sym q)))
    | inl kind ↦ rw (eq-eqb e.job f.job same, eq-eqb (mark_rank e.mark) (mark_rank f.mark) kind, eq-eqb f.job e.job (sym same), eq-eqb (mark_rank f.mark) (mark_rank e.mark) (sym kind)) refl
  ]
]

-- two lists without doubles, no element of which is of a kind with one of the other
module _ (P Q : Event → Type 0) (apart : (e f : Event) → P e → Q f → same_kind e f ≡ false) where
  distinct_append : (xs ys : List Event) → All P xs → All Q ys → IsDistinct same_kind xs → IsDistinct same_kind ys → IsDistinct same_kind (xs ++ ys)
  unfolding IsDistinct
  distinct_append [] ys p q d f = f
  distinct_append (x ∷ xs) ys p q d f = (
    recursion_from_All (λ y. same_kind x y ≡ false) (xs ++ ys)
        (All-append (λ y. same_kind x y ≡ false) xs ys (All-from_recursion (λ y. same_kind x y ≡ false) xs d.0)
        (All-weaker Q (λ y. same_kind x y ≡ false) (λ y h. apart x y (All-head P x xs p) h) ys q)),
    distinct_append xs ys (All-tail P x xs p) q d.1 f,
  )

no_double : IsDistinct same_kind []
unfolding IsDistinct
no_double = tt

one_alone : (e : Event) → IsDistinct same_kind (e ∷ [])
unfolding IsDistinct
one_alone e = (tt, tt)

-- what a deadline is has the rank 1 or 2
deadline_rank : (job : Job) (finish : Option ℕ) → (1 ≤ mark_rank (deadline_mark job finish)) × (mark_rank (deadline_mark job finish) ≤ 2)
deadline_rank job None = (omega arith, omega arith)
deadline_rank job (Some n) = elim (cases_lt job.deadline n) [
  | inl lt ↦ rw (lt-ltb job.deadline n lt) (omega arith, omega arith)
  | inr ge ↦ rw (le-ltb job.deadline n ge) (omega arith, omega arith)
]

-- the events of one job
module _ (j : ℕ) (job : Job) (finish : Option ℕ) (until : ℕ) where
  finish_all : (P : Event → Type 0) → ((n : ℕ) → finish ≡ Some n → P (record { time = n; mark = Finish; job = j })) → All P (finish_events j finish)
  finish_all P h = cases_of finish refl where
    cases_of : (o : Option ℕ) → finish ≡ o → All P (finish_events j o)
    cases_of None e = All-nil P
    cases_of (Some n) e = All-cons P (record { time = n; mark = Finish; job = j }) [] (h n e) (All-nil P)

  deadline_all : (P : Event → Type 0) → (job.deadline ≤ until → P (record { time = job.deadline; mark = deadline_mark job finish; job = j })) → All P (deadline_events j job finish until)
  deadline_all P h = elim (cases_lt until job.deadline) [
    | inl later ↦ rw (lt-leb job.deadline until later) (All-nil P)
    | inr by ↦ rw (le-leb job.deadline until by) (All-cons P (record { time = job.deadline; mark = deadline_mark job finish; job = j }) [] (h by) (All-nil P))
  ]

  release_all : (P : Event → Type 0) → (job.time ≤ until → P (record { time = job.time; mark = Release; job = j })) → All P (release_events j job until)
  release_all P h = elim (cases_lt until job.time) [
    | inl later ↦ rw (lt-leb job.time until later) (All-nil P)
    | inr by ↦ rw (le-leb job.time until by) (All-cons P (record { time = job.time; mark = Release; job = j }) [] (h by) (All-nil P))
  ]

  job_all : (P : Event → Type 0) → ((n : ℕ) → finish ≡ Some n → P (record { time = n; mark = Finish; job = j }))
      → (job.deadline ≤ until → P (record { time = job.deadline; mark = deadline_mark job finish; job = j }))
      → (job.time ≤ until → P (record { time = job.time; mark = Release; job = j })) → All P (job_events j job finish until)
  unfolding job_events
  job_all P f d r = All-append P (finish_events j finish) (deadline_events j job finish until ++ release_events j job until) (finish_all P f)
      (All-append P (deadline_events j job finish until) (release_events j job until) (deadline_all P d) (release_all P r))

  finish_alone : IsDistinct same_kind (finish_events j finish)
  finish_alone = cases_of finish where
    cases_of : (o : Option ℕ) → IsDistinct same_kind (finish_events j o)
    cases_of None = no_double
    cases_of (Some n) = one_alone (record { time = n; mark = Finish; job = j })

  deadline_alone : IsDistinct same_kind (deadline_events j job finish until)
  deadline_alone = elim (cases_lt until job.deadline) [
    | inl later ↦ rw (lt-leb job.deadline until later) no_double
    | inr by ↦ rw (le-leb job.deadline until by) (one_alone (record { time = job.deadline; mark = deadline_mark job finish; job = j }))
  ]

  release_alone : IsDistinct same_kind (release_events j job until)
  release_alone = elim (cases_lt until job.time) [
    | inl later ↦ rw (lt-leb job.time until later) no_double
    | inr by ↦ rw (le-leb job.time until by) (one_alone (record { time = job.time; mark = Release; job = j }))
  ]

  job_distinct : IsDistinct same_kind (job_events j job finish until)
  unfolding job_events
  job_distinct =
      let late : IsDistinct same_kind (deadline_events j job finish until ++ release_events j job until)
      = distinct_append (λ e. mark_rank e.mark ≤ 2) (λ e. mark_rank e.mark ≡ 3) (λ e f p q. other_mark e f (λ s. omega (arith, p, q, s)))
      (deadline_events j job finish until) (release_events j job until)
      (deadline_all (λ e. mark_rank e.mark ≤ 2) (λ _. (deadline_rank job finish).1)) (release_all (λ e. mark_rank e.mark ≡ 3) (λ _. refl)) deadline_alone release_alone in
      distinct_append (λ e. mark_rank e.mark ≡ 0) (λ e. 1 ≤ mark_rank e.mark) (λ e f p q. other_mark e f (λ s. omega (arith, p, q, s))) (finish_events j finish)
      (deadline_events j job finish until ++ release_events j job until)
      (finish_all (λ e. mark_rank e.mark ≡ 0) (λ n e. refl))
      (All-append (λ e. 1 ≤ mark_rank e.mark) (deadline_events j job finish until) (release_events j job until)
      (deadline_all (λ e. 1 ≤ mark_rank e.mark) (λ _. (deadline_rank job finish).0)) (release_all (λ e. 1 ≤ mark_rank e.mark) (λ _. omega arith)))
      finish_alone late

  has_finish : (n : ℕ) → finish ≡ Some n → Contains (job_events j job finish until) (record { time = n; mark = Finish; job = j })
  unfolding job_events
  has_finish n e = rw e (0, omega arith, refl)

  has_deadline : job.deadline ≤ until → Contains (job_events j job finish until) (record { time = job.deadline; mark = deadline_mark job finish; job = j })
  unfolding job_events
  has_deadline by = Contains-append_right (finish_events j finish) (deadline_events j job finish until ++ release_events j job until) _
      (rw (le-leb job.deadline until by) (0, omega arith, refl))

  has_release : job.time ≤ until → Contains (job_events j job finish until) (record { time = job.time; mark = Release; job = j })
  unfolding job_events
  has_release by = Contains-append_right (finish_events j finish) (deadline_events j job finish until ++ release_events j job until) _
      (Contains-append_right (deadline_events j job finish until) (release_events j job until) _ (rw (le-leb job.time until by) (0, omega arith, refl)))

-- what is known of a job by its finish so far
module _ (policy : Policy) (jobs : List Job) (until j : ℕ) (finish : Option ℕ) (ok : IsFinishSoFar policy jobs until j finish) where
  met_or_missed : (job_at jobs j).deadline ≤ until
      → ((deadline_mark (job_at jobs j) finish ≡ Miss) × Misses policy jobs j) ⊎ ((deadline_mark (job_at jobs j) finish ≡ Deadline) × (Misses policy jobs j → ⊥))
  met_or_missed by = cases_of finish ok where
    cases_of : (o : Option ℕ) → IsFinishSoFar policy jobs until j o
        → ((deadline_mark (job_at jobs j) o ≡ Miss) × Misses policy jobs j) ⊎ ((deadline_mark (job_at jobs j) o ≡ Deadline) × (Misses policy jobs j → ⊥))
    cases_of None f = inl (refl, omega (arith, f, done_mono_le policy jobs j (job_at jobs j).deadline until by))
    cases_of (Some n) f = elim (cases_lt (job_at jobs j).deadline n) [
      | inl lt ↦ inl (
        rw (lt-ltb (job_at jobs j).deadline n lt) refl,
        elim (cases_eq (done policy jobs j (job_at jobs j).deadline) (job_at jobs j).need) [
          | inl e ↦ absurd (omega (arith, f.0.least (job_at jobs j).deadline e))
          | inr ne ↦ omega (arith, done-le-need policy jobs j (job_at jobs j).deadline, ne)
        ],
      )
      | inr ge ↦ inr (rw (le-ltb (job_at jobs j).deadline n ge) refl, λ m. omega (arith, f.0.reached, done_mono_le policy jobs j n (job_at jobs j).deadline ge, m))
    ]

  deadline_happens : (job_at jobs j).deadline ≤ until → Happens policy jobs (deadline_mark (job_at jobs j) finish) j (job_at jobs j).deadline
  deadline_happens by = elim (met_or_missed by) [
    | inl (e, m) ↦ subst (λ x. Happens policy jobs x j (job_at jobs j).deadline) (sym e) (refl, m)
    | inr (e, m) ↦ subst (λ x. Happens policy jobs x j (job_at jobs j).deadline) (sym e) (refl, m)
  ]

  finish_known : (n : ℕ) → finish ≡ Some n → IsFinish policy jobs j n × (n ≤ until)
  finish_known n e = subst (IsFinishSoFar policy jobs until j) e ok

  finish_found : (n : ℕ) → IsFinish policy jobs j n → n ≤ until → finish ≡ Some n
  finish_found n f by = cases_of finish ok where
    cases_of : (o : Option ℕ) → IsFinishSoFar policy jobs until j o → o ≡ Some n
    cases_of None g = absurd (omega (arith, g, f.reached, done_mono_le policy jobs j n until by))
    cases_of (Some m) g = ap Some (omega (arith, g.0.least n f.reached, f.least m g.0.reached))

  job_each : j < length jobs → All (IsEvent policy jobs until) (job_events j (job_at jobs j) finish until)
  job_each here = job_all j (job_at jobs j) finish until (IsEvent policy jobs until)
      (λ n e. (let f = finish_known n e in record { here = here; in_time = f.1; happens = f.0 }))
      (λ by. record { here = here; in_time = by; happens = deadline_happens by })
      (λ by. record { here = here; in_time = by; happens = refl })

  job_has : (mark : Mark) (time : ℕ) → time ≤ until → Happens policy jobs mark j time → Contains (job_events j (job_at jobs j) finish until) (record { time = time; mark = mark; job = j })
  job_has Finish time by h = has_finish j (job_at jobs j) finish until time (finish_found time h by)
  job_has Release time by h =
      subst (λ t. Contains (job_events j (job_at jobs j) finish until) (record { time = t; mark = Release; job = j })) (sym h) (has_release j (job_at jobs j) finish until (omega arith))
  job_has Deadline time by h =
      elim (met_or_missed (omega (arith, h.0))) [
        | inl (e, m) ↦ absurd (h.1 m)
        | inr (e, m) ↦ subst (λ t. Contains (job_events j (job_at jobs j) finish until) (record { time = t; mark = Deadline; job = j })) (sym h.0)
            (subst (λ x. Contains (job_events j (job_at jobs j) finish until) (record { time = (job_at jobs j).deadline; mark = x; job = j })) e
            (has_deadline j (job_at jobs j) finish until (omega (arith, h.0))))
      ]
  job_has Miss time by h =
      elim (met_or_missed (omega (arith, h.0))) [
        | inr (e, m) ↦ absurd (m h.1)
        | inl (e, m) ↦ subst (λ t. Contains (job_events j (job_at jobs j) finish until) (record { time = t; mark = Miss; job = j })) (sym h.0)
            (subst (λ x. Contains (job_events j (job_at jobs j) finish until) (record { time = (job_at jobs j).deadline; mark = x; job = j })) e
            (has_deadline j (job_at jobs j) finish until (omega (arith, h.0))))
      ]

-- The events of the first n jobs, each once.
pub record AreEventsBelow (policy : Policy) (jobs : List Job) (until n : ℕ) (events : List Event) : Type 0 where
  pub each : All (IsEvent policy jobs until) events
  pub has : (e : Event) → e.job < n → IsEvent policy jobs until e → Contains events e
  pub below : All (λ e. e.job < n) events
  pub distinct : IsDistinct same_kind events

-- of no job
pub events_none : (policy : Policy) (jobs : List Job) (until : ℕ) → AreEventsBelow policy jobs until 0 []
events_none policy jobs until = record {
  each = All-nil (IsEvent policy jobs until);
  has = λ e l is. absurd (omega arith);
  below = All-nil (λ e. e.job < 0);
  distinct = no_double;
}

-- of one more job
pub events_more : (policy : Policy) (jobs : List Job) (until j : ℕ) → j < length jobs → (finish : Option ℕ) → IsFinishSoFar policy jobs until j finish
    → (events : List Event) → AreEventsBelow policy jobs until j events → AreEventsBelow policy jobs until (j + 1) (events ++ job_events j (job_at jobs j) finish until)
events_more policy jobs until j here finish ok events are =
    let job = job_at jobs j in
    let more = job_events j job finish until in
    record {
      each = All-append (IsEvent policy jobs until) events more are.each (job_each policy jobs until j finish ok here);
      has = λ e l is. elim (cases_eq e.job j) [
        | inr ne ↦ Contains-append_left events more e (are.has e (omega (arith, ne)) is)
        | inl same ↦ Contains-append_right events more e (has_own e same is)
      ];
      below = All-append (λ e. e.job < j + 1) events more (All-weaker (λ e. e.job < j) (λ e. e.job < j + 1) (λ e h. omega arith) events are.below)
          (job_all j job finish until (λ e. e.job < j + 1) (λ n e. omega arith) (λ by. omega arith) (λ by. omega arith));
      distinct = distinct_append (λ e. e.job < j) (λ e. e.job ≡ j) (λ e f p q. other_job e f (λ s. omega (arith, p, q, s))) events more
          are.below (job_all j job finish until (λ e. e.job ≡ j) (λ n e. refl) (λ by. refl) (λ by. refl))
          are.distinct (job_distinct j job finish until);
    } where
      has_own : (e : Event) → e.job ≡ j → IsEvent policy jobs until e → Contains (job_events j (job_at jobs j) finish until) e
      has_own e same is =
          let happens : Happens policy jobs e.mark j e.time = subst (λ k. Happens policy jobs e.mark k e.time) same is.happens in
          subst (λ k. Contains (job_events j (job_at jobs j) finish until) (record { time = e.time; mark = e.mark; job = k })) (sym same)
          (job_has policy jobs until j finish ok e.mark e.time is.in_time happens)

-- one number of a comparison
is_lt-then : (a b : ℕ) (rest : Ordering) → is_lt (ordering_then (nat_cmp a b) rest) ≡ (ltb a b || (eqb a b && is_lt rest))
is_lt-then a b rest = elim (cases_lt a b) [
  | inl lt ↦ rw (lt-ltb a b lt) refl
  | inr ge ↦ elim (cases_eq a b) [
    | inl e ↦ rw (le-ltb a b ge, eq-eqb a b e) refl
    | inr ne ↦ rw (le-ltb a b ge, ne_eqb a b ne) refl
  ]
]

-- where the second number isn't less than the first, they are in order, or one and the rest decides
not_less : (x a : ℕ) (rest : Bool) (P : Type 0) → (ltb x a || (eqb x a && rest)) ≡ false → (a ≡ x → rest ≡ false → P) → (a < x) ⊎ ((a ≡ x) × P)
not_less x a rest P h f = elim (cases_order a x) [
  | inr (inl lt) ↦ inl lt
  | inl e ↦ inr (e, f e (rw (le-ltb x a (omega arith), eq-eqb x a (sym e)) at h))
  | inr (inr gt) ↦ absurd (let t : true ≡ false = rw (lt-ltb x a gt) at h in cc)
]

last_less : (z c : ℕ) → is_lt (nat_cmp z c) ≡ false → c ≤ z
last_less z c h = elim (cases_lt z c) [
  | inr ge ↦ ge
  | inl lt ↦ absurd (let t : true ≡ false = rw (lt-ltb z c lt) at h in cc)
]

last_in_order : (e f : Event) → mark_rank e.mark ≡ mark_rank f.mark → e.job ≤ f.job → same_kind e f ≡ false → e.job < f.job
last_in_order e f kind le apart = elim (cases_eq e.job f.job) [
  | inr ne ↦ omega (arith, ne)
  | inl same ↦ absurd (let t : true ≡ false = rw (eq-eqb e.job f.job same, eq-eqb (mark_rank e.mark) (mark_rank f.mark) kind) at apart in cc)
]

then_assoc : (a b c : Ordering) → ordering_then (ordering_then a b) c ≡ ordering_then a (ordering_then b c)
then_assoc Less b c = refl
then_assoc Equal b c = refl
then_assoc Greater b c = refl

in_order_if : (e f : Event) → is_lt (ordering_then (ordering_then (nat_cmp f.time e.time) (nat_cmp (mark_rank f.mark) (mark_rank e.mark))) (nat_cmp f.job e.job)) ≡ false
    → same_kind e f ≡ false → IsEventBefore e f
in_order_if e f h apart =
    let nested = then_assoc (nat_cmp f.time e.time) (nat_cmp (mark_rank f.mark) (mark_rank e.mark)) (nat_cmp f.job e.job) in
    not_less f.time e.time _ _ (sym (is_lt-then f.time e.time (ordering_then (nat_cmp (mark_rank f.mark) (mark_rank e.mark)) (nat_cmp f.job e.job))) ∙ sym (ap is_lt nested) ∙ h)
    (λ _ h1. not_less (mark_rank f.mark) (mark_rank e.mark) _ _ (sym (is_lt-then (mark_rank f.mark) (mark_rank e.mark) (nat_cmp f.job e.job)) ∙ h1)
    (λ kind h2. last_in_order e f kind (last_less f.job e.job h2) apart))

-- the sorted events are all that happen, in order
module _ (policy : Policy) (jobs : List Job) (until : ℕ) (old new : List Event) (gathered : AreEventsBelow policy jobs until (length jobs) old)
    (moved : IsPermutation old new) (sorted : IsSortedByKey event_key order_cmp new) where
  distinct_new : IsDistinct same_kind new
  distinct_new = IsDistinct-IsPermutation same_kind same_kind-sym old new moved gathered.distinct

  pub all_events : AreEvents policy jobs until new
  all_events = record {
    each = All-permutation (IsEvent policy jobs until) old new moved gathered.each;
    all = λ e is. Contains-permutation old new e moved (gathered.has e is.here is);
    in_order = λ i d h. in_order_if (get_or new i d) (get_or new (i + 1) d) (sorted i d (omega arith) h) (apart_from_distinct same_kind new i (i + 1) d distinct_new (omega arith) h);
  }
