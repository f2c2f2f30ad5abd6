-- The job that the queues give is the pick, and nothing is released before the next event.
use Rattle.std.proofs.Common.{inl, inr, ◌⊎◌, ◌≡◌, ℕ, ◌-◌, ◌<◌, ◌≤◌, Bool, true, false, ◌&&◌, ◌||◌, eqb, ltb, List, [], length, get_or, set, All, Contains, Option, Some, None, refl, sym, ap, ◌∙◌, subst, arith}
use Rattle.std.proofs.lemmas.Bool.{cases_eq, cases_lt, cases_order, lt-ltb, le-ltb, ltb-false, eq-eqb}
use Rattle.std.proofs.lemmas.List.{get_or-set_same, get_or-set_other, get_or_past, length-set}
use Rattle.std.proofs.lemmas.List.Elements.{All-contains, Contains-get_or}
use Rattle.drt_model.specs.declared.jobs.Job.{Job}
use Rattle.drt_model.specs.declared.jobs.Policy.{Policy}
use Rattle.drt_model.specs.declared.jobs.Policy.TheVariants.{Edf, Fixed}
use Rattle.drt_model.specs.Trace.{job_at, pick, goes_before, is_before}
use Rattle.drt_model.proofs.MachineLemmas.{IsPending, pick_pending, in_range, done_unreleased}
use Rattle.drt_model.proofs.Unique.{IsAhead, pick_is}
use Rattle.drt_replay.specs.Queue.{HeldKeys, entry, is_less}
use Rattle.drt_replay.specs.Board.{IsLeft}
use Rattle.drt_replay.specs.declared.stretch.Stretch.{Stretch}
use Rattle.drt_replay.specs.Events.{AreLater, IsCleared, IsFirstLeft, IsStretchFrom, IsMoved, IsQueued, IsReadyKey, ready_key}
use Rattle.drt_replay.proofs.Stretches.{waits_from, waits_later}

-- one number of two ranks, the rest of the test, and what it says
ahead_number : (a x : ℕ) (rest here there : Bool) (P : Type 0) → (ltb a x || (eqb a x && rest)) ≡ false
    → (rest ≡ false → (here ≡ true) ⊎ ((there ≡ false) × P))
    → ((ltb x a || (eqb x a && here)) ≡ true) ⊎ (((ltb a x || (eqb a x && there)) ≡ false) × P)
ahead_number a x rest here there P h f = elim (cases_order a x) [
  | inl e ↦ (let r : rest ≡ false = rw (le-ltb a x (omega arith), eq-eqb a x e) at h in elim (f r) [
    | inl t ↦ inl (rw (le-ltb x a (omega arith), eq-eqb x a (sym e)) t)
    | inr (s, p) ↦ inr (rw (le-ltb a x (omega arith), eq-eqb a x e) s, p)
  ])
  | inr (inl lt) ↦ absurd (let t : true ≡ false = rw (lt-ltb a x lt) at h in cc)
  | inr (inr gt) ↦ inl (rw (lt-ltb x a gt) refl)
]

-- of two ready jobs, the one whose key isn't more is ahead
pub key_ahead : (policy : Policy) (jobs : List Job) (k j : ℕ) → is_less (ready_key policy jobs k) (ready_key policy jobs j) ≡ false → IsAhead policy jobs j k
unfolding is_less goes_before is_before
key_ahead Edf jobs k j h =
    ahead_number (job_at jobs k).deadline (job_at jobs j).deadline _ _ _ (j ≤ k) h
    (λ h1. ahead_number (job_at jobs k).task (job_at jobs j).task _ _ _ (j ≤ k) h1
    (λ h2. ahead_number (job_at jobs k).time (job_at jobs j).time _ _ _ (j ≤ k) h2
    (λ h3. inr (refl, ltb-false k j h3))))
key_ahead Fixed jobs k j h =
    ahead_number (job_at jobs k).priority (job_at jobs j).priority _ _ _ (j ≤ k) h
    (λ h1. ahead_number (job_at jobs k).time (job_at jobs j).time _ _ _ (j ≤ k) h1
    (λ h2. inr (refl, ltb-false k j h2)))

ready_place : (policy : Policy) (jobs : List Job) (j : ℕ) → (ready_key policy jobs j).place ≡ j
ready_place Edf jobs j = refl
ready_place Fixed jobs j = refl

-- what is left of a job that has nothing left stays so
less_left : (lefts : List ℕ) (j m k : ℕ) → get_or lefts k 0 ≡ 0 → get_or (set lefts j (get_or lefts j 0 - m)) k 0 ≡ 0
less_left lefts j m k z = elim (cases_eq k j) [
  | inr ne ↦ get_or-set_other lefts j k (get_or lefts j 0 - m) 0 ne ∙ z
  | inl e ↦ elim (cases_lt j (length lefts)) [
    | inl h ↦ subst (λ i. get_or (set lefts j (get_or lefts j 0 - m)) i 0 ≡ 0) (sym e) (get_or-set_same lefts j (get_or lefts j 0 - m) 0 h ∙ omega (arith, z, ap (λ i. get_or lefts i 0) e))
    | inr h ↦ get_or_past (set lefts j (get_or lefts j 0 - m)) k 0 (omega (arith, length-set lefts j (get_or lefts j 0 - m)))
  ]
]

module _ (policy : Policy) (jobs : List Job) (now : ℕ) (lefts : List ℕ) where
  pub queued_moved : (w : List Stretch) (r : HeldKeys) (w' : List Stretch) (r' : HeldKeys) → IsQueued policy jobs now lefts w r → IsMoved policy jobs now w r w' r'
      → IsQueued policy jobs now lefts w' r'
  queued_moved w r w' r' q m = record {
    waits = m.waits;
    readies = m.readies;
    each = λ j h. elim (q.each j h) [
      | inl c ↦ elim (m.waited j c) [ inl x ↦ inl x | inr x ↦ inr (inl x) ]
      | inr (inl c) ↦ inr (inl (m.stayed (ready_key policy jobs j) c))
      | inr (inr z) ↦ inr (inr z)
    ];
    room = m.room;
  }

  pub queued_cleared : (w : List Stretch) (r r' : HeldKeys) → IsQueued policy jobs now lefts w r → IsCleared lefts r r' → IsQueued policy jobs now lefts w r'
  queued_cleared w r r' q c = record {
    waits = q.waits;
    readies = λ i d h. All-contains (λ e. IsReadyKey policy jobs now e.0) r.items (get_or r'.items i d) q.readies (c.among (get_or r'.items i d).0 (Contains-get_or r'.items i d h));
    each = λ j h. elim (q.each j h) [
      | inl x ↦ inl x
      | inr (inl x) ↦ elim (c.kept (ready_key policy jobs j) x) [
        | inl y ↦ inr (inl y)
        | inr z ↦ inr (inr (subst (λ i. get_or lefts i 0 ≡ 0) (ready_place policy jobs j) z))
      ]
      | inr (inr z) ↦ inr (inr z)
    ];
    room = omega (arith, q.room, c.fewer, c.room);
  }

  module _ (w : List Stretch) (r : HeldKeys) (q : IsQueued policy jobs now lefts w r) (shown : IsLeft policy jobs now lefts) (later : AreLater jobs w now) where
    -- a pending job is ready
    pending_ready : (k : ℕ) → IsPending policy jobs now k → Contains r.items (entry (ready_key policy jobs k))
    pending_ready k p =
        let here = in_range policy jobs now k p in
        elim (q.each k here) [
          | inl c ↦ absurd (omega (arith, waits_later policy jobs now w q.waits later k c, p.released))
          | inr (inl c) ↦ c
          | inr (inr z) ↦ absurd (omega (arith, z, shown.each k here, p.lacks))
        ]

    pub first_pick : (j : ℕ) → IsFirstLeft lefts r j → pick policy jobs now ≡ Some j
    first_pick j f =
        let ready : IsReadyKey policy jobs now f.key = All-contains (λ e. IsReadyKey policy jobs now e.0) r.items (entry f.key) q.readies f.first.member in
        let here : j < length jobs = omega (arith, ready.here, f.of_job) in
        let is : f.key ≡ ready_key policy jobs j = ready.is ∙ ap (ready_key policy jobs) f.of_job in
        let released : (job_at jobs j).time ≤ now = subst (λ i. (job_at jobs i).time ≤ now) f.of_job ready.released in
        let p : IsPending policy jobs now j = record { released = released; lacks = omega (arith, shown.each j here, f.some_left) } in
        pick_is policy jobs now j p
        (λ k pk. key_ahead policy jobs k j
        (subst (λ x. is_less (ready_key policy jobs k) x ≡ false) is
        (All-contains (λ e. is_less e.0 f.key ≡ false) r.items (entry (ready_key policy jobs k)) f.first.first (pending_ready k pk))))

    none_if : (o : Option ℕ) → ((k : ℕ) → o ≡ Some k → ⊥) → o ≡ None
    none_if None h = refl
    none_if (Some k) h = absurd (h k refl)

    pub no_pick : r.items ≡ [] → pick policy jobs now ≡ None
    no_pick e = none_if (pick policy jobs now) (λ k p. (let c = pending_ready k (pick_pending policy jobs now k p) in omega (arith, c.1, ap length e)))

    -- no job is released before the first that waits
    pub calm_before : (next : ℕ) → ((j : ℕ) → j < length jobs → 1 ≤ (job_at jobs j).need) → All (IsStretchFrom jobs next) w
        → (k : ℕ) → k < length jobs → now < (job_at jobs k).time → next ≤ (job_at jobs k).time
    calm_before next needs bound k h t = elim (q.each k h) [
      | inl c ↦ waits_from policy jobs now w next q.waits bound k c
      | inr (inl c) ↦ absurd (
          let ready : IsReadyKey policy jobs now (ready_key policy jobs k) = All-contains (λ e. IsReadyKey policy jobs now e.0) r.items (entry (ready_key policy jobs k)) q.readies c in
          let released : (job_at jobs k).time ≤ now = subst (λ i. (job_at jobs i).time ≤ now) (ready_place policy jobs k) ready.released in
          omega arith
          )
      | inr (inr z) ↦ absurd (omega (arith, z, shown.each k h, needs k h, done_unreleased policy jobs k now (omega arith)))
    ]

  -- later, and with less left of some job
  pub queued_later : (w : List Stretch) (r : HeldKeys) → IsQueued policy jobs now lefts w r → (after : ℕ) → now ≤ after → (j m : ℕ)
      → IsQueued policy jobs after (set lefts j (get_or lefts j 0 - m)) w r
  queued_later w r q after h j m = record {
    waits = q.waits;
    readies = λ i d l. (let ready = q.readies i d l in record { here = ready.here; is = ready.is; released = omega (arith, ready.released) });
    each = λ k l. elim (q.each k l) [
      | inl c ↦ inl c
      | inr (inl c) ↦ inr (inl c)
      | inr (inr z) ↦ inr (inr (less_left lefts j m k z))
    ];
    room = q.room;
  }

  pub queued_idle : (w : List Stretch) (r : HeldKeys) → IsQueued policy jobs now lefts w r → (after : ℕ) → now ≤ after → IsQueued policy jobs after lefts w r
  queued_idle w r q after h = record {
    waits = q.waits;
    readies = λ i d l. (let ready = q.readies i d l in record { here = ready.here; is = ready.is; released = omega (arith, ready.released) });
    each = q.each;
    room = q.room;
  }
