-- Stretches of jobs that wait for their release: how a board begins, and how jobs of a stretch become ready.
use Rattle.std.proofs.Common.{inl, inr, ◌⊎◌, ◌≡◌, ℕ, ◌+◌, ◌-◌, ◌<◌, ◌≤◌, List, [], ◌∷◌, ◌++◌, length, set, All, Contains, IsPermutation, refl, sym, subst, arith}
use Rattle.std.proofs.lemmas.Bool.{cases_eq, cases_lt}
use Rattle.std.proofs.lemmas.List.{get_or-set_same, get_or-set_other, length-set, get_or_append_left, length-append}
use Rattle.std.proofs.Math.Seq.{get_or-append_seam}
use Rattle.std.proofs.lemmas.List.Elements.{All-cons, All-set, All-push, All-get_or}
use Rattle.std.proofs.lemmas.List.Sums.{sum_by-set, sum_by_push}
use Rattle.std.proofs.lemmas.List.Sorted.{All-permutation, Contains-permutation, length_permutation}
use Rattle.drt_model.specs.declared.jobs.Job.{Job}
use Rattle.drt_model.specs.declared.jobs.Policy.{Policy}
use Rattle.drt_model.specs.Trace.{job_at}
use Rattle.drt_replay.specs.declared.stretch.Stretch.{Stretch}
use Rattle.drt_replay.specs.Queue.{HeldKeys, entry}
use Rattle.drt_replay.specs.Events.{Ascend, AreLater, AreWaiting, IsStretchFrom, IsLater, IsMoved, IsQueued, IsReadyKey, IsReleased, IsStretch, Waits, count_of, ready_key, stretch_at}
use Rattle.drt_replay.proofs.QueueEvents.{Contains-here, Contains-later, is_ready}

abbrev pub no_stretch : Stretch
no_stretch = record { next = 0; end = 0 }

-- releases that ascend go on to ascend where the next one is no earlier than the last
pub ascend_one : (jobs : List Job) (start : ℕ) → Ascend jobs start (start + 1)
ascend_one jobs start a b from le before = (let e : a ≡ b = omega arith in subst (λ x. (job_at jobs a).time ≤ (job_at jobs x).time) e (omega arith))

pub ascend_more : (jobs : List Job) (start end : ℕ) → start < end → Ascend jobs start end → (job_at jobs (end - 1)).time ≤ (job_at jobs end).time → Ascend jobs start (end + 1)
ascend_more jobs start end some so_far next a b from le before = elim (cases_lt b end) [
  | inl lt ↦ so_far a b from le lt
  | inr ge ↦ (let e : end ≡ b = omega arith in
      subst (λ x. (job_at jobs a).time ≤ (job_at jobs x).time) e
      (elim (cases_lt a end) [
        | inl lt ↦ (let last = so_far a (end - 1) from (omega arith) (omega arith) in omega arith)
        | inr ge ↦ (let f : a ≡ end = omega arith in subst (λ x. (job_at jobs x).time ≤ (job_at jobs end).time) (sym f) (omega arith))
      ]))
]

-- what stands behind the first job of a stretch
pub ascend_tail : (jobs : List Job) (from next to : ℕ) → from ≤ next → Ascend jobs from to → Ascend jobs next to
ascend_tail jobs from next to le so_far a b lo mid hi = so_far a b (omega arith) mid hi

-- one stretch more
pub waiting_none : (jobs : List Job) → AreWaiting jobs 0 []
waiting_none jobs = record {
  waits = λ k d l. absurd (omega arith);
  each = λ j l. absurd (omega arith);
  many = refl;
}

waits_on : (waiting : List Stretch) (s : Stretch) (j : ℕ) → Waits waiting j → Waits (waiting ++ s ∷ []) j
waits_on waiting s j w =
    let same : stretch_at (waiting ++ s ∷ []) w.at ≡ stretch_at waiting w.at = get_or_append_left waiting (s ∷ []) no_stretch w.at w.here in
    record {
      at = w.at;
      here = omega (arith, length-append waiting (s ∷ []), w.here);
      from = rw same w.from;
      before = rw same w.before;
    }

waits_last : (waiting : List Stretch) (s : Stretch) (j : ℕ) → s.next ≤ j → j < s.end → Waits (waiting ++ s ∷ []) j
waits_last waiting s j from before =
    let same : stretch_at (waiting ++ s ∷ []) (length waiting) ≡ s = get_or-append_seam waiting s [] no_stretch in
    record {
      at = length waiting;
      here = omega (arith, length-append waiting (s ∷ []));
      from = rw same from;
      before = rw same before;
    }

pub waiting_more : (jobs : List Job) (next end : ℕ) (waiting : List Stretch) → next < end → end ≤ length jobs → Ascend jobs next end → AreWaiting jobs next waiting
    → AreWaiting jobs end (waiting ++ (record { next = next; end = end }) ∷ [])
waiting_more jobs next end waiting some within ascend so_far =
    let s : Stretch = record { next = next; end = end } in
    record {
      waits = All-push (IsStretch jobs) waiting s so_far.waits (record { here = within; ascends = ascend });
      each = λ j l. elim (cases_lt j next) [
        | inl lt ↦ waits_on waiting s j (so_far.each j lt)
        | inr ge ↦ waits_last waiting s j ge l
      ];
      many = omega (arith, sum_by_push (λ x. x.end - x.next) waiting s, so_far.many);
    }

-- at the start each job waits, and none is ready
pub queued-start : (policy : Policy) (jobs : List Job) (lefts : List ℕ) (waiting : List Stretch) (room : ℕ) → AreWaiting jobs (length jobs) waiting → length jobs ≤ room
    → IsQueued policy jobs 0 lefts waiting (record { items = []; room = room })
queued-start policy jobs lefts waiting room a h = record {
  waits = a.waits;
  readies = λ k d l. absurd (omega arith);
  each = λ j l. inl (a.each j l);
  room = omega (arith, a.many);
}

module _ (policy : Policy) (jobs : List Job) (now : ℕ) where
  -- jobs of one stretch become ready, one after another
  pub released_none : (s : Stretch) (r : HeldKeys) → All (λ e. IsReadyKey policy jobs now e.0) r.items → IsReleased policy jobs now s r s r
  released_none s r readies = record {
    end = refl;
    onward = omega arith;
    moved = λ j from before. absurd (omega arith);
    stayed = λ k c. c;
    readies = readies;
    many = omega arith;
    room = omega arith;
  }

  pub released_more : (s : Stretch) (r : HeldKeys) (next : ℕ) (r' r'' : HeldKeys) → IsStretch jobs s → IsReleased policy jobs now s r (record { next = next; end = s.end }) r'
      → next < s.end → (job_at jobs next).time ≤ now → IsPermutation (entry (ready_key policy jobs next) ∷ r'.items) r''.items → r'.room ≤ r''.room
      → IsReleased policy jobs now s r (record { next = next + 1; end = s.end }) r''
  released_more s r next r' r'' stretch so_far before due pushed larger =
      let key = ready_key policy jobs next in
      let in_new : (x : _) → Contains (entry key ∷ r'.items) x → Contains r''.items x = λ x c. Contains-permutation (entry key ∷ r'.items) r''.items x pushed c in
      record {
        end = refl;
        onward = omega (arith, so_far.onward);
        moved = λ j from lt. elim (cases_eq j next) [
          | inl e ↦ subst (λ i. Contains r''.items (entry (ready_key policy jobs i))) (sym e) (in_new (entry key) (Contains-here (entry key) r'.items))
          | inr ne ↦ in_new (entry (ready_key policy jobs j)) (Contains-later (entry key) r'.items (entry (ready_key policy jobs j)) (so_far.moved j from (omega arith)))
        ];
        stayed = λ k c. in_new (entry k) (Contains-later (entry key) r'.items (entry k) (so_far.stayed k c));
        readies = All-permutation (λ e. IsReadyKey policy jobs now e.0) (entry key ∷ r'.items) r''.items pushed
            (All-cons (λ e. IsReadyKey policy jobs now e.0) (entry key) r'.items (is_ready policy jobs now next (omega (arith, stretch.here)) due) so_far.readies);
        many = omega (arith, length_permutation (entry key ∷ r'.items) r''.items pushed, so_far.many);
        room = omega (arith, so_far.room, larger);
      }

  -- stretch by stretch
  pub moved_none : (w : List Stretch) (r : HeldKeys) → All (IsStretch jobs) w → All (λ e. IsReadyKey policy jobs now e.0) r.items → count_of w + length r.items ≤ r.room
      → IsMoved policy jobs now w r w r
  moved_none w r waits readies room = record { waited = λ j c. inl c; stayed = λ k c. c; waits = waits; readies = readies; room = room }

  module _ (w : List Stretch) (r : HeldKeys) (w' : List Stretch) (r' : HeldKeys) (m : IsMoved policy jobs now w r w' r') (i : ℕ) (here : i < length w') where
    -- there is room for the jobs of one stretch
    pub room_for : (stretch_at w' i).end - (stretch_at w' i).next + length r'.items ≤ r'.room
    room_for =
        let sums = sum_by-set (λ s. s.end - s.next) w' i no_stretch no_stretch here in
        omega (arith, sums, m.room)

    module _ (s : Stretch) (r'' : HeldKeys) (released : IsReleased policy jobs now (stretch_at w' i) r' s r'') where
      waited_one : (j : ℕ) → Waits w' j → Waits (set w' i s) j ⊎ Contains r''.items (entry (ready_key policy jobs j))
      waited_one j c = elim (cases_eq c.at i) [
        | inr ne ↦ (let same : stretch_at (set w' i s) c.at ≡ stretch_at w' c.at = get_or-set_other w' i c.at s no_stretch ne in
            inl (record { at = c.at; here = omega (arith, length-set w' i s, c.here); from = rw same c.from; before = rw same c.before }))
        | inl e ↦ (let same : stretch_at (set w' i s) i ≡ s = get_or-set_same w' i s no_stretch here in
            let from : (stretch_at w' i).next ≤ j = subst (λ k. (stretch_at w' k).next ≤ j) e c.from in
            let before : j < (stretch_at w' i).end = subst (λ k. j < (stretch_at w' k).end) e c.before in
            elim (cases_lt j s.next) [
              | inl lt ↦ inr (released.moved j from lt)
              | inr ge ↦ inl (record { at = i; here = omega (arith, length-set w' i s, here); from = rw same ge; before = rw same (omega (arith, released.end, before)) })
            ])
      ]

      pub moved_more : IsMoved policy jobs now w r (set w' i s) r''
      moved_more =
          let before : IsStretch jobs (stretch_at w' i) = All-get_or (IsStretch jobs) w' i no_stretch here m.waits in
          record {
            waited = λ j c. elim (m.waited j c) [ inl x ↦ waited_one j x | inr x ↦ inr (released.stayed (ready_key policy jobs j) x) ];
            stayed = λ k c. released.stayed k (m.stayed k c);
            waits = All-set (IsStretch jobs) w' i s
                (record {
                  here = omega (arith, released.end, before.here);
                  ascends = λ a b from le lt. before.ascends a b (omega (arith, released.onward, from)) le (omega (arith, released.end, lt));
                })
                m.waits;
            readies = released.readies;
            room = omega (arith, sum_by-set (λ x. x.end - x.next) w' i s no_stretch here, m.room, released.many, released.room);
          }

  -- a job that waits is released no earlier than the first of its stretch
  pub waits_from : (w : List Stretch) (time : ℕ) → All (IsStretch jobs) w → All (IsStretchFrom jobs time) w → (j : ℕ) → Waits w j → time ≤ (job_at jobs j).time
  waits_from w time waits bound j c =
      let s = stretch_at w c.at in
      let first = All-get_or (IsStretchFrom jobs time) w c.at no_stretch c.here bound (omega (arith, c.from, c.before)) in
      let stretch = All-get_or (IsStretch jobs) w c.at no_stretch c.here waits in
      omega (arith, first, stretch.ascends s.next j (omega arith) c.from c.before)

  pub waits_later : (w : List Stretch) → All (IsStretch jobs) w → AreLater jobs w now → (j : ℕ) → Waits w j → now < (job_at jobs j).time
  waits_later w waits later j c =
      let s = stretch_at w c.at in
      let first = All-get_or (IsLater jobs now) w c.at no_stretch c.here later (omega (arith, c.from, c.before)) in
      let stretch = All-get_or (IsStretch jobs) w c.at no_stretch c.here waits in
      omega (arith, first, stretch.ascends s.next j (omega arith) c.from c.before)
