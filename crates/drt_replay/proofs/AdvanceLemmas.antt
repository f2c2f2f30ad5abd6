-- One event: what was kept before it is kept after it.
use Rattle.std.proofs.Common.{◌≡◌, ℕ, ◌+◌, ◌-◌, ◌<◌, ◌≤◌, cond, eqb, [], List, length, get_or, set, All, Some, None, ◌++◌, ap, drop, subst, sym, take, arith, ◌∙◌}
use Rattle.std.proofs.Math.Seq.{take-append_seam}
use Rattle.drt_model.specs.declared.jobs.Job.{Job}
use Rattle.drt_model.specs.declared.jobs.Policy.{Policy}
use Rattle.drt_model.specs.Trace.{job_at, pick}
use Rattle.drt_replay.specs.Queue.{HeldKeys}
use Rattle.drt_replay.specs.Board.{IsLeft, AreFinishes}
use Rattle.drt_replay.specs.declared.stretch.Stretch.{Stretch}
use Rattle.drt_replay.specs.Events.{AreLater, IsCleared, IsFirstLeft, IsStretchFrom, IsMoved, IsQueued}
use Rattle.drt_replay.proofs.EventLemmas.{IsCalm, calm_up_to, runs_through, idle_through, jump_left, jump_finishes, idle_left, idle_finishes}
use Rattle.drt_replay.proofs.BoardLemmas.{picked_in_range}
use Rattle.drt_replay.proofs.PickLemmas.{queued_moved, queued_cleared, first_pick, no_pick, calm_before, queued_later, queued_idle}

-- What stands in a vector of n items that was lent as a list, once xs is written to that list:
abbrev pub lent : {X : Type 0} → ℕ → List X → List X → List X
lent n xs ys = take n (xs ++ drop (length xs) ys)

-- where xs is as long, it is xs.
pub written : {X : Type 0} (n : ℕ) (xs ys : List X) → length xs ≡ n → lent n xs ys ≡ xs
written n xs ys e = ap (λ k. take k (xs ++ drop (length xs) ys)) (sym e) ∙ take-append_seam xs (drop (length xs) ys)

module _ (policy : Policy) (jobs : List Job) (now : ℕ) (lefts : List ℕ) (shown : IsLeft policy jobs now lefts) (w : List Stretch) (r : HeldKeys) (w' : List Stretch) (r' : HeldKeys)
    (before : IsQueued policy jobs now lefts w r) (moved : IsMoved policy jobs now w r w' r') where
  -- the ready jobs' places
  pub ready_here : All (λ e. e.0.place < length lefts) r'.items
  ready_here k d h = (let ready = moved.readies k d h in omega (arith, ready.here, shown.as_many))

  module _ (later : AreLater jobs w' now) (r'' : HeldKeys) (cleared : IsCleared lefts r' r'') where
    queued : IsQueued policy jobs now lefts w' r''
    queued = queued_cleared policy jobs now lefts w' r' r'' (queued_moved policy jobs now lefts w r w' r' before moved) cleared

    module _ (needs : (j : ℕ) → j < length jobs → 1 ≤ (job_at jobs j).need) (next : ℕ) (soon : All (IsStretchFrom jobs next) w') where
      calm : (count : ℕ) → now + count ≤ next → IsCalm jobs now count
      calm count h = calm_up_to jobs now count next h (calm_before policy jobs now lefts w' r'' queued shown later next needs soon)

      -- a job runs
      module _ (j : ℕ) (first : IsFirstLeft lefts r'' j) where
        runs : pick policy jobs now ≡ Some j
        runs = first_pick policy jobs now lefts w' r'' queued shown later j first

        pub run_here : j < length lefts
        run_here = picked_in_range policy jobs now lefts shown j runs

        module _ (count : ℕ) (some : 0 < count) (in_time : now + count ≤ next) (enough : count ≤ get_or lefts j 0) where
          pub run_left : IsLeft policy jobs (now + count) (set lefts j (get_or lefts j 0 - count))
          run_left = jump_left policy jobs now lefts shown j count runs (calm count in_time) some enough

          pub run_picks : (i : ℕ) → now ≤ i → i < now + count → pick policy jobs i ≡ Some j
          run_picks i from until =
              runs_through policy jobs now j runs count (calm count in_time) (omega (arith, run_here, shown.as_many, shown.each j (omega (arith, run_here, shown.as_many)))) i from until

          pub run_finishes : (ends : List ℕ) → AreFinishes policy jobs now lefts ends
              → AreFinishes policy jobs (now + count) (set lefts j (get_or lefts j 0 - count)) (cond (eqb (get_or lefts j 0) count) (set ends j (now + count)) ends)
          run_finishes ends ok = jump_finishes policy jobs now lefts shown j count runs (calm count in_time) some enough ends ok

          pub run_queued : IsQueued policy jobs (now + count) (set lefts j (get_or lefts j 0 - count)) w' r''
          run_queued = queued_later policy jobs now lefts w' r'' queued (now + count) (omega arith) j count

      -- none runs
      module _ (empty : r''.items ≡ []) (ahead : now < next) where
        idle : pick policy jobs now ≡ None
        idle = no_pick policy jobs now lefts w' r'' queued shown later empty

        distance : now + (next - now) ≡ next
        distance = omega arith

        pub rest_picks : (i : ℕ) → now ≤ i → i < next → pick policy jobs i ≡ None
        rest_picks i from until = idle_through policy jobs now (next - now) idle (calm (next - now) (omega arith)) i from (omega arith)

        pub rest_left : IsLeft policy jobs next lefts
        rest_left = subst (λ n. IsLeft policy jobs n lefts) distance (idle_left policy jobs now lefts shown (next - now) idle (calm (next - now) (omega arith)))

        pub rest_finishes : (ends : List ℕ) → AreFinishes policy jobs now lefts ends → AreFinishes policy jobs next lefts ends
        rest_finishes ends ok = subst (λ n. AreFinishes policy jobs n lefts ends) distance (idle_finishes policy jobs now (next - now) lefts ends ok)

        pub rest_queued : IsQueued policy jobs next lefts w' r''
        rest_queued = queued_idle policy jobs now lefts w' r'' queued next (omega arith)
