-- The best pending job, from the last job to the first.
use Rattle.std.proofs.Common.{◌≡◌, ℕ, suc, ◌+◌, ◌-◌, ◌<◌, ◌≤◌, true, false, List, length, filter, Option, Some, None, refl, ap, arith, add-one, [], ◌∷◌, ◌++◌}
use Rattle.std.specs.List.{range_with_len}
use Rattle.drt_model.specs.declared.jobs.Job.{Job}
use Rattle.drt_model.specs.declared.jobs.Policy.{Policy}
use Rattle.drt_model.specs.Trace.{best, better, pending, is_pending, trace}

-- the best pending job among those from place i on
unfoldable pub best_from : Policy → List Job → List (Option ℕ) → ℕ → Option ℕ
best_from policy jobs picks i = best policy jobs (filter (is_pending jobs picks) (range_with_len i (length jobs - i)))

range-cons : (n i : ℕ) → i < n → range_with_len i (n - i) ≡ range_with_len i (suc (n - (i + 1)))
range-cons n i h =
    let e : n - i ≡ suc (n - (i + 1)) = omega arith in
    ap (range_with_len i) e

module _ (policy : Policy) (jobs : List Job) (picks : List (Option ℕ)) where
  pub best_from-past : best_from policy jobs picks (length jobs) ≡ None
  unfolding best_from best
  best_from-past = let e : length jobs - length jobs ≡ 0 = omega arith in rw e

  pub best_from-pending : (i : ℕ) → i < length jobs → is_pending jobs picks i ≡ true → best_from policy jobs picks i ≡ Some (better policy jobs i (best_from policy jobs picks (i + 1)))
  unfolding best_from best
  best_from-pending i h p = rw (range-cons (length jobs) i h) (rw p refl)

  pub best_from-other : (i : ℕ) → i < length jobs → is_pending jobs picks i ≡ false → best_from policy jobs picks i ≡ best_from policy jobs picks (i + 1)
  unfolding best_from best
  best_from-other i h p = rw (range-cons (length jobs) i h) (rw p refl)

  pub best_from-all : best_from policy jobs picks 0 ≡ best policy jobs (pending jobs picks)
  unfolding best_from pending
  best_from-all = let e : length jobs - 0 ≡ length jobs = omega arith in rw e

  -- the same, one job down
  pub best_down-pending : (i : ℕ) → 0 < i → i ≤ length jobs → is_pending jobs picks (i - 1) ≡ true
      → best_from policy jobs picks (i - 1) ≡ Some (better policy jobs (i - 1) (best_from policy jobs picks i))
  best_down-pending i z h t = let e : i - 1 + 1 ≡ i = omega arith in rw e at (best_from-pending (i - 1) (omega arith) t)

  pub best_down-other : (i : ℕ) → 0 < i → i ≤ length jobs → is_pending jobs picks (i - 1) ≡ false → best_from policy jobs picks (i - 1) ≡ best_from policy jobs picks i
  best_down-other i z h t = let e : i - 1 + 1 ≡ i = omega arith in rw e at (best_from-other (i - 1) (omega arith) t)

-- one tick more
pub trace-next : (policy : Policy) (jobs : List Job) (n : ℕ) (picks : List (Option ℕ)) → picks ≡ trace policy jobs n → picks ++ best policy jobs (pending jobs picks) ∷ [] ≡ trace policy jobs (n + 1)
unfolding trace
trace-next policy jobs n picks e = rw add-one (rw e refl)
