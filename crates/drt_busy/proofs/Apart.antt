-- Jobs whose times to run never meet are each run at once.
use Rattle.std.proofs.Common.{inl, inr, ◌≡◌, ℕ, zero, suc, ◌+◌, ◌-◌, ◌<◌, ◌≤◌, min, List, length, Some, sym, ap, ◌∙◌, arith}
use Rattle.std.proofs.lemmas.Bool.{cases_lt, cases_order}
use Rattle.drt_model.specs.declared.jobs.Job.{Job}
use Rattle.drt_model.specs.declared.jobs.Policy.{Policy}
use Rattle.drt_model.specs.Trace.{job_at, done}
use Rattle.drt_model.proofs.MachineLemmas.{IsPending, pick_pending, pick_some, in_range, done_cases, done-zero}

-- an earlier job could be done before a later one is released
pub record AreApart (jobs : List Job) : Type 0 where
  pub apart : (i j : ℕ) → i < j → j < length jobs → (job_at jobs i).time + (job_at jobs i).need ≤ (job_at jobs j).time

module _ (policy : Policy) (jobs : List Job) (a : AreApart jobs) where
  -- two jobs are never to be run at one tick
  one_at_once : (j k n : ℕ) → j < length jobs → k < length jobs → (j ≡ k → ⊥) → (job_at jobs j).time ≤ n → n < (job_at jobs j).time + (job_at jobs j).need
      → (job_at jobs k).time ≤ n → n < (job_at jobs k).time + (job_at jobs k).need → ⊥
  one_at_once j k n lj lk ne tj dj tk dk = elim (cases_order j k) [
    | inl e ↦ ne e
    | inr (inl h) ↦ omega (arith, a.apart j k h lk)
    | inr (inr h) ↦ omega (arith, a.apart k j h lj)
  ]

  -- what a job has had after n ticks
  pub done-apart : (n j : ℕ) → j < length jobs → done policy jobs j n ≡ min (job_at jobs j).need (n - (job_at jobs j).time)
  done-apart zero j h = omega (arith, done-zero policy jobs j)
  done-apart (suc n) j h =
      let before = done-apart n j h in
      elim (done_cases policy jobs n j) [
        | inl (p, e) ↦ (let q = pick_pending policy jobs n j p in omega (arith, e, before, q.released, q.lacks))
        | inr (np, e) ↦
            elim (cases_lt n (job_at jobs j).time) [
              | inl early ↦ omega (arith, e, before)
              | inr released ↦ elim (cases_lt n ((job_at jobs j).time + (job_at jobs j).need)) [
                | inr over ↦ omega (arith, e, before)
                | inl running ↦
                    (let q : IsPending policy jobs n j = record { released = released; lacks = omega (arith, before) } in
                    let (k, p) = pick_some policy jobs n j q in
                    let r = pick_pending policy jobs n k p in
                    let lk = in_range policy jobs n k r in
                    absurd (one_at_once j k n h lk (λ s. np (p ∙ ap Some (sym s))) released running r.released (omega (arith, done-apart n k lk, r.lacks))))
              ]
            ]
      ]
