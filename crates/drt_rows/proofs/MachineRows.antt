-- The tick machine on the worked releases: two traces, what jobs have had, when they finish, and the least miss.
use Rattle.std.proofs.Common.{◌≡◌, ℕ, zero, suc, ◌<◌, ◌≤◌, List, [], ◌∷◌, Some, None, refl, lit<, lit≤, arith}
use Rattle.drt_model.specs.declared.jobs.Job.{Job}
use Rattle.drt_model.specs.declared.jobs.Policy.TheVariants.{Edf, Fixed}
use Rattle.drt_model.specs.Trace.{trace, pending, best, better, goes_before, is_before, is_pending, done, job_at, Misses, IsFinish}
use Rattle.drt_model.specs.Misses.{IsLeastMiss}
use Rattle.drt_model.specs.Schedulable.{jobs_of}
use Rattle.drt_rows.proofs.Sets.{two_tasks, worked}

abbrev pub jobs : List Job
jobs = jobs_of two_tasks worked

-- The jobs: 0 and 1 of a, due at 4 and 8, and 2 of b, due at 6.
pub worked_jobs :
    jobs ≡ record { task = 0; priority = 1; time = 0; deadline = 4; need = 2 }
    ∷ record { task = 0; priority = 1; time = 4; deadline = 8; need = 2 }
    ∷ record { task = 1; priority = 2; time = 0; deadline = 6; need = 3 } ∷ []
worked_jobs = refl

-- Under fixed priorities b has its third tick late.
pub fixed_trace : trace Fixed jobs 8 ≡ Some 0 ∷ Some 0 ∷ Some 2 ∷ Some 2 ∷ Some 1 ∷ Some 1 ∷ Some 2 ∷ None ∷ []
unfolding trace pending best better goes_before is_before is_pending
fixed_trace = refl

-- Under EDF b, due at 6, goes before the second job of a, due at 8.
pub edf_trace : trace Edf jobs 8 ≡ Some 0 ∷ Some 0 ∷ Some 2 ∷ Some 2 ∷ Some 2 ∷ Some 1 ∷ Some 1 ∷ None ∷ []
unfolding trace pending best better goes_before is_before is_pending
edf_trace = refl

-- After four ticks under EDF jobs 1 and 2 are pending.
pub pending_at_4 : pending jobs (trace Edf jobs 4) ≡ 1 ∷ 2 ∷ []
unfolding trace pending best better goes_before is_before is_pending
pending_at_4 = refl

-- b has had 2 of its 3 ticks by 6 under fixed priorities, and all of them under EDF.
pub fixed_done : done Fixed jobs 2 6 ≡ 2
unfolding done trace pending best better goes_before is_before is_pending
fixed_done = refl

pub edf_done : done Edf jobs 2 6 ≡ 3
unfolding done trace pending best better goes_before is_before is_pending
edf_done = refl

-- So it misses under fixed priorities.
pub fixed_miss : Misses Fixed jobs 2
unfolding done trace pending best better goes_before is_before is_pending
fixed_miss = lit< tt

-- The first job of a has had its 2 ticks.
first_done : done Fixed jobs 0 4 ≡ 2
unfolding done trace pending best better goes_before is_before is_pending
first_done = refl

-- This is the least miss, as task 1, index 0, deadline 6.
pub fixed_least_miss : IsLeastMiss Fixed jobs (record { task = 1; index = 0; deadline = 6 })
fixed_least_miss = record { job = 2; here = lit< tt; is = refl; misses = fixed_miss; least = least }
  where
    least : (k : ℕ) → k < 3 → Misses Fixed jobs k → 6 ≤ (job_at jobs k).deadline
    least zero h m = absurd (omega (arith, m, first_done))
    least (suc zero) h m = lit≤ tt
    least (suc (suc zero)) h m = lit≤ tt
    least (suc (suc (suc k))) h m = absurd (omega arith)

-- Under EDF nothing misses.
edf_all : (done Edf jobs 0 4 ≡ 2) × (done Edf jobs 1 8 ≡ 2)
unfolding done trace pending best better goes_before is_before is_pending
edf_all = (refl, refl)

pub edf_no_miss : (j : ℕ) → j < 3 → ¬ Misses Edf jobs j
edf_no_miss zero h m = omega (arith, m, edf_all.0)
edf_no_miss (suc zero) h m = omega (arith, m, edf_all.1)
edf_no_miss (suc (suc zero)) h m = omega (arith, m, edf_done)
edf_no_miss (suc (suc (suc k))) h m = omega arith

-- Under EDF b finishes after 5 ticks: after each lesser number it has had less than 3.
edf_before : (done Edf jobs 2 0 ≡ 0) × (done Edf jobs 2 1 ≡ 0) × (done Edf jobs 2 2 ≡ 0) × (done Edf jobs 2 3 ≡ 1) × (done Edf jobs 2 4 ≡ 2) × (done Edf jobs 2 5 ≡ 3)
unfolding done trace pending best better goes_before is_before is_pending
edf_before = (refl, refl, refl, refl, refl, refl)

pub edf_finish : IsFinish Edf jobs 2 5
edf_finish = record { reached = edf_before.5; least = least }
  where
    least : (m : ℕ) → done Edf jobs 2 m ≡ 3 → 5 ≤ m
    least zero e = absurd (omega (arith, e, edf_before.0))
    least (suc zero) e = absurd (omega (arith, e, edf_before.1))
    least (suc (suc zero)) e = absurd (omega (arith, e, edf_before.2))
    least (suc (suc (suc zero))) e = absurd (omega (arith, e, edf_before.3))
    least (suc (suc (suc (suc zero)))) e = absurd (omega (arith, e, edf_before.4))
    least (suc (suc (suc (suc (suc m))))) e = omega arith
