-- Assignments of jobs to ticks, whatever a policy would run.
use Rattle.std.specs.Prelude.{ℕ, zero, suc, ◌+◌, ◌<◌, ◌≤◌, if◌then◌else◌, List, length, Option}
use Rattle.drt_model.specs.declared.jobs.Job.{Job}
use Rattle.drt_model.specs.Trace.{is_pick_of, job_at}
use Rattle.drt_busy.specs.Needs.{needs, is_due}

-- An assignment gives each tick the place of one job, or none; this says how many of the first n ticks it gives to job j.
unfoldable pub had : (ℕ → Option ℕ) → ℕ → ℕ → ℕ
had assigned j zero = 0
had assigned j (suc n) = had assigned j n + (if is_pick_of j (assigned n) then 1 else 0)

-- Where the jobs that are due by t need more than t, no assignment of one job to each tick meets all these deadlines.
abbrev pub NoAssignmentMeets : Type 0
NoAssignmentMeets =
    (assigned : ℕ → Option ℕ) (jobs : List Job) (t : ℕ) → t < needs (is_due 0 t) jobs
    → (j : ℕ) × (j < length jobs) × ((job_at jobs j).deadline ≤ t)
    × (had assigned j (job_at jobs j).deadline < (job_at jobs j).need)
