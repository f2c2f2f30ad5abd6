-- What some jobs need together.
use Rattle.std.specs.Prelude.{ℕ, ◌<◌, Bool, ◌&&◌, if◌then◌else◌, nat_lt, nat_le, List, All, sum_by}
use Rattle.drt_model.specs.declared.jobs.Job.{Job}

-- The sum of the needs of the jobs that pass a test.
abbrev pub needs : (Job → Bool) → List Job → ℕ
needs passes jobs = sum_by (λ job. if passes job then job.need else 0) jobs

-- The job is released at s or later, and due by t.
abbrev pub is_due : ℕ → ℕ → Job → Bool
is_due s t job = nat_le s job.time && nat_le job.deadline t

-- The job is of a higher priority than n (a lower number), and released at s or later and before e.
abbrev pub is_above : ℕ → ℕ → ℕ → Job → Bool
is_above n s e job = nat_lt job.priority n && (nat_le s job.time && nat_lt job.time e)

-- Each job is due after its release.
abbrev pub AreTimed : List Job → Type 0
AreTimed jobs = All (λ job. job.time < job.deadline) jobs
