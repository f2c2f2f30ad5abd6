-- The tick machine: one processor that runs the best pending job at each tick. The tie rules are the project's own.
use Rattle.std.specs.Prelude.{◌≡◌, ℕ, zero, suc, ◌<◌, ◌≤◌, Bool, false, ◌&&◌, ◌||◌, if◌then◌else◌, ◌==◌, nat_lt, nat_le, List, [], ◌∷◌, ◌++◌, length, Option, Some, None, slice_index_or, count_by, filter}
use Rattle.std.specs.List.{range_with_len}
use Rattle.drt_model.specs.declared.jobs.Job.{Job}
use Rattle.drt_model.specs.declared.jobs.Policy.{Policy}
use Rattle.drt_model.specs.declared.jobs.Policy.TheVariants.{Edf, Fixed}

-- Jobs stand in a list and are named by their places in it. Past the list's end there is a job with nothing to do.
abbrev pub job_at : List Job → ℕ → Job
job_at jobs j = slice_index_or jobs j (record { task = 0; priority = 0; time = 0; deadline = 0; need = 0 })

-- A pick is the place of the job that runs at a tick, or none where the processor is idle; this says whether it is job j.
abbrev pub is_pick_of : ℕ → Option ℕ → Bool
is_pick_of j None = false
is_pick_of j (Some k) = k == j

-- How many of the picks are of job j.
abbrev pub ticks_of : ℕ → List (Option ℕ) → ℕ
ticks_of j picks = count_by (is_pick_of j) picks

-- After the picks of the ticks so far, job j is pending where it is released by now and has had fewer ticks than its need.
unfoldable pub is_pending : List Job → List (Option ℕ) → ℕ → Bool
is_pending jobs picks j =
    nat_le (job_at jobs j).time (length picks) && nat_lt (ticks_of j picks) (job_at jobs j).need

-- The places of the pending jobs.
unfoldable pub pending : List Job → List (Option ℕ) → List ℕ
pending jobs picks = filter (is_pending jobs picks) (range_with_len 0 (length jobs))

-- What jobs are ordered by, the weightiest number first: under EDF the deadline, then the task, then the release; under
-- fixed priorities the priority of the task, then the release.
abbrev pub rank : Policy → Job → List ℕ
rank Edf job = job.deadline ∷ job.task ∷ job.time ∷ []
rank Fixed job = job.priority ∷ job.time ∷ []

-- At the first place where two ranks differ, the first is less.
unfoldable pub is_before : List ℕ → List ℕ → Bool
is_before [] ys = false
is_before (x ∷ xs) [] = false
is_before (x ∷ xs) (y ∷ ys) = nat_lt x y || (x == y && is_before xs ys)

-- Job j goes before job k.
unfoldable pub goes_before : Policy → List Job → ℕ → ℕ → Bool
goes_before policy jobs j k = is_before (rank policy (job_at jobs j)) (rank policy (job_at jobs k))

-- Job j, unless job k is there and goes before it.
unfoldable pub better : Policy → List Job → ℕ → Option ℕ → ℕ
better policy jobs j None = j
better policy jobs j (Some k) = if goes_before policy jobs k j then k else j

-- The best of the jobs at some places, or none where there is no place.
unfoldable pub best : Policy → List Job → List ℕ → Option ℕ
best policy jobs [] = None
best policy jobs (j ∷ others) = Some (better policy jobs j (best policy jobs others))

-- The picks of the first n ticks: each tick runs the best of the jobs that are pending after the ticks before it.
unfoldable pub trace : Policy → List Job → ℕ → List (Option ℕ)
trace policy jobs zero = []
trace policy jobs (suc n) =
    let picks = trace policy jobs n in picks ++ best policy jobs (pending jobs picks) ∷ []

-- The pick of tick n, counted from 0.
unfoldable pub pick : Policy → List Job → ℕ → Option ℕ
pick policy jobs n = let picks = trace policy jobs n in best policy jobs (pending jobs picks)

-- How many of the first n ticks job j has had.
unfoldable pub done : Policy → List Job → ℕ → ℕ → ℕ
done policy jobs j n = ticks_of j (trace policy jobs n)

-- Job j misses where it has had fewer ticks than its need among the ticks before its deadline.
abbrev pub Misses : Policy → List Job → ℕ → Type 0
Misses policy jobs j = done policy jobs j (job_at jobs j).deadline < (job_at jobs j).need

-- Job j finishes after n ticks where n is the least number of ticks after which it has had its need.
pub record IsFinish (policy : Policy) (jobs : List Job) (j n : ℕ) : Type 0 where
  pub reached : done policy jobs j n ≡ (job_at jobs j).need
  pub least : (m : ℕ) → done policy jobs j m ≡ (job_at jobs j).need → n ≤ m
