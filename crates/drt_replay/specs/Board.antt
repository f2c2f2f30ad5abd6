-- What a board shows.
use Rattle.std.specs.Prelude.{◌≡◌, ℕ, ◌+◌, ◌^◌, ◌<◌, ◌≤◌, ◌⊎◌, List, length, IfSome, map, Option, None, Some, slice_index}
use Rattle.drt_model.specs.declared.jobs.Job.{Job}
use Rattle.drt_model.specs.declared.jobs.Policy.{Policy}
use Rattle.drt_model.specs.declared.jobs.Miss.{Miss}
use Rattle.drt_model.specs.Trace.{job_at, done, Misses, IsFinish}
use Rattle.drt_model.specs.Misses.{miss_of}
use Rattle.drt_replay.specs.declared.stretch.Stretch.{Stretch}
use Rattle.drt_replay.specs.Queue.{HeldKeys}
use Rattle.drt_replay.specs.Events.{IsQueued}

-- A board shows the tick machine: the policy, the jobs, and how many ticks have run.
pub record Shown : Type 0 where
  pub policy : Policy
  pub jobs : List Job
  pub ticks : ℕ

-- The list has what is left of each job's need after so many ticks.
pub record IsLeft (policy : Policy) (jobs : List Job) (ticks : ℕ) (left : List ℕ) : Type 0 where
  pub as_many : length left ≡ length jobs
  pub each : (j : ℕ) → j < length jobs → slice_index left j + done policy jobs j ticks ≡ (job_at jobs j).need

-- After so many ticks: none where the job still lacks ticks, and else its finish.
abbrev pub IsFinishSoFar : Policy → List Job → ℕ → ℕ → Option ℕ → Type 0
IsFinishSoFar policy jobs ticks j None = done policy jobs j ticks < (job_at jobs j).need
IsFinishSoFar policy jobs ticks j (Some n) = IsFinish policy jobs j n × (n ≤ ticks)

-- The list has the finish of each job with nothing left.
pub record AreFinishes (policy : Policy) (jobs : List Job) (ticks : ℕ) (left ends : List ℕ) : Type 0 where
  pub as_many : length ends ≡ length jobs
  pub each : (j : ℕ) → j < length jobs → slice_index left j ≡ 0 → IsFinish policy jobs j (slice_index ends j) × (slice_index ends j ≤ ticks)

-- The needs of some jobs.
abbrev pub needs_of : List Job → List ℕ
needs_of jobs = map (λ job. job.need) jobs

-- What a board keeps beside what it shows: what is left of each need, the finishes, and the queues.
pub record IsBoardKept (shown : Shown) (lefts ends : List ℕ) (waiting : List Stretch) (ready : HeldKeys) : Type 0 where
  pub few : length shown.jobs < 2 ^ 32
  pub needs : (j : ℕ) → j < length shown.jobs → 1 ≤ (job_at shown.jobs j).need
  pub left : IsLeft shown.policy shown.jobs shown.ticks lefts
  pub finishes : AreFinishes shown.policy shown.jobs shown.ticks lefts ends
  pub queued : IsQueued shown.policy shown.jobs shown.ticks lefts waiting ready

-- The job at place j is late by now: its deadline has come, and it misses.
abbrev pub IsLate : Shown → ℕ → Type 0
IsLate shown j =
    (j < length shown.jobs) × Misses shown.policy shown.jobs j × ((job_at shown.jobs j).deadline ≤ shown.ticks)

-- One miss counts as no later than another: by deadline, then by task, then by index.
abbrev pub IsNoLaterMiss : Miss → Miss → Type 0
IsNoLaterMiss m n =
    (m.deadline < n.deadline)
    ⊎ ((m.deadline ≡ n.deadline) × ((m.task < n.task) ⊎ ((m.task ≡ n.task) × (m.index ≤ n.index))))

-- The miss is the first of those whose deadline has come.
pub record IsFirstMiss (shown : Shown) (miss : Miss) : Type 0 where
  pub job : ℕ
  pub late : IsLate shown job
  pub is : miss ≡ miss_of shown.jobs job
  pub first : (k : ℕ) → IsLate shown k → IsNoLaterMiss miss (miss_of shown.jobs k)

-- What a job's finish so far says of its lateness: its deadline has come, and it hasn't finished by then.
abbrev pub IsLateBy : Job → Option ℕ → ℕ → Type 0
IsLateBy job finish ticks = (job.deadline ≤ ticks) × IfSome finish (λ n. job.deadline < n)

-- By place: the job at a counts as no later than the job at b.
abbrev pub IsNoLaterAt : List Job → ℕ → ℕ → Type 0
IsNoLaterAt jobs a b =
    ((job_at jobs a).deadline < (job_at jobs b).deadline)
    ⊎ (((job_at jobs a).deadline ≡ (job_at jobs b).deadline)
    × (((job_at jobs a).task < (job_at jobs b).task) ⊎ (((job_at jobs a).task ≡ (job_at jobs b).task) × (a ≤ b))))

-- Of the jobs at k and at j, r is the place of the one that counts as the earlier.
pub record IsEarlier (jobs : List Job) (k j r : ℕ) : Type 0 where
  pub one : (r ≡ k) ⊎ (r ≡ j)
  pub before_k : IsNoLaterAt jobs r k
  pub before_j : IsNoLaterAt jobs r j

-- The job at place j is late by now, and none that is late counts as earlier.
pub record IsFirstLate (shown : Shown) (j : ℕ) : Type 0 where
  pub late : IsLate shown j
  pub first : (k : ℕ) → IsLate shown k → IsNoLaterAt shown.jobs j k
