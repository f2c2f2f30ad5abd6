-- What a board knows of the jobs that wait for their release and of those that are ready, by which it finds its next event.
use Rattle.std.specs.Prelude.{◌≡◌, ℕ, ◌+◌, ◌-◌, ◌<◌, ◌≤◌, ◌⊎◌, List, length, All, Contains, slice_index, slice_index_or}
use Rattle.std.specs.List.{sum_by}
use Rattle.drt_model.specs.declared.jobs.Job.{Job}
use Rattle.drt_model.specs.declared.jobs.Policy.{Policy}
use Rattle.drt_model.specs.declared.jobs.Policy.TheVariants.{Edf, Fixed}
use Rattle.drt_model.specs.Trace.{job_at}
use Rattle.drt_replay.specs.declared.queue.Key.{Key}
use Rattle.drt_replay.specs.declared.stretch.Stretch.{Stretch}
use Rattle.drt_replay.specs.Queue.{HeldKeys, IsFirstKey, entry}

-- A released job is ready by its rank under the policy.
abbrev pub ready_key : Policy → List Job → ℕ → Key
ready_key Edf jobs j = record { first = (job_at jobs j).deadline; second = (job_at jobs j).task; third = (job_at jobs j).time; place = j }
ready_key Fixed jobs j = record { first = (job_at jobs j).priority; second = (job_at jobs j).time; third = 0; place = j }

-- The key is that of a job that is ready, which is released by now.
pub record IsReadyKey (policy : Policy) (jobs : List Job) (now : ℕ) (key : Key) : Type 0 where
  pub here : key.place < length jobs
  pub is : key ≡ ready_key policy jobs key.place
  pub released : (job_at jobs key.place).time ≤ now

-- The releases from a place on and before another ascend.
abbrev pub Ascend : List Job → ℕ → ℕ → Type 0
Ascend jobs from to = (a b : ℕ) → from ≤ a → a ≤ b → b < to → (job_at jobs a).time ≤ (job_at jobs b).time

-- The stretch is one of the list's, and its releases ascend.
pub record IsStretch (jobs : List Job) (s : Stretch) : Type 0 where
  pub here : s.end ≤ length jobs
  pub ascends : Ascend jobs s.next s.end

-- The stretch at a place of a list, and past its end one without jobs.
abbrev pub stretch_at : List Stretch → ℕ → Stretch
stretch_at waiting i = slice_index_or waiting i (record { next = 0; end = 0 })

-- A job waits where it stands in one of the stretches.
pub record Waits (waiting : List Stretch) (j : ℕ) : Type 0 where
  pub at : ℕ
  pub here : at < length waiting
  pub from : (stretch_at waiting at).next ≤ j
  pub before : j < (stretch_at waiting at).end

-- How many jobs the stretches have.
abbrev pub count_of : List Stretch → ℕ
count_of waiting = sum_by (λ s. s.end - s.next) waiting

-- No job of the stretch is released before a time.
abbrev pub IsStretchFrom : List Job → ℕ → Stretch → Type 0
IsStretchFrom jobs time s = s.next < s.end → time ≤ (job_at jobs s.next).time

-- No job of the stretch is released by now.
abbrev pub IsLater : List Job → ℕ → Stretch → Type 0
IsLater jobs now s = s.next < s.end → now < (job_at jobs s.next).time

-- No job that waits is released by now.
abbrev pub AreLater : List Job → List Stretch → ℕ → Type 0
AreLater jobs waiting now = All (IsLater jobs now) waiting

-- Each job waits, or is ready, or has nothing left; and the ready queue has room for those that wait.
pub record IsQueued (policy : Policy) (jobs : List Job) (now : ℕ) (lefts : List ℕ) (waiting : List Stretch) (ready : HeldKeys) : Type 0 where
  pub waits : All (IsStretch jobs) waiting
  pub readies : All (λ r. IsReadyKey policy jobs now r.0) ready.items
  pub each : (j : ℕ) → j < length jobs
      → Waits waiting j ⊎ (Contains ready.items (entry (ready_key policy jobs j)) ⊎ (slice_index lefts j ≡ 0))
  pub room : count_of waiting + length ready.items ≤ ready.room

-- The first so many jobs wait, and no others.
pub record AreWaiting (jobs : List Job) (count : ℕ) (waiting : List Stretch) : Type 0 where
  pub waits : All (IsStretch jobs) waiting
  pub each : (j : ℕ) → j < count → Waits waiting j
  pub many : count_of waiting ≡ count

-- The first jobs of a stretch have become ready.
pub record IsReleased (policy : Policy) (jobs : List Job) (now : ℕ) (s : Stretch) (ready : HeldKeys) (s' : Stretch) (ready' : HeldKeys) : Type 0 where
  pub end : s'.end ≡ s.end
  pub onward : s.next ≤ s'.next
  pub moved : (j : ℕ) → s.next ≤ j → j < s'.next → Contains ready'.items (entry (ready_key policy jobs j))
  pub stayed : (key : Key) → Contains ready.items (entry key) → Contains ready'.items (entry key)
  pub readies : All (λ r. IsReadyKey policy jobs now r.0) ready'.items
  pub many : s'.end - s'.next + length ready'.items ≤ s.end - s.next + length ready.items
  pub room : ready.room ≤ ready'.room

-- Jobs that waited have become ready.
pub record IsMoved (policy : Policy) (jobs : List Job) (now : ℕ) (waiting : List Stretch) (ready : HeldKeys) (waiting' : List Stretch) (ready' : HeldKeys) : Type 0 where
  pub waited : (j : ℕ) → Waits waiting j → Waits waiting' j ⊎ Contains ready'.items (entry (ready_key policy jobs j))
  pub stayed : (key : Key) → Contains ready.items (entry key) → Contains ready'.items (entry key)
  pub waits : All (IsStretch jobs) waiting'
  pub readies : All (λ r. IsReadyKey policy jobs now r.0) ready'.items
  pub room : count_of waiting' + length ready'.items ≤ ready'.room

-- Some entries have left the queue, each of a job with nothing left.
pub record IsCleared (lefts : List ℕ) (old new : HeldKeys) : Type 0 where
  pub kept : (key : Key) → Contains old.items (entry key) → Contains new.items (entry key) ⊎ (slice_index lefts key.place ≡ 0)
  pub among : (key : Key) → Contains new.items (entry key) → Contains old.items (entry key)
  pub fewer : length new.items ≤ length old.items
  pub room : new.room ≡ old.room

-- Job j has something left, and the queue's first key is of job j.
pub record IsFirstLeft (lefts : List ℕ) (queue : HeldKeys) (j : ℕ) : Type 0 where
  pub key : Key
  pub of_job : key.place ≡ j
  pub first : IsFirstKey queue.items key
  pub some_left : 0 < slice_index lefts j
