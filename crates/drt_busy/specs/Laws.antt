-- The laws of the trace: what the jobs have had, and what a miss says of the needs.
use Rattle.std.specs.Prelude.{◌≡◌, ℕ, ◌+◌, ◌<◌, ◌≤◌, false, List, length, Some}
use Rattle.drt_model.specs.declared.jobs.Job.{Job}
use Rattle.drt_model.specs.declared.jobs.Policy.{Policy}
use Rattle.drt_model.specs.declared.jobs.Policy.TheVariants.{Edf, Fixed}
use Rattle.drt_model.specs.declared.jobs.Release.{Release}
use Rattle.drt_model.specs.declared.tasks.Task.{Task}
use Rattle.drt_model.specs.Constrained.{AreConstrained}
use Rattle.drt_model.specs.Legal.{IsLegal}
use Rattle.drt_model.specs.Limits.{IsTaskSet}
use Rattle.drt_model.specs.Schedulable.{jobs_of}
use Rattle.drt_model.specs.Trace.{job_at, pick, done, goes_before, Misses}
use Rattle.drt_busy.specs.Needs.{needs, is_due, is_above, AreTimed}

-- A pick is a job of the list that is released and lacks ticks.
abbrev pub PicksArePending : Type 0
PicksArePending =
    (policy : Policy) (jobs : List Job) (n j : ℕ) → pick policy jobs n ≡ Some j
    → (j < length jobs) × ((job_at jobs j).time ≤ n) × (done policy jobs j n < (job_at jobs j).need)

-- What a job has had never falls, and never exceeds its need.
abbrev pub DoneGrows : Type 0
DoneGrows =
    (policy : Policy) (jobs : List Job) (j m n : ℕ) → m ≤ n
    → (done policy jobs j m ≤ done policy jobs j n) × (done policy jobs j n ≤ (job_at jobs j).need)

-- Where a job is pending the tick isn't idle, and the pending job doesn't go before the one that runs.
abbrev pub TicksAreUsed : Type 0
TicksAreUsed =
    (policy : Policy) (jobs : List Job) (n j : ℕ) → (job_at jobs j).time ≤ n → done policy jobs j n < (job_at jobs j).need
    → (k : ℕ) × (pick policy jobs n ≡ Some k) × (goes_before policy jobs j k ≡ false)

-- Where a job misses, one of least deadline among those that miss does.
abbrev pub LeastMisses : Type 0
LeastMisses =
    (policy : Policy) (jobs : List Job) (j : ℕ) → j < length jobs → Misses policy jobs j
    → (k : ℕ) × (k < length jobs) × Misses policy jobs k
    × ((i : ℕ) → i < length jobs → Misses policy jobs i → (job_at jobs k).deadline ≤ (job_at jobs i).deadline)

-- Under EDF: where a job misses, the jobs that are released at some s or later and due by its deadline t need more than t - s.
abbrev pub MissesOverload : Type 0
MissesOverload =
    (jobs : List Job) (j : ℕ) → (job_at jobs j).time < (job_at jobs j).deadline → Misses Edf jobs j
    → (s : ℕ) × (s < (job_at jobs j).deadline)
    × ((job_at jobs j).deadline < s + needs (is_due s (job_at jobs j).deadline) jobs)

-- Under either policy: where the jobs that are due by t need more than t, one of them misses.
abbrev pub OverloadMisses : Type 0
OverloadMisses =
    (policy : Policy) (jobs : List Job) → AreTimed jobs → (t : ℕ) → t < needs (is_due 0 t) jobs
    → (j : ℕ) × (j < length jobs) × ((job_at jobs j).deadline ≤ t) × Misses policy jobs j

-- Under fixed priorities, with constrained deadlines: where a job misses and no earlier one of its task does, the earlier ones
-- are done when it is released; and there is a start s of the higher tasks' busy time, at its release or before, from which for no
-- t up to its relative deadline its need and the needs of the higher tasks' jobs released within t ticks fit into t ticks.
abbrev pub MissesPassNoTime : Type 0
MissesPassNoTime =
    (version : ℕ) (tasks : List Task) → IsTaskSet version tasks → AreConstrained tasks
    → (rs : List Release) → IsLegal tasks rs → (j : ℕ) → j < length rs → Misses Fixed (jobs_of tasks rs) j
    → ((i : ℕ) → i < j → (job_at (jobs_of tasks rs) i).task ≡ (job_at (jobs_of tasks rs) j).task → ¬ Misses Fixed (jobs_of tasks rs) i)
    → ((i : ℕ) → i < j → (job_at (jobs_of tasks rs) i).task ≡ (job_at (jobs_of tasks rs) j).task
    → (job_at (jobs_of tasks rs) i).need ≤ done Fixed (jobs_of tasks rs) i (job_at (jobs_of tasks rs) j).time)
    × ((s : ℕ) × (s ≤ (job_at (jobs_of tasks rs) j).time)
    × ((t : ℕ) → 1 ≤ t → (job_at (jobs_of tasks rs) j).time + t ≤ (job_at (jobs_of tasks rs) j).deadline
    → t < (job_at (jobs_of tasks rs) j).need + needs (is_above (job_at (jobs_of tasks rs) j).priority s (s + t)) (jobs_of tasks rs)))

-- Under fixed priorities: a job released at 0 misses where for no t up to its deadline its need and the needs of the higher
-- priorities' jobs released before t fit into t ticks.
abbrev pub NoTimeMisses : Type 0
NoTimeMisses =
    (jobs : List Job) (j : ℕ) → j < length jobs → (job_at jobs j).time ≡ 0 → 1 ≤ (job_at jobs j).need
    → ((t : ℕ) → 1 ≤ t → t ≤ (job_at jobs j).deadline → t < (job_at jobs j).need + needs (is_above (job_at jobs j).priority 0 t) jobs)
    → Misses Fixed jobs j
