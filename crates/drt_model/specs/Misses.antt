-- How a miss names a job.
use Rattle.std.specs.Prelude.{◌≡◌, ℕ, ◌<◌, ◌≤◌, List, length, take, count_by, ◌==◌}
use Rattle.drt_model.specs.declared.jobs.Job.{Job}
use Rattle.drt_model.specs.declared.jobs.Policy.{Policy}
use Rattle.drt_model.specs.declared.jobs.Miss.{Miss}
use Rattle.drt_model.specs.Trace.{job_at, Misses}

-- The index of the job at place j is how many jobs of its task stand before it.
abbrev pub index_of : List Job → ℕ → ℕ
index_of jobs j = count_by (λ job. job.task == (job_at jobs j).task) (take j jobs)

-- The job at place j is the one that this task and this index name.
pub record IsJob (jobs : List Job) (task index j : ℕ) : Type 0 where
  pub here : j < length jobs
  pub task_is : (job_at jobs j).task ≡ task
  pub index_is : index_of jobs j ≡ index

-- How the job at place j is named where it misses.
abbrev pub miss_of : List Job → ℕ → Miss
miss_of jobs j = record { task = (job_at jobs j).task; index = index_of jobs j; deadline = (job_at jobs j).deadline }

-- The miss names a job of the list with its deadline, that job misses, and no job that misses has an earlier deadline.
pub record IsLeastMiss (policy : Policy) (jobs : List Job) (miss : Miss) : Type 0 where
  pub job : ℕ
  pub here : job < length jobs
  pub is : miss ≡ miss_of jobs job
  pub misses : Misses policy jobs job
  pub least : (k : ℕ) → k < length jobs → Misses policy jobs k → (job_at jobs job).deadline ≤ (job_at jobs k).deadline
