-- How a miss names a job of some releases.
use Rattle.std.specs.Prelude.{◌≡◌, ℕ, ◌<◌, List, length, take, count_by, ◌==◌, slice_index_or}
use Rattle.drt_model.specs.declared.jobs.Job.{Job}
use Rattle.drt_model.specs.declared.jobs.Miss.{Miss}
use Rattle.drt_model.specs.declared.jobs.Release.{Release}
use Rattle.drt_model.specs.Misses.{miss_of}

-- What stands for a release past the last one.
abbrev pub no_release : Release
no_release = record { task = 0; vertex = 0; time = 0; need = 0 }

-- The release at place j is the one of this task before which so many of its releases stand.
pub record IsReleasePlace (releases : List Release) (task index j : ℕ) : Type 0 where
  pub here : j < length releases
  pub task_is : (slice_index_or releases j no_release).task ≡ task
  pub index_is : count_by (λ r. r.task == task) (take j releases) ≡ index

-- The miss names a job of the list, with its deadline.
abbrev pub NamesJob : List Job → Miss → Type 0
NamesJob jobs miss = (j : ℕ) × (j < length jobs) × (miss ≡ miss_of jobs j)
