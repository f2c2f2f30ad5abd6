-- How the jobs of a list of releases are named.
use Rattle.std.specs.Prelude.{◌≡◌, ℕ, ◌<◌, List, length, slice_index}
use Rattle.drt_model.specs.declared.jobs.Release.{Release}
use Rattle.drt_model.specs.declared.tasks.Task.{Task}
use Rattle.drt_model.specs.Misses.{index_of}
use Rattle.drt_model.specs.Schedulable.{jobs_of}

-- What names jobs: the tasks and the releases.
pub record JobNames : Type 0 where
  pub tasks : List Task
  pub releases : List Release

-- The list has the index of each job among those of its task.
pub record AreIndices (tasks : List Task) (releases : List Release) (indices : List ℕ) : Type 0 where
  pub as_many : length indices ≡ length releases
  pub each : (j : ℕ) → j < length releases → slice_index indices j ≡ index_of (jobs_of tasks releases) j
