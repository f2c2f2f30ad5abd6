-- Releases that reach a response time.
use Rattle.drt_timeline.specs.Text.{release_in}
use Rattle.std.specs.Prelude.{◌≡◌, ◌≢◌, ℕ, ◌<◌, ◌≤◌, ◌^◌, List, length, slice_index_or}
use Rattle.drt_model.specs.declared.jobs.Policy.TheVariants.{Fixed}
use Rattle.drt_model.specs.declared.jobs.Release.{Release}
use Rattle.drt_model.specs.declared.tasks.Task.{Task}
use Rattle.drt_model.specs.Legal.{IsLegal}
use Rattle.drt_model.specs.Schedulable.{jobs_of}
use Rattle.drt_model.specs.Trace.{IsFinish}
use Rattle.drt_responses.specs.declared.response.Response.{Response}

-- The first release of the task is at this place, of this vertex, and at time 0.
pub record IsStart (task vertex : ℕ) (releases : List Release) (j : ℕ) : Type 0 where
  pub here : j < length releases
  pub task_is : (release_in releases j).task ≡ task
  pub first : (i : ℕ) → i < j → (release_in releases i).task ≢ task
  pub vertex_is : (release_in releases j).vertex ≡ vertex
  pub time_is : (release_in releases j).time ≡ 0

-- A response is reached: its releases are legal, the first of its task is of its vertex at time 0, and by the tick machine under fixed
-- priorities that job finishes after exactly its ticks, which are at most 2^62.
pub record IsReachedResponse (tasks : List Task) (r : Response) : Type 0 where
  pub legal : IsLegal tasks r.releases
  pub near : r.ticks ≤ 2 ^ 62
  pub job : ℕ
  pub start : IsStart r.task r.vertex r.releases job
  pub finish : IsFinish Fixed (jobs_of tasks r.releases) job r.ticks
