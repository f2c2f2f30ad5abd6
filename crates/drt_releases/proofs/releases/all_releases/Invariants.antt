-- The releases so far are those of the tasks so far.
use Rattle.std.proofs.Common.{◌≡◌, List}
use Rattle.drt_model.specs.declared.tasks.Task.{Task}
use Rattle.drt_busy.specs.WalkReleases.{all_releases}
use Rattle.drt_claims.specs.Claims.{graphs_of}
use Rattle.drt_releases.specs.Walks.{walk_at}
use Rattle.drt_releases.proofs.releases.all_releases.Given as goal

abbrev pub invariant-tasks : goal.invariant-tasks
invariant-tasks l = (tasks : List Task) → l.graphs ≡ graphs_of tasks → l.releases.items ≡ all_releases tasks (walk_at l.walks) l.i
