-- Tails of the tasks of a set.
use Rattle.std.specs.Prelude.{List}
use Rattle.drt_model.specs.declared.tasks.Task.{Task}
use Rattle.drt_claims.specs.Searches.{places_of}
use Rattle.drt_claims.specs.Trees.{ByPriority}
use Rattle.drt_states.specs.Tails.{BoundsWalks, EachTail, IsTail}
use Rattle.drt_states.specs.declared.claims.TailClaim.{TailClaim}

-- There is a tail for each task but the one of lowest priority, in order of priority, which bounds what walks of the task ask for.
pub record HaveTails (tasks : List Task) (tails : List TailClaim) : Type 0 where
  pub rising : ByPriority tasks (λ sorted. EachTail IsTail (places_of tasks sorted) tails)
  pub bounding : ByPriority tasks (λ sorted. EachTail BoundsWalks (places_of tasks sorted) tails)
