-- Walks of the tasks of higher priority for which a vertex has no time, or a least one.
use Rattle.std.specs.Prelude.{ℕ, ◌+◌, ◌<◌, ◌≤◌, List}
use Rattle.std.specs.List.{AllZip}
use Rattle.drt_model.specs.Digraph.{Digraph}
use Rattle.drt_model.specs.Walk.{IsWalk}
use Rattle.drt_states_laws.specs.Laws.{asked_together}

-- There is one walk of each graph, and no time up to the deadline has room for the job and for what the walks ask for before it.
pub record AreMissing (graphs : List Digraph) (wcet deadline : ℕ) (walks : List (List ℕ)) : Type 0 where
  pub each : AllZip IsWalk graphs walks
  pub none : (t : ℕ) → 1 ≤ t → t ≤ deadline → t < wcet + asked_together graphs walks t

-- There is one walk of each graph, and the time is the least one up to the deadline that has room for the job and for what the walks ask for
-- before it.
pub record AreReachingWalks (graphs : List Digraph) (wcet deadline time : ℕ) (walks : List (List ℕ)) : Type 0 where
  pub each : AllZip IsWalk graphs walks
  pub some : 1 ≤ time
  pub most : time ≤ deadline
  pub fits : wcet + asked_together graphs walks time ≤ time
  pub none : (t : ℕ) → 1 ≤ t → t < time → t < wcet + asked_together graphs walks t
