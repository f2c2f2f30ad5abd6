-- Whole turns of the cycles that have the tasks' ratios, as walks.
use Rattle.std.specs.Prelude.{ℕ, ◌/◌, ◌≤◌, List, [], ◌∷◌, length}
use Rattle.std.specs.List.{repeat}
use Rattle.drt_model.specs.declared.tasks.Task.{Task}
use Rattle.drt_model.specs.Digraph.{Digraph}
use Rattle.drt_model.specs.Walk.{cycle_span}
use Rattle.drt_rates.specs.declared.ratio_claim.RatioClaim.{RatioClaim}
use Rattle.drt_busy.specs.Choice.{AreDueBy, AreWalks, efforts}
use Rattle.drt_horizon.specs.CycleTurns.{cycle_turns_of, turned}
use Rattle.drt_claims.specs.Claims.{graphs_of}
use Rattle.drt_releases.specs.Walks.{walk_at}

-- The walk of the whole turns of a cycle within t: the vertices of the cycle, as often as its span goes into t.
unfoldable pub turns_of : Digraph → ℕ → List ℕ → List ℕ
turns_of g t cycle = repeat (t / cycle_span g cycle) cycle

-- Such a walk for each task, in order.
unfoldable pub turns_within : List Digraph → List RatioClaim → ℕ → List (List ℕ)
turns_within [] proofs t = []
turns_within (g ∷ graphs) [] t = []
turns_within (g ∷ graphs) (p ∷ proofs) t = turns_of g t p.cycle ∷ turns_within graphs proofs t

-- The lists are walks of the tasks, one for each, which are due by t and have together the work of all whole turns within t.
pub record AreTurns (tasks : List Task) (proofs : List RatioClaim) (t : ℕ) (walks : List (List ℕ)) : Type 0 where
  pub are : AreWalks tasks (walk_at walks)
  pub due : AreDueBy tasks (walk_at walks) t
  pub all : turned (cycle_turns_of (graphs_of tasks) proofs) t ≤ efforts tasks (walk_at walks) (length tasks)
