-- What is found above a utilisation of one.
use Rattle.std.proofs.Common.{ℕ, ◌<◌, ◌≤◌, ◌⊎◌, inl, inr, List}
use Rattle.std.proofs.lemmas.Bool.{cases_lt}
use Rattle.drt_model.specs.declared.tasks.Task.{Task}
use Rattle.drt_graph.specs.Graphs.{AreGraphs}
use Rattle.drt_rates.specs.declared.ratio_claim.RatioClaim.{RatioClaim}
use Rattle.drt_horizon.specs.declared.answers.Over.TheVariants.{Spent}
use Rattle.drt_horizon.specs.Given.{AreGiven}
use Rattle.drt_horizon.specs.CycleTurns.{cycle_turns_of, IsOverFound}
use Rattle.drt_horizon.specs.Laws.{SearchEnds, latest}
use Rattle.drt_horizon.specs.Plans.{IsPlannedAboveOne}
use Rattle.drt_claims.specs.Claims.{graphs_of}
use Rattle.drt_edf.specs.Spent.{IsSpentOverload}
use Rattle.drt_edf.proofs.Planned.{planned_above}

-- A spent budget is below what the search needs.
pub spent_overload : SearchEnds → (tasks : List Task) (proofs : List RatioClaim) → AreGraphs (graphs_of tasks) → AreGiven (graphs_of tasks) proofs
    → IsPlannedAboveOne (graphs_of tasks) proofs → (budget last : ℕ) → IsOverFound (cycle_turns_of (graphs_of tasks) proofs) budget (Spent last) → IsSpentOverload tasks budget last
spent_overload ends tasks proofs graphs given above budget last over = record {
  above = planned_above tasks proofs given above;
  proofs = proofs;
  are = given;
  spent = over;
  scale = above.0;
  is_scale = above.1;
  short = go (cases_lt budget (latest above.0 (graphs_of tasks) proofs));
}
  where
    go : (budget < latest above.0 (graphs_of tasks) proofs) ⊎ (latest above.0 (graphs_of tasks) proofs ≤ budget) → budget < latest above.0 (graphs_of tasks) proofs
    go (inl l) = l
    go (inr l) = absurd (ends (graphs_of tasks) proofs graphs given above above.0 above.1 budget last l over)
