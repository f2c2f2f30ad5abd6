-- Where a budget is spent, and how much is enough.
use Rattle.std.specs.Prelude.{◌≡◌, ℕ, ◌≤◌, ◌<◌, false, List, length, All, Some, slice_get}
use Rattle.drt_model.specs.Numbers.{most_horizon}
use Rattle.drt_model.specs.declared.tasks.Task.{Task}
use Rattle.drt_model.specs.Digraph.{Digraph}
use Rattle.drt_model.specs.Utilisation.{IsScale}
use Rattle.drt_demand.specs.Demand.{demand_algebra}
use Rattle.drt_rates.specs.declared.ratio_claim.RatioClaim.{RatioClaim}
use Rattle.drt_rates.specs.RatioClaims.{fractions}
use Rattle.drt_table.specs.Machine.{IsRun, replay, is_finished}
use Rattle.drt_table.specs.declared.step.Entry.{Entry}
use Rattle.drt_horizon.specs.Given.{AreGiven}
use Rattle.drt_horizon.specs.CycleTurns.{cycle_turns_of, IsOverFound}
use Rattle.drt_horizon.specs.Laws.{latest}
use Rattle.drt_horizon.specs.declared.answers.Over.TheVariants.{Spent}
use Rattle.drt_claims.specs.Claims.{graphs_of}
use Rattle.drt_edf.specs.Plans.{IsAboveOne, HasHorizon}
pub use Rattle.drt_edf_fronts.specs.Needs.{table_need, HasWaveTable}
pub use Rattle.drt_table.specs.Machine.{search_of}

-- The search of this task's walks spent the budget: the log is a run of that many steps which isn't finished, up to the horizon of
-- a set whose utilisation is below one. So the budget is below what the search needs, and the task has no wave table.
pub record IsSpentEdfTable (tasks : List Task) (budget task : ℕ) (log : List Entry) : Type 0 where
  pub bound : ℕ
  pub below : HasHorizon tasks bound
  pub near : bound ≤ most_horizon
  pub graph : Digraph
  pub is_graph : slice_get (graphs_of tasks) task ≡ Some graph
  pub run : IsRun demand_algebra (search_of graph bound budget) log
  pub spent : length log ≡ budget
  pub unfinished : is_finished demand_algebra (search_of graph bound budget) (replay demand_algebra (search_of graph bound budget) log) ≡ false
  pub short : budget < table_need graph bound
  pub shared : HasWaveTable graph bound budget → ⊥

-- The search for an overload spent the budget: the utilisation is above one, and for some cycles that have the tasks' ratios and
-- name each vertex at most once this is the last of so many step times, none of which has more work than time. So the budget is
-- below the time by which there is one.
pub record IsSpentOverload (tasks : List Task) (budget last : ℕ) : Type 0 where
  pub above : IsAboveOne tasks
  pub proofs : List RatioClaim
  pub are : AreGiven (graphs_of tasks) proofs
  pub spent : IsOverFound (cycle_turns_of (graphs_of tasks) proofs) budget (Spent last)
  pub scale : ℕ
  pub is_scale : IsScale (fractions proofs) scale
  pub short : budget < latest scale (graphs_of tasks) proofs

-- The budget is enough for each search: of each task's walks up to the horizon where the utilisation is below one, and for an
-- overload where it is above.
pub record IsEnoughForEdf (tasks : List Task) (budget : ℕ) : Type 0 where
  pub tables : (bound : ℕ) → HasHorizon tasks bound → All (λ g. table_need g bound ≤ budget) (graphs_of tasks)
  pub overload : IsAboveOne tasks → (proofs : List RatioClaim) → AreGiven (graphs_of tasks) proofs → (scale : ℕ) → IsScale (fractions proofs) scale → latest scale (graphs_of tasks) proofs ≤ budget
