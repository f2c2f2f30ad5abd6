-- What the fronts of all tasks decide.
use Rattle.std.proofs.Common.{ℕ, ◌≤◌, List, [], ◌∷◌, All, length, ap, arith}
use Rattle.std.specs.Prelude.{Ok}
use Rattle.drt_model.specs.Numbers.{most_horizon}
use Rattle.drt_model.specs.declared.tasks.Task.{Task}
use Rattle.drt_model.specs.Digraph.{Digraph, IsSoundGraph}
use Rattle.drt_graph.specs.Graphs.{AreGraphs}
use Rattle.drt_graph.specs.declared.front.FrontEntry.{FrontEntry}
use Rattle.drt_rates.specs.declared.ratio_claim.RatioClaim.{RatioClaim}
use Rattle.drt_horizon.specs.declared.answers.Horizon.TheVariants.{Under}
use Rattle.drt_horizon.specs.Given.{AreGiven}
use Rattle.drt_horizon.specs.Plans.{IsHorizonPlan}
use Rattle.drt_horizon.proofs.Givens.{given_count}
use Rattle.drt_table.specs.declared.step.Entry.{Entry}
use Rattle.drt_claims.specs.declared.evidence.Evidence.TheVariants.{EdfYes}
use Rattle.drt_claims.specs.Claims.{graphs_of}
use Rattle.drt_claims.specs.Ranges.{IsCounted, IsEvidenceInRange, IsInRangeFront}
use Rattle.drt_edf_fronts.specs.LabelFronts.{AreLabelFronts, AreDemandWalks}
use Rattle.drt_edf.specs.Searches.{IsSpentEdfSearch}
use Rattle.drt_edf.specs.Spent.{IsSpentEdfTable}
use Rattle.drt_edf.proofs.Gathered.{fronts_count, walks_due}
use Rattle.drt_edf.proofs.Planned.{planned_below}
use Rattle.drt_edf.proofs.RatioClaims.{all_cons, head_of, tail_of, claims_in_range}
use Rattle.drt_edf.proofs.Suffixes.{AreListed, are_listed}
use Rattle.drt_edf.proofs.Yes.{front_in_range}

fronts_in_range : (graphs : List Digraph) (bound : ℕ) (fronts : List (List FrontEntry)) → All IsSoundGraph graphs → bound ≤ most_horizon → AreLabelFronts bound graphs fronts
    → All IsCounted fronts → All IsInRangeFront fronts
fronts_in_range [] bound [] sound near are counted = λ k d l. absurd (omega arith)
fronts_in_range [] bound (f ∷ fronts) sound near are counted = absurd (let h = ap length are in omega (arith, h))
fronts_in_range (g ∷ graphs) bound [] sound near are counted = absurd are
fronts_in_range (g ∷ graphs) bound (f ∷ fronts) sound near are counted =
    all_cons IsInRangeFront f fronts
    (front_in_range g bound f (head_of IsSoundGraph g graphs sound) near are.0, head_of IsCounted f fronts counted)
    (fronts_in_range graphs bound fronts (tail_of IsSoundGraph g graphs sound) near are.1 (tail_of IsCounted f fronts counted))

-- The numbers of a yes are in range.
pub yes_in_range : (graphs : List Digraph) (proofs : List RatioClaim) (bound : ℕ) (fronts : List (List FrontEntry)) → AreGraphs graphs → AreGiven graphs proofs
    → bound ≤ most_horizon → AreLabelFronts bound graphs fronts → All IsCounted fronts → IsEvidenceInRange (EdfYes proofs fronts)
yes_in_range graphs proofs bound fronts are given near label counted =
    let n = given_count graphs proofs given in
    let m = fronts_count bound graphs fronts label in
    ((claims_in_range graphs proofs are.sound given, omega (arith, n, are.few)), (fronts_in_range graphs bound fronts are.sound near label counted, omega (arith, m, are.few)))

-- The horizon of a plan is at most 2^40.
pub plan_near : (graphs : List Digraph) (proofs : List RatioClaim) (bound : ℕ) → IsHorizonPlan graphs proofs (Ok (Under bound)) → bound ≤ most_horizon
plan_near graphs proofs bound plan = omega (arith, plan.2.2, plan.2.3)

-- A spent search is one of the set.
pub spent_table : (tasks : List Task) (proofs : List RatioClaim) → AreGiven (graphs_of tasks) proofs → (bound : ℕ) → IsHorizonPlan (graphs_of tasks) proofs (Ok (Under bound))
    → (budget task : ℕ) (log : List Entry) → IsSpentEdfSearch (graphs_of tasks) bound budget task log → IsSpentEdfTable tasks budget task log
spent_table tasks proofs given bound plan budget task log s = record {
  bound = bound;
  below = planned_below tasks proofs given bound plan;
  near = plan_near (graphs_of tasks) proofs bound plan;
  graph = s.0;
  is_graph = s.1;
  run = s.2.run;
  spent = s.2.spent;
  unfinished = s.2.unfinished;
  short = s.2.short;
  shared = s.2.shared;
}

-- Walks of demand with more work than time, as walks of the tasks.
pub listed_walks : (tasks : List Task) (fronts : List (List FrontEntry)) (t : ℕ) (walks : List (List ℕ)) → AreDemandWalks (graphs_of tasks) fronts t walks → AreListed tasks walks t
listed_walks tasks fronts t walks are = are_listed tasks walks t (walks_due (graphs_of tasks) fronts t walks are)
