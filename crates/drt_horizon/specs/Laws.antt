-- What the horizon and the turns of a set mean.
use Rattle.std.specs.Prelude.{ℕ, ◌+◌, ◌-◌, ◌*◌, ◌/◌, ◌<◌, ◌≤◌, ℤ, pos, ◌+ℤ◌, ◌≤ℤ◌, List, [], ◌∷◌, All, Ok}
use Rattle.drt_model.specs.Each.{Each}
use Rattle.drt_model.specs.Digraph.{Digraph, IsSoundGraph, vertex_count}
use Rattle.drt_model.specs.Walk.{IsPath, last_of, work, span, deadline, IsWalk, due_of}
use Rattle.drt_graph.specs.RatioRules.{FitPotentials}
use Rattle.drt_model.specs.Utilisation.{IsScale}
use Rattle.drt_graph.specs.Horizon.{constant_of}
use Rattle.drt_graph.specs.Graphs.{AreGraphs}
use Rattle.drt_graph.specs.declared.front.FrontEntry.{FrontEntry}
use Rattle.drt_graph.specs.WalkLabel.{IsLabelOf}
use Rattle.drt_rates.specs.declared.ratio_claim.RatioClaim.{RatioClaim}
use Rattle.drt_rates.specs.RatioClaims.{fractions}
use Rattle.drt_horizon.specs.declared.answers.Horizon.TheVariants.{Under}
use Rattle.drt_horizon.specs.declared.answers.Over.TheVariants.{Spent}
use Rattle.drt_horizon.specs.Given.{AreGiven}
use Rattle.drt_rates.specs.Demands.{demands}
use Rattle.drt_horizon.specs.Plans.{IsHorizonPlan, IsPlannedAboveOne, rate_at}
use Rattle.drt_horizon.specs.CycleTurns.{cycle_turns_of, cycle_turn_works, turned, IsStepTime, IsOverFound}

-- Where potentials fit each edge at the ratio a / b, b times the work of a walk is at most a times its last deadline plus the
-- constant.
abbrev pub WorkIsBounded : Type 0
WorkIsBounded =
    (g : Digraph) → IsSoundGraph g →
    (a b : ℕ) (hs : List ℤ) → FitPotentials g a b hs →
    (u : ℕ) (vs : List ℕ) → u < vertex_count g → IsPath g u vs →
    pos (b * work g (u ∷ vs)) ≤ℤ (pos (a * (span g u vs + deadline g (last_of u vs))) +ℤ constant_of g a b hs)

-- The list is a walk of the graph whose last deadline is at most t. The empty list stands for no walk.
abbrev pub IsDue : Digraph → ℕ → List ℕ → Type 0
IsDue g t w = IsWalk g w × (due_of g w ≤ t)

-- Such a walk for each graph, in order.
abbrev pub AreDue : ℕ → List Digraph → List (List ℕ) → Type 0
AreDue t graphs walks = Each (λ g w. IsDue g t w) graphs walks

-- The work of the walks together.
unfoldable pub efforts_together : List Digraph → List (List ℕ) → ℕ
efforts_together [] walks = 0
efforts_together (g ∷ graphs) [] = 0
efforts_together (g ∷ graphs) (w ∷ walks) = work g w + efforts_together graphs walks

-- Where the plan is a horizon, each time by which walks with more work than time are due is at most the horizon.
abbrev pub HorizonHolds : Type 0
HorizonHolds =
    (graphs : List Digraph) (proofs : List RatioClaim) → AreGraphs graphs → AreGiven graphs proofs →
    (bound : ℕ) → IsHorizonPlan graphs proofs (Ok (Under bound)) →
    (t : ℕ) (walks : List (List ℕ)) → AreDue t graphs walks → t < efforts_together graphs walks →
    t ≤ bound

-- A time by which an overload shows: the scale times the work of one turn of each cycle, over the rate less the scale, and one.
abbrev pub latest : ℕ → List Digraph → List RatioClaim → ℕ
latest scale graphs proofs = scale * cycle_turn_works (cycle_turns_of graphs proofs) / (rate_at scale proofs - scale) + 1

-- Where the plan is that the utilisation is above one, a step time up to that time has more work of whole turns than time.
abbrev pub OverloadHasATime : Type 0
OverloadHasATime =
    (graphs : List Digraph) (proofs : List RatioClaim) → AreGraphs graphs → AreGiven graphs proofs → IsPlannedAboveOne graphs proofs →
    (scale : ℕ) → IsScale (fractions proofs) scale →
    (t : ℕ) × IsStepTime (cycle_turns_of graphs proofs) t × (t ≤ latest scale graphs proofs) × (t < turned (cycle_turns_of graphs proofs) t)

-- A search whose budget is at least that time does not spend it.
abbrev pub SearchEnds : Type 0
SearchEnds =
    (graphs : List Digraph) (proofs : List RatioClaim) → AreGraphs graphs → AreGiven graphs proofs → IsPlannedAboveOne graphs proofs →
    (scale : ℕ) → IsScale (fractions proofs) scale →
    (budget last : ℕ) → latest scale graphs proofs ≤ budget → IsOverFound (cycle_turns_of graphs proofs) budget (Spent last) → ⊥

-- The label is that of a walk of the graph.
abbrev pub IsWalkLabel : Digraph → FrontEntry → Type 0
IsWalkLabel g x = (u : ℕ) × (vs : List ℕ) × IsLabelOf g u vs x

-- Each label of each list is that of a walk of its graph, and there is one list for each graph, in order.
abbrev pub AreWalkFronts : List Digraph → List (List FrontEntry) → Type 0
AreWalkFronts graphs fronts = Each (λ g front. All (IsWalkLabel g) front) graphs fronts

-- Where the plan is a horizon, each time at which the demands over such lists are together more than the time is at most the
-- horizon.
abbrev pub DemandsWithin : Type 0
DemandsWithin =
    (graphs : List Digraph) (proofs : List RatioClaim) → AreGraphs graphs → AreGiven graphs proofs →
    (bound : ℕ) → IsHorizonPlan graphs proofs (Ok (Under bound)) →
    (fronts : List (List FrontEntry)) → AreWalkFronts graphs fronts →
    (t : ℕ) → t < demands graphs fronts t →
    t ≤ bound
