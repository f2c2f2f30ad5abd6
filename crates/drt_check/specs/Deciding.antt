-- What is found of a statement, rule by rule.
use Rattle.std.specs.Prelude.{◌≡◌, ◌≢◌, ℕ, ◌<◌, ◌≤◌, AllPairs, IfSome, List, Option, Some, None, length}
use Rattle.drt_model.specs.Numbers.{most_horizon}
use Rattle.drt_model.specs.Digraph.{Digraph}
use Rattle.drt_claims.specs.Claims.{graphs_of, IsFine, HaveUtilisationBelowOne, IsHorizon}
use Rattle.drt_claims.specs.Kinds.{ratios_of}
use Rattle.drt_claims.specs.Rules.{Applies, Keeps, number_of}
use Rattle.drt_claims.specs.Statement.{Statement}
use Rattle.drt_rates.specs.declared.ratio_claim.RatioClaim.{RatioClaim}
use Rattle.drt_claims.specs.declared.rule.Rule.{Rule}
use Rattle.drt_claims.specs.declared.rule.Rule.TheVariants.{ConstrainedDeadlines, KindOfPolicy, LegalReleases, LeastMiss}
use Rattle.drt_claims.specs.declared.rule.Rule.TheVariants.{RisingTails, BoundingTails, SearchPerVertex, SearchStates, PassingStates, DominatedChildren}
use Rattle.drt_check_trees.specs.Order.{IsPriorityOrder}
use Rattle.drt_check.specs.declared.known.Known.{Known}

-- The rule applies, and those that apply and have smaller numbers are kept.
pub record IsNextRule (s : Statement) (rule : Rule) : Type 0 where
  pub applies : Applies rule s.evidence
  pub before : (other : Rule) → Applies other s.evidence → number_of other < number_of rule → Keeps other s

-- The rule speaks of the set, the policy and the releases alone, and of no graph.
abbrev pub AsksForNoGraphs : Rule → Type 0
AsksForNoGraphs ConstrainedDeadlines = Unit {0}
AsksForNoGraphs KindOfPolicy = Unit {0}
AsksForNoGraphs LegalReleases = Unit {0}
AsksForNoGraphs LeastMiss = Unit {0}
AsksForNoGraphs other = ⊥

-- The rule speaks of tails and states.
abbrev pub IsOnStates : Rule → Type 0
IsOnStates RisingTails = Unit {0}
IsOnStates BoundingTails = Unit {0}
IsOnStates SearchPerVertex = Unit {0}
IsOnStates SearchStates = Unit {0}
IsOnStates PassingStates = Unit {0}
IsOnStates DominatedChildren = Unit {0}
IsOnStates other = ⊥

-- None is found where each rule that applies is kept, and else the first that isn't.
abbrev pub IsRuleDecided : Statement → Option Rule → Type 0
IsRuleDecided s None = (rule : Rule) → Applies rule s.evidence → Keeps rule s
IsRuleDecided s (Some rule) = IsNextRule s rule × ¬ Keeps rule s

-- There is a claim for each graph, and the claims have a small scale and a utilisation below one.
pub record HaveHorizon (graphs : List Digraph) (claims : List RatioClaim) : Type 0 where
  pub per_graph : length claims ≡ length graphs
  pub fine : IsFine claims
  pub below : HaveUtilisationBelowOne claims

-- The horizon is at most 2^40.
abbrev pub HaveNearHorizon : List Digraph → List RatioClaim → Type 0
HaveNearHorizon graphs claims = (bound : ℕ) × IsHorizon graphs claims bound × (bound ≤ most_horizon)

-- What is known of a statement: the order of its tasks, which have no priority twice, and, once it has been found, the horizon.
pub record IsKnownOf (s : Statement) (known : Known) : Type 0 where
  pub order : IsPriorityOrder s.set.tasks known.order
  pub distinct : AllPairs (λ s t. s.priority ≢ t.priority) s.set.tasks
  pub horizon : IfSome known.horizon (IsHorizon (graphs_of s.set.tasks) (ratios_of s.evidence))
