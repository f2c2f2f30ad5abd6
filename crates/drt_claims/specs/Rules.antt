-- The rules of the checker, each said once. A rule is a sentence over lists and numbers, and speaks of no search.
use Rattle.std.specs.Prelude.{◌≡◌, ℕ, ◌≤◌, ◌<◌, All}
use Rattle.drt_model.specs.Numbers.{most_horizon}
use Rattle.drt_model.specs.Constrained.{AreConstrained}
use Rattle.drt_model.specs.Digraph.{Digraph}
use Rattle.drt_model.specs.Legal.{IsLegal}
use Rattle.drt_model.specs.Misses.{IsLeastMiss}
use Rattle.drt_model.specs.Schedulable.{jobs_of}
use Rattle.drt_claims.specs.Claims.{graphs_of, IsClaimPerTask, AreLowest, HavePotentials, HaveFittingPotentials, HaveClosedCycles}
use Rattle.drt_claims.specs.Claims.{HaveTightCycles, IsFine, HaveUtilisationBelowOne, HaveUtilisationOne, IsHorizon}
use Rattle.drt_claims.specs.Fronts.{IsOrdered, HasOpenings, IsClosedFront, HaveRoom}
use Rattle.drt_claims.specs.Kinds.{IsOfPolicy, HasRatios, HasFronts, HasReleases, HasStates, HasTrees, ratios_of, fronts_of, stated_releases, stated_miss, trees_of, proofs_of}
use Rattle.drt_claims.specs.Kinds.{tails_of, searches_of}
use Rattle.drt_claims.specs.Proofs.{IsProofPerVertex, HasShape, HasPassingTimes}
use Rattle.drt_claims.specs.Searches.{HasDominatedChildren, HasPassingStates, HasStatesOver, IsSearchPerVertex, places_of}
use Rattle.drt_claims.specs.Statement.{Statement}
use Rattle.drt_claims.specs.Trees.{ByPriority, CoversWalks, HasShortWalks, IsTree, IsTreePerHigherTask, greatest_deadline, tree_graphs}
use Rattle.drt_claims.specs.declared.evidence.Evidence.{Evidence}
use Rattle.drt_claims.specs.declared.evidence.Evidence.TheVariants.{EdfYes, UtilisationOne, Undecided}
use Rattle.drt_claims.specs.declared.evidence.TreeClaim.{TreeClaim}
use Rattle.drt_claims.specs.declared.rule.Rule.{Rule}
use Rattle.drt_claims.specs.declared.rule.Rule.TheVariants.{ConstrainedDeadlines, KindOfPolicy, RatioPerTask, LowestTerms, PotentialPerVertex, FittingPotentials}
use Rattle.drt_claims.specs.declared.rule.Rule.TheVariants.{ClosedCycles, TightCycles, FineScale, ClaimedUtilisation, NearHorizon, OrderedFronts, CoveredOpenings, CoveredExtensions, Room}
use Rattle.drt_claims.specs.declared.rule.Rule.TheVariants.{TreePerHigherTask, ShortWalks, CoveredWalks, TreeShapes, ProofPerVertex, ProofShapes, PassingTimes, LegalReleases, LeastMiss}
use Rattle.drt_claims.specs.declared.rule.Rule.TheVariants.{RisingTails, BoundingTails, SearchPerVertex, SearchStates, PassingStates, DominatedChildren}
use Rattle.drt_states.specs.Tails.{BoundsWalks, EachTail, IsTail}
use Rattle.drt_model.specs.Each.{Each}

-- The number by which a rule is told.
abbrev pub number_of : Rule → ℕ
number_of ConstrainedDeadlines = 1
number_of KindOfPolicy = 2
number_of RatioPerTask = 3
number_of LowestTerms = 4
number_of PotentialPerVertex = 5
number_of FittingPotentials = 6
number_of ClosedCycles = 7
number_of TightCycles = 8
number_of FineScale = 9
number_of ClaimedUtilisation = 10
number_of NearHorizon = 11
number_of OrderedFronts = 12
number_of CoveredOpenings = 13
number_of CoveredExtensions = 14
number_of Room = 15
number_of TreePerHigherTask = 16
number_of ShortWalks = 17
number_of CoveredWalks = 18
number_of TreeShapes = 19
number_of ProofPerVertex = 20
number_of ProofShapes = 21
number_of PassingTimes = 22
number_of LegalReleases = 23
number_of LeastMiss = 24
number_of RisingTails = 25
number_of BoundingTails = 26
number_of SearchPerVertex = 27
number_of SearchStates = 28
number_of PassingStates = 29
number_of DominatedChildren = 30

-- The rule applies to the kind of the evidence.
abbrev pub Applies : Rule → Evidence → Type 0
Applies ConstrainedDeadlines e = Unit {0}
Applies KindOfPolicy e = Unit {0}
Applies RatioPerTask e = HasRatios e
Applies LowestTerms e = HasRatios e
Applies PotentialPerVertex e = HasRatios e
Applies FittingPotentials e = HasRatios e
Applies ClosedCycles e = HasRatios e
Applies TightCycles e = HasRatios e
Applies FineScale e = HasRatios e
Applies ClaimedUtilisation e = HasRatios e
Applies NearHorizon e = HasFronts e
Applies OrderedFronts e = HasFronts e
Applies CoveredOpenings e = HasFronts e
Applies CoveredExtensions e = HasFronts e
Applies Room e = HasFronts e
Applies TreePerHigherTask e = HasTrees e
Applies ShortWalks e = HasTrees e
Applies CoveredWalks e = HasTrees e
Applies TreeShapes e = HasTrees e
Applies ProofPerVertex e = HasTrees e
Applies ProofShapes e = HasTrees e
Applies PassingTimes e = HasTrees e
Applies LegalReleases e = HasReleases e
Applies LeastMiss e = HasReleases e
Applies RisingTails e = HasStates e
Applies BoundingTails e = HasStates e
Applies SearchPerVertex e = HasStates e
Applies SearchStates e = HasStates e
Applies PassingStates e = HasStates e
Applies DominatedChildren e = HasStates e

-- The utilisation of the claimed ratios is below one for a yes, and one for a claim of that.
abbrev pub HasClaimedUtilisation : Evidence → Type 0
HasClaimedUtilisation (EdfYes ratios fronts) = HaveUtilisationBelowOne ratios
HasClaimedUtilisation (UtilisationOne ratios) = HaveUtilisationOne ratios
HasClaimedUtilisation other = Unit {0}

-- It holds of the horizon that the claimed ratios and potentials give.
abbrev pub AtHorizon : Statement → (ℕ → Type 0) → Type 0
AtHorizon s R = (bound : ℕ) × IsHorizon (graphs_of s.set.tasks) (ratios_of s.evidence) bound × R bound

-- It holds of each tree and the graph of its task, up to the greatest deadline.
abbrev pub EachTree : Statement → (ℕ → Digraph → TreeClaim → Type 0) → Type 0
EachTree s R =
    ByPriority s.set.tasks (λ sorted. Each (R (greatest_deadline s.set.tasks)) (tree_graphs sorted (trees_of s.evidence)) (trees_of s.evidence))

-- The statement keeps the rule. What a rule says counts only where it applies and those that apply and have smaller numbers are kept: before,
-- there may be no horizon.
abbrev pub Keeps : Rule → Statement → Type 0
Keeps ConstrainedDeadlines s = AreConstrained s.set.tasks
Keeps KindOfPolicy s = IsOfPolicy s.policy s.evidence
Keeps RatioPerTask s = IsClaimPerTask s.set.tasks (ratios_of s.evidence)
Keeps LowestTerms s = AreLowest (ratios_of s.evidence)
Keeps PotentialPerVertex s = HavePotentials (graphs_of s.set.tasks) (ratios_of s.evidence)
Keeps FittingPotentials s = HaveFittingPotentials (graphs_of s.set.tasks) (ratios_of s.evidence)
Keeps ClosedCycles s = HaveClosedCycles (graphs_of s.set.tasks) (ratios_of s.evidence)
Keeps TightCycles s = HaveTightCycles (graphs_of s.set.tasks) (ratios_of s.evidence)
Keeps FineScale s = IsFine (ratios_of s.evidence)
Keeps ClaimedUtilisation s = HasClaimedUtilisation s.evidence
Keeps NearHorizon s = AtHorizon s (λ bound. bound ≤ most_horizon)
Keeps OrderedFronts s = AtHorizon s (λ bound. Each (IsOrdered bound) (graphs_of s.set.tasks) (fronts_of s.evidence))
Keeps CoveredOpenings s = AtHorizon s (λ bound. Each (HasOpenings bound) (graphs_of s.set.tasks) (fronts_of s.evidence))
Keeps CoveredExtensions s = AtHorizon s (λ bound. Each (IsClosedFront bound) (graphs_of s.set.tasks) (fronts_of s.evidence))
Keeps Room s = HaveRoom (graphs_of s.set.tasks) (fronts_of s.evidence)
Keeps TreePerHigherTask s = IsTreePerHigherTask s.set.tasks (trees_of s.evidence)
Keeps ShortWalks s = EachTree s HasShortWalks
Keeps CoveredWalks s = EachTree s CoversWalks
Keeps TreeShapes s = All IsTree (trees_of s.evidence)
Keeps ProofPerVertex s = IsProofPerVertex s.set.tasks (proofs_of s.evidence)
Keeps ProofShapes s = All (HasShape s.set.tasks (trees_of s.evidence)) (proofs_of s.evidence)
Keeps PassingTimes s =
    ByPriority s.set.tasks (λ sorted.
    All (HasPassingTimes s.set.tasks (tree_graphs sorted (trees_of s.evidence)) (trees_of s.evidence)) (proofs_of s.evidence))
Keeps LegalReleases s = IsLegal s.set.tasks (stated_releases s.evidence)
Keeps LeastMiss s = IsLeastMiss s.policy (jobs_of s.set.tasks (stated_releases s.evidence)) (stated_miss s.evidence)
Keeps RisingTails s = ByPriority s.set.tasks (λ sorted. EachTail IsTail (places_of s.set.tasks sorted) (tails_of s.evidence))
Keeps BoundingTails s = ByPriority s.set.tasks (λ sorted. EachTail BoundsWalks (places_of s.set.tasks sorted) (tails_of s.evidence))
Keeps SearchPerVertex s = IsSearchPerVertex s.set.tasks (searches_of s.evidence)
Keeps SearchStates s = ByPriority s.set.tasks (λ sorted. All (HasStatesOver s.set.tasks sorted) (searches_of s.evidence))
Keeps PassingStates s = All (HasPassingStates s.set.tasks (tails_of s.evidence)) (searches_of s.evidence)
Keeps DominatedChildren s = ByPriority s.set.tasks (λ sorted. All (HasDominatedChildren s.set.tasks sorted) (searches_of s.evidence))

-- A statement is accepted where something is claimed and each rule that applies is kept.
pub record Accepts (s : Statement) : Type 0 where
  pub claims : ¬ (s.evidence ≡ Undecided)
  pub keeps : (rule : Rule) → Applies rule s.evidence → Keeps rule s

-- A statement is rejected with a number where something is claimed and this is the least number of a rule that applies and isn't kept.
pub record Rejects (s : Statement) (number : ℕ) : Type 0 where
  pub claims : ¬ (s.evidence ≡ Undecided)
  pub rule : Rule
  pub number_is : number ≡ number_of rule
  pub applies : Applies rule s.evidence
  pub broken : ¬ Keeps rule s
  pub least : (other : Rule) → Applies other s.evidence → number_of other < number → Keeps other s
