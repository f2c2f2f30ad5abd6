-- The places of the rules in their table, in the order of their numbers.
use Rattle.std.proofs.Common.{◌≡◌, ℕ, ◌+◌, ◌<◌, List, [], ◌∷◌, map, slice_index_or, refl, sym, ap, ◌∙◌, arith}
use Rattle.std.specs.List.{range_with_len}
use Rattle.std.proofs.lemmas.List.{get_or-map}
use Rattle.std.proofs.lemmas.List.FromFn.{get_or-range_with_len}
use Rattle.drt_claims.specs.Rules.{Applies, Keeps, number_of}
use Rattle.drt_claims.specs.Statement.{Statement}
use Rattle.drt_claims.specs.declared.rule.Rule.{Rule}
use Rattle.drt_claims.specs.declared.rule.Rule.TheVariants.{ConstrainedDeadlines, KindOfPolicy, RatioPerTask, LowestTerms, PotentialPerVertex, FittingPotentials}
use Rattle.drt_claims.specs.declared.rule.Rule.TheVariants.{ClosedCycles, TightCycles, FineScale, ClaimedUtilisation, NearHorizon, OrderedFronts}
use Rattle.drt_claims.specs.declared.rule.Rule.TheVariants.{CoveredOpenings, CoveredExtensions, Room, LegalReleases, LeastMiss}
use Rattle.drt_claims.specs.declared.rule.Rule.TheVariants.{TreePerHigherTask, ShortWalks, CoveredWalks, TreeShapes, ProofPerVertex, ProofShapes, PassingTimes}
use Rattle.drt_claims.specs.declared.rule.Rule.TheVariants.{RisingTails, BoundingTails, SearchPerVertex, SearchStates, PassingStates, DominatedChildren}
use Rattle.drt_check.specs.Deciding.{IsNextRule}

-- The place of a rule.
abbrev pub place : Rule → ℕ
place ConstrainedDeadlines = 0
place KindOfPolicy = 1
place RatioPerTask = 2
place LowestTerms = 3
place PotentialPerVertex = 4
place FittingPotentials = 5
place ClosedCycles = 6
place TightCycles = 7
place FineScale = 8
place ClaimedUtilisation = 9
place NearHorizon = 10
place OrderedFronts = 11
place CoveredOpenings = 12
place CoveredExtensions = 13
place Room = 14
place TreePerHigherTask = 15
place ShortWalks = 16
place CoveredWalks = 17
place TreeShapes = 18
place ProofPerVertex = 19
place ProofShapes = 20
place PassingTimes = 21
place LegalReleases = 22
place LeastMiss = 23
place RisingTails = 24
place BoundingTails = 25
place SearchPerVertex = 26
place SearchStates = 27
place PassingStates = 28
place DominatedChildren = 29

-- The table.
abbrev pub table : List Rule
table =
    ConstrainedDeadlines ∷ KindOfPolicy ∷ RatioPerTask ∷ LowestTerms ∷ PotentialPerVertex ∷ FittingPotentials ∷
    ClosedCycles ∷ TightCycles ∷ FineScale ∷ ClaimedUtilisation ∷ NearHorizon ∷ OrderedFronts ∷
    CoveredOpenings ∷ CoveredExtensions ∷ Room ∷ TreePerHigherTask ∷ ShortWalks ∷ CoveredWalks ∷
    TreeShapes ∷ ProofPerVertex ∷ ProofShapes ∷ PassingTimes ∷ LegalReleases ∷ LeastMiss ∷
    RisingTails ∷ BoundingTails ∷ SearchPerVertex ∷ SearchStates ∷ PassingStates ∷ DominatedChildren ∷ []

-- A rule stands at its place.
pub at_place : (d rule : Rule) → slice_index_or table (place rule) d ≡ rule
at_place d ConstrainedDeadlines = refl
at_place d KindOfPolicy = refl
at_place d RatioPerTask = refl
at_place d LowestTerms = refl
at_place d PotentialPerVertex = refl
at_place d FittingPotentials = refl
at_place d ClosedCycles = refl
at_place d TightCycles = refl
at_place d FineScale = refl
at_place d ClaimedUtilisation = refl
at_place d NearHorizon = refl
at_place d OrderedFronts = refl
at_place d CoveredOpenings = refl
at_place d CoveredExtensions = refl
at_place d Room = refl
at_place d TreePerHigherTask = refl
at_place d ShortWalks = refl
at_place d CoveredWalks = refl
at_place d TreeShapes = refl
at_place d ProofPerVertex = refl
at_place d ProofShapes = refl
at_place d PassingTimes = refl
at_place d LegalReleases = refl
at_place d LeastMiss = refl
at_place d RisingTails = refl
at_place d BoundingTails = refl
at_place d SearchPerVertex = refl
at_place d SearchStates = refl
at_place d PassingStates = refl
at_place d DominatedChildren = refl

-- Its number is one more.
number_is : (rule : Rule) → number_of rule ≡ place rule + 1
number_is ConstrainedDeadlines = refl
number_is KindOfPolicy = refl
number_is RatioPerTask = refl
number_is LowestTerms = refl
number_is PotentialPerVertex = refl
number_is FittingPotentials = refl
number_is ClosedCycles = refl
number_is TightCycles = refl
number_is FineScale = refl
number_is ClaimedUtilisation = refl
number_is NearHorizon = refl
number_is OrderedFronts = refl
number_is CoveredOpenings = refl
number_is CoveredExtensions = refl
number_is Room = refl
number_is TreePerHigherTask = refl
number_is ShortWalks = refl
number_is CoveredWalks = refl
number_is TreeShapes = refl
number_is ProofPerVertex = refl
number_is ProofShapes = refl
number_is PassingTimes = refl
number_is LegalReleases = refl
number_is LeastMiss = refl
number_is RisingTails = refl
number_is BoundingTails = refl
number_is SearchPerVertex = refl
number_is SearchStates = refl
number_is PassingStates = refl
number_is DominatedChildren = refl

numbers : map number_of table ≡ range_with_len 1 30
numbers = refl

number_at : (i : ℕ) (d : Rule) → i < 30 → number_of (slice_index_or table i d) ≡ 1 + i
number_at i d l = sym (get_or-map number_of table i d 0 l) ∙ (ap (λ ns. slice_index_or ns i 0) numbers ∙ get_or-range_with_len 1 30 i 0 l)

-- Where the rule at a place applies, and those before it are kept as far as they apply, it is the next one.
pub next_at : (s : Statement) (i : ℕ) (d : Rule) → i < 30 → Applies (slice_index_or table i d) s.evidence
    → ((rule : Rule) → Applies rule s.evidence → place rule < i → Keeps rule s) → IsNextRule s (slice_index_or table i d)
next_at s i d l applies before = record {
  applies = applies;
  before = λ rule a m. before rule a (let n = number_at i d l in let k = number_is rule in omega (arith, m, n, k));
}
