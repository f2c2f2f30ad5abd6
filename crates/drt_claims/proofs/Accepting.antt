-- When evidence of each kind is accepted: what its rules ask, as a record of its kind, is enough.
use Rattle.std.proofs.Common.{ℕ, ◌≤◌, ◌^◌, List, All, refl}
use Rattle.drt_model.specs.Constrained.{AreConstrained}
use Rattle.drt_model.specs.Contents.{Contents}
use Rattle.drt_model.specs.Legal.{IsLegal}
use Rattle.drt_model.specs.Misses.{IsLeastMiss}
use Rattle.drt_model.specs.Schedulable.{jobs_of}
use Rattle.drt_model.specs.declared.jobs.Miss.{Miss}
use Rattle.drt_model.specs.declared.jobs.Policy.{Policy}
use Rattle.drt_model.specs.declared.jobs.Policy.TheVariants.{Edf, Fixed}
use Rattle.drt_model.specs.declared.jobs.Release.{Release}
use Rattle.drt_model.specs.declared.tasks.Task.{Task}
use Rattle.drt_claims.specs.Claims.{graphs_of, IsClaimPerTask, AreLowest, HavePotentials, HaveFittingPotentials, HaveClosedCycles}
use Rattle.drt_claims.specs.Claims.{HaveTightCycles, IsFine, HaveUtilisationBelowOne, HaveUtilisationOne, IsHorizon}
use Rattle.drt_claims.specs.Fronts.{IsOrdered, HasOpenings, IsClosedFront, HaveRoom}
use Rattle.drt_claims.specs.Proofs.{IsProofPerVertex, HasShape, HasPassingTimes}
use Rattle.drt_claims.specs.Rules.{Accepts, Applies, Keeps}
use Rattle.drt_claims.specs.Searches.{HasDominatedChildren, HasPassingStates, HasStatesOver, IsSearchPerVertex, places_of}
use Rattle.drt_claims.specs.Statement.{Statement}
use Rattle.drt_claims.specs.Trees.{AreByPriority, CoversWalks, HasShortWalks, IsTree, IsTreePerHigherTask, greatest_deadline, tree_graphs}
use Rattle.drt_claims.specs.declared.evidence.Evidence.{Evidence}
use Rattle.drt_claims.specs.declared.evidence.Evidence.TheVariants.{EdfYes, EdfNo, UtilisationOne, FixedYes, FixedStates, FixedNo}
use Rattle.drt_graph.specs.declared.front.FrontEntry.{FrontEntry}
use Rattle.drt_claims.specs.declared.evidence.ProofClaim.{ProofClaim}
use Rattle.drt_rates.specs.declared.ratio_claim.RatioClaim.{RatioClaim}
use Rattle.drt_claims.specs.declared.evidence.TreeClaim.{TreeClaim}
use Rattle.drt_claims.specs.declared.rule.Rule.{Rule}
use Rattle.drt_claims.specs.declared.rule.Rule.TheVariants.{ConstrainedDeadlines, KindOfPolicy, RatioPerTask, LowestTerms, PotentialPerVertex, FittingPotentials}
use Rattle.drt_claims.specs.declared.rule.Rule.TheVariants.{ClosedCycles, TightCycles, FineScale, ClaimedUtilisation, NearHorizon, OrderedFronts}
use Rattle.drt_claims.specs.declared.rule.Rule.TheVariants.{CoveredOpenings, CoveredExtensions, Room, LegalReleases, LeastMiss}
use Rattle.drt_claims.specs.declared.rule.Rule.TheVariants.{TreePerHigherTask, ShortWalks, CoveredWalks, TreeShapes, ProofPerVertex, ProofShapes, PassingTimes}
use Rattle.drt_claims.specs.declared.rule.Rule.TheVariants.{RisingTails, BoundingTails, SearchPerVertex, SearchStates, PassingStates, DominatedChildren}
use Rattle.drt_states.specs.Tails.{BoundsWalks, EachTail, IsTail}
use Rattle.drt_states.specs.declared.claims.SearchClaim.{SearchClaim}
use Rattle.drt_states.specs.declared.claims.TailClaim.{TailClaim}
use Rattle.drt_model.specs.Each.{Each}

-- A set under a policy with this evidence.
abbrev pub statement : Policy → Contents → Evidence → Statement
statement policy set evidence = record { policy = policy; set = set; evidence = evidence }

-- What the rules 3 to 9 ask.
pub record AreRatioClaims (tasks : List Task) (claims : List RatioClaim) : Type 0 where
  pub per_task : IsClaimPerTask tasks claims
  pub lowest : AreLowest claims
  pub counted : HavePotentials (graphs_of tasks) claims
  pub fits : HaveFittingPotentials (graphs_of tasks) claims
  pub closed : HaveClosedCycles (graphs_of tasks) claims
  pub tight : HaveTightCycles (graphs_of tasks) claims
  pub fine : IsFine claims

-- What the rules 11 to 15 ask at the horizon.
pub record AreFrontClaims (tasks : List Task) (bound : ℕ) (fronts : List (List FrontEntry)) : Type 0 where
  pub near : bound ≤ 2 ^ 40
  pub ordered : Each (IsOrdered bound) (graphs_of tasks) fronts
  pub openings : Each (HasOpenings bound) (graphs_of tasks) fronts
  pub closed : Each (IsClosedFront bound) (graphs_of tasks) fronts
  pub room : HaveRoom (graphs_of tasks) fronts

-- What the rules from 3 on ask of a yes of EDF.
pub record IsEdfYes (tasks : List Task) (ratios : List RatioClaim) (fronts : List (List FrontEntry)) : Type 0 where
  pub claims : AreRatioClaims tasks ratios
  pub below : HaveUtilisationBelowOne ratios
  pub bound : ℕ
  pub is_bound : IsHorizon (graphs_of tasks) ratios bound
  pub fronts_are : AreFrontClaims tasks bound fronts

-- What they ask of a utilisation of one.
pub record IsUtilisationOne (tasks : List Task) (ratios : List RatioClaim) : Type 0 where
  pub claims : AreRatioClaims tasks ratios
  pub one : HaveUtilisationOne ratios

-- What the rules 16 to 19 ask up to the greatest deadline, the tasks in order of priority given.
pub record AreTreeClaims (tasks sorted : List Task) (trees : List TreeClaim) : Type 0 where
  pub per_task : IsTreePerHigherTask tasks trees
  pub short : Each (HasShortWalks (greatest_deadline tasks)) (tree_graphs sorted trees) trees
  pub covers : Each (CoversWalks (greatest_deadline tasks)) (tree_graphs sorted trees) trees
  pub shapes : All IsTree trees

-- What the rules from 16 on ask of a yes of fixed priorities.
pub record IsFixedYes (tasks sorted : List Task) (trees : List TreeClaim) (proofs : List ProofClaim) : Type 0 where
  pub trees_are : AreTreeClaims tasks sorted trees
  pub per_vertex : IsProofPerVertex tasks proofs
  pub shapes : All (HasShape tasks trees) proofs
  pub times : All (HasPassingTimes tasks (tree_graphs sorted trees) trees) proofs

-- What the rules from 25 on ask of a yes by tails and states.
pub record IsFixedStates (tasks sorted : List Task) (tails : List TailClaim) (searches : List SearchClaim) : Type 0 where
  pub rising : EachTail IsTail (places_of tasks sorted) tails
  pub bounding : EachTail BoundsWalks (places_of tasks sorted) tails
  pub per_vertex : IsSearchPerVertex tasks searches
  pub states : All (HasStatesOver tasks sorted) searches
  pub passing : All (HasPassingStates tasks tails) searches
  pub children : All (HasDominatedChildren tasks sorted) searches

-- What they ask of a no.
pub record IsRefutation (policy : Policy) (tasks : List Task) (releases : List Release) (miss : Miss) : Type 0 where
  pub legal : IsLegal tasks releases
  pub misses : IsLeastMiss policy (jobs_of tasks releases) miss

pub yes_accepted : (set : Contents) (ratios : List RatioClaim) (fronts : List (List FrontEntry)) → AreConstrained set.tasks → IsEdfYes set.tasks ratios fronts
    → Accepts (statement Edf set (EdfYes ratios fronts))
yes_accepted set ratios fronts constrained is = record { claims = λ e. absurd (cc); keeps = keeps }
  where
    keeps : (rule : Rule) → Applies rule (EdfYes ratios fronts) → Keeps rule (statement Edf set (EdfYes ratios fronts))
    keeps ConstrainedDeadlines a = constrained
    keeps KindOfPolicy a = refl
    keeps RatioPerTask a = is.claims.per_task
    keeps LowestTerms a = is.claims.lowest
    keeps PotentialPerVertex a = is.claims.counted
    keeps FittingPotentials a = is.claims.fits
    keeps ClosedCycles a = is.claims.closed
    keeps TightCycles a = is.claims.tight
    keeps FineScale a = is.claims.fine
    keeps ClaimedUtilisation a = is.below
    keeps NearHorizon a = (is.bound, is.is_bound, is.fronts_are.near)
    keeps OrderedFronts a = (is.bound, is.is_bound, is.fronts_are.ordered)
    keeps CoveredOpenings a = (is.bound, is.is_bound, is.fronts_are.openings)
    keeps CoveredExtensions a = (is.bound, is.is_bound, is.fronts_are.closed)
    keeps Room a = is.fronts_are.room
    keeps other a = absurd a

pub one_accepted : (set : Contents) (ratios : List RatioClaim) → AreConstrained set.tasks → IsUtilisationOne set.tasks ratios → Accepts (statement Edf set (UtilisationOne ratios))
one_accepted set ratios constrained is = record { claims = λ e. absurd (cc); keeps = keeps }
  where
    keeps : (rule : Rule) → Applies rule (UtilisationOne ratios) → Keeps rule (statement Edf set (UtilisationOne ratios))
    keeps ConstrainedDeadlines a = constrained
    keeps KindOfPolicy a = refl
    keeps RatioPerTask a = is.claims.per_task
    keeps LowestTerms a = is.claims.lowest
    keeps PotentialPerVertex a = is.claims.counted
    keeps FittingPotentials a = is.claims.fits
    keeps ClosedCycles a = is.claims.closed
    keeps TightCycles a = is.claims.tight
    keeps FineScale a = is.claims.fine
    keeps ClaimedUtilisation a = is.one
    keeps other a = absurd a

pub edf_no_accepted : (set : Contents) (releases : List Release) (miss : Miss) → AreConstrained set.tasks → IsRefutation Edf set.tasks releases miss
    → Accepts (statement Edf set (EdfNo releases miss))
edf_no_accepted set releases miss constrained is = record { claims = λ e. absurd (cc); keeps = keeps }
  where
    keeps : (rule : Rule) → Applies rule (EdfNo releases miss) → Keeps rule (statement Edf set (EdfNo releases miss))
    keeps ConstrainedDeadlines a = constrained
    keeps KindOfPolicy a = refl
    keeps LegalReleases a = is.legal
    keeps LeastMiss a = is.misses
    keeps other a = absurd a

pub fixed_no_accepted : (set : Contents) (releases : List Release) (miss : Miss) → AreConstrained set.tasks → IsRefutation Fixed set.tasks releases miss
    → Accepts (statement Fixed set (FixedNo releases miss))
fixed_no_accepted set releases miss constrained is = record { claims = λ e. absurd (cc); keeps = keeps }
  where
    keeps : (rule : Rule) → Applies rule (FixedNo releases miss) → Keeps rule (statement Fixed set (FixedNo releases miss))
    keeps ConstrainedDeadlines a = constrained
    keeps KindOfPolicy a = refl
    keeps LegalReleases a = is.legal
    keeps LeastMiss a = is.misses
    keeps other a = absurd a

pub fixed_yes_accepted : (set : Contents) (sorted : List Task) (trees : List TreeClaim) (proofs : List ProofClaim) → AreConstrained set.tasks
    → AreByPriority set.tasks sorted → IsFixedYes set.tasks sorted trees proofs → Accepts (statement Fixed set (FixedYes trees proofs))
fixed_yes_accepted set sorted trees proofs constrained in_order is = record { claims = λ e. absurd (cc); keeps = keeps }
  where
    keeps : (rule : Rule) → Applies rule (FixedYes trees proofs) → Keeps rule (statement Fixed set (FixedYes trees proofs))
    keeps ConstrainedDeadlines a = constrained
    keeps KindOfPolicy a = refl
    keeps TreePerHigherTask a = is.trees_are.per_task
    keeps ShortWalks a = (sorted, in_order, is.trees_are.short)
    keeps CoveredWalks a = (sorted, in_order, is.trees_are.covers)
    keeps TreeShapes a = is.trees_are.shapes
    keeps ProofPerVertex a = is.per_vertex
    keeps ProofShapes a = is.shapes
    keeps PassingTimes a = (sorted, in_order, is.times)
    keeps other a = absurd a

pub fixed_states_accepted : (set : Contents) (sorted : List Task) (tails : List TailClaim) (searches : List SearchClaim) → AreConstrained set.tasks
    → AreByPriority set.tasks sorted → IsFixedStates set.tasks sorted tails searches → Accepts (statement Fixed set (FixedStates tails searches))
fixed_states_accepted set sorted tails searches constrained in_order is = record { claims = λ e. absurd (cc); keeps = keeps }
  where
    keeps : (rule : Rule) → Applies rule (FixedStates tails searches) → Keeps rule (statement Fixed set (FixedStates tails searches))
    keeps ConstrainedDeadlines a = constrained
    keeps KindOfPolicy a = refl
    keeps RisingTails a = (sorted, in_order, is.rising)
    keeps BoundingTails a = (sorted, in_order, is.bounding)
    keeps SearchPerVertex a = is.per_vertex
    keeps SearchStates a = (sorted, in_order, is.states)
    keeps PassingStates a = is.passing
    keeps DominatedChildren a = (sorted, in_order, is.children)
    keeps other a = absurd a
