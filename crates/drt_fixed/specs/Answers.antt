-- What the answer under fixed priorities says.
use Rattle.std.specs.Prelude.{◌≡◌, ℕ, ◌⊎◌, List, Option, Some, None, IfSome}
use Rattle.drt_model.specs.Contents.{Contents}
use Rattle.drt_model.specs.declared.jobs.Miss.{Miss}
use Rattle.drt_model.specs.declared.jobs.Policy.TheVariants.{Fixed}
use Rattle.drt_model.specs.declared.jobs.Release.{Release}
use Rattle.drt_model.specs.declared.tasks.Task.{Task}
use Rattle.drt_model.specs.Schedulable.{Schedulable}
use Rattle.drt_claims.specs.Kinds.{HasStates, HasTrees}
use Rattle.drt_claims.specs.Ranges.{IsEvidenceInRange}
use Rattle.drt_claims.specs.Rules.{Accepts}
use Rattle.drt_claims.specs.declared.evidence.Evidence.{Evidence}
use Rattle.drt_claims.specs.declared.evidence.Evidence.TheVariants.{FixedYes, FixedStates, FixedNo, Undecided}
use Rattle.drt_claims.specs.declared.evidence.ProofClaim.{ProofClaim}
use Rattle.drt_claims.specs.declared.evidence.TreeClaim.{TreeClaim}
use Rattle.drt_sp.specs.Answers.{AreOfWalks, IsExactTreeYes, IsTreeUndecided}
use Rattle.drt_sp.specs.Evidence.{under_fixed}
use Rattle.drt_trails.specs.declared.FixedTrail.{FixedTrail}
use Rattle.drt_fixed.specs.declared.analysis.Analysed.{Analysed}

-- A yes: the set is schedulable, and the evidence, which has trees or states, is accepted. Trees and their proofs are exact.
pub record IsYes (set : Contents) (evidence : Evidence) : Type 0 where
  pub schedulable : Schedulable set.tasks Fixed
  pub accepted : Accepts (under_fixed set evidence)
  pub kind : HasTrees evidence ⊎ HasStates evidence
  pub exact : (trees : List TreeClaim) (proofs : List ProofClaim) → evidence ≡ FixedYes trees proofs → IsExactTreeYes set trees proofs

-- A no: the set isn't schedulable, and the evidence is accepted: the releases are legal, and the named job misses. They are those of walks.
pub record IsNo (set : Contents) (releases : List Release) (miss : Miss) : Type 0 where
  pub not_schedulable : ¬ Schedulable set.tasks Fixed
  pub accepted : Accepts (under_fixed set (FixedNo releases miss))
  pub of_walks : AreOfWalks set.tasks releases miss

-- What is said with evidence and the trail of a spent budget: a yes or a no without a trail; or that nothing is decided, and the trail
-- shows why.
abbrev pub IsSaid : Contents → ℕ → Evidence → Option FixedTrail → Type 0
IsSaid set budget (FixedYes trees proofs) trail = (trail ≡ None) × IsYes set (FixedYes trees proofs)
IsSaid set budget (FixedStates tails searches) trail = (trail ≡ None) × IsYes set (FixedStates tails searches)
IsSaid set budget (FixedNo releases miss) trail = (trail ≡ None) × IsNo set releases miss
IsSaid set budget Undecided trail = (spent : FixedTrail) × (trail ≡ Some spent) × IsTreeUndecided set budget spent
IsSaid set budget other trail = ⊥

-- The evidence is of a kind that states give. The releases of a no are those of walks.
abbrev pub IsOfStates : List Task → Evidence → Type 0
IsOfStates tasks (FixedStates tails searches) = Unit {0}
IsOfStates tasks (FixedNo releases miss) = AreOfWalks tasks releases miss
IsOfStates tasks other = ⊥

-- The evidence is in range, and a yes or a no for the set.
pub record IsDecision (set : Contents) (evidence : Evidence) : Type 0 where
  pub in_range : IsEvidenceInRange evidence
  pub says : (budget : ℕ) → IsSaid set budget evidence None

-- What tails and states give: evidence that decides, or nothing.
abbrev pub IsByStates : Contents → Option Evidence → Type 0
IsByStates set found = IfSome found (IsDecision set)

-- The evidence is in range, and says this of the set, with the trail.
pub record IsAnalysed (set : Contents) (budget : ℕ) (answer : Analysed) : Type 0 where
  pub in_range : IsEvidenceInRange answer.evidence
  pub says : IsSaid set budget answer.evidence answer.trail
