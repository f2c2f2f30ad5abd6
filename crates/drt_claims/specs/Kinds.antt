-- The kinds of evidence, and what each has.
use Rattle.std.specs.Prelude.{◌≡◌, List, []}
use Rattle.drt_model.specs.declared.jobs.Miss.{Miss}
use Rattle.drt_model.specs.declared.jobs.Policy.{Policy}
use Rattle.drt_model.specs.declared.jobs.Policy.TheVariants.{Edf, Fixed}
use Rattle.drt_model.specs.declared.jobs.Release.{Release}
use Rattle.drt_claims.specs.declared.evidence.Evidence.{Evidence}
use Rattle.drt_claims.specs.declared.evidence.Evidence.TheVariants.{EdfYes, EdfNo, UtilisationOne, FixedYes, FixedStates, FixedNo, Undecided}
use Rattle.drt_graph.specs.declared.front.FrontEntry.{FrontEntry}
use Rattle.drt_claims.specs.declared.evidence.ProofClaim.{ProofClaim}
use Rattle.drt_rates.specs.declared.ratio_claim.RatioClaim.{RatioClaim}
use Rattle.drt_claims.specs.declared.evidence.TreeClaim.{TreeClaim}
use Rattle.drt_states.specs.declared.claims.SearchClaim.{SearchClaim}
use Rattle.drt_states.specs.declared.claims.TailClaim.{TailClaim}

-- The kind of the evidence is one of the policy's.
abbrev pub IsOfPolicy : Policy → Evidence → Type 0
IsOfPolicy policy (EdfYes ratios fronts) = policy ≡ Edf
IsOfPolicy policy (EdfNo releases miss) = policy ≡ Edf
IsOfPolicy policy (UtilisationOne ratios) = policy ≡ Edf
IsOfPolicy policy (FixedYes trees proofs) = policy ≡ Fixed
IsOfPolicy policy (FixedStates tails searches) = policy ≡ Fixed
IsOfPolicy policy (FixedNo releases miss) = policy ≡ Fixed
IsOfPolicy policy Undecided = Unit {0}

-- The evidence has ratios: it is a yes of EDF or a utilisation of one.
abbrev pub HasRatios : Evidence → Type 0
HasRatios (EdfYes ratios fronts) = Unit {0}
HasRatios (UtilisationOne ratios) = Unit {0}
HasRatios other = ⊥

-- The evidence has fronts: it is a yes of EDF.
abbrev pub HasFronts : Evidence → Type 0
HasFronts (EdfYes ratios fronts) = Unit {0}
HasFronts other = ⊥

-- The evidence has releases: it is a no.
abbrev pub HasReleases : Evidence → Type 0
HasReleases (EdfNo releases miss) = Unit {0}
HasReleases (FixedNo releases miss) = Unit {0}
HasReleases other = ⊥

-- The evidence has trees: it is a yes of fixed priorities.
abbrev pub HasTrees : Evidence → Type 0
HasTrees (FixedYes trees proofs) = Unit {0}
HasTrees other = ⊥

-- The evidence has states: it is a yes of fixed priorities by tails and states.
abbrev pub HasStates : Evidence → Type 0
HasStates (FixedStates tails searches) = Unit {0}
HasStates other = ⊥

-- The ratios of evidence that has some.
abbrev pub ratios_of : Evidence → List RatioClaim
ratios_of (EdfYes ratios fronts) = ratios
ratios_of (UtilisationOne ratios) = ratios
ratios_of other = []

-- The fronts of evidence that has some.
abbrev pub fronts_of : Evidence → List (List FrontEntry)
fronts_of (EdfYes ratios fronts) = fronts
fronts_of other = []

-- The releases of evidence that has some.
abbrev pub stated_releases : Evidence → List Release
stated_releases (EdfNo releases miss) = releases
stated_releases (FixedNo releases miss) = releases
stated_releases other = []

-- The miss of evidence that has releases.
abbrev pub stated_miss : Evidence → Miss
stated_miss (EdfNo releases miss) = miss
stated_miss (FixedNo releases miss) = miss
stated_miss other = record { task = 0; index = 0; deadline = 0 }

-- The trees of evidence that has some.
abbrev pub trees_of : Evidence → List TreeClaim
trees_of (FixedYes trees proofs) = trees
trees_of other = []

-- The proofs of evidence that has trees.
abbrev pub proofs_of : Evidence → List ProofClaim
proofs_of (FixedYes trees proofs) = proofs
proofs_of other = []

-- The tails of evidence that has some.
abbrev pub tails_of : Evidence → List TailClaim
tails_of (FixedStates tails searches) = tails
tails_of other = []

-- The searches of evidence that has tails.
abbrev pub searches_of : Evidence → List SearchClaim
searches_of (FixedStates tails searches) = searches
searches_of other = []
