-- What each step of the machine keeps, and how many steps there can be.
use Rattle.std.specs.Prelude.{◌≡◌, ℕ, ◌+◌, ◌-◌, ◌*◌, ◌≤◌, false, Some, List, [], ◌∷◌, ◌++◌, length, slice_get}
use Rattle.drt_steps.specs.Time.{AreChosen}
use Rattle.drt_worklist.specs.Places.{total}
use Rattle.drt_refine.specs.Below.{AreBelow, tuples}
use Rattle.drt_refine.specs.Combination.{Combination, is_split_state}
use Rattle.drt_refine.specs.Machine.{FrontierSetting, FrontierState, PassesFor, IsHopeless, IsRun}
use Rattle.drt_refine.specs.declared.step.FrontierEntry.{FrontierEntry}
use Rattle.drt_refine.specs.declared.step.CombinationState.{CombinationState}
use Rattle.drt_refine.specs.declared.step.CombinationState.TheVariants.{Pending, Taken, Passed, Split, Failed}

module _ (t : FrontierSetting) where
  -- What a state says of a combination's nodes.
  abbrev pub IsTrueOf : List ℕ → CombinationState → Type 0
  IsTrueOf nodes Pending = Unit {0}
  IsTrueOf nodes (Taken w) = Unit {0}
  IsTrueOf nodes (Passed time) = PassesFor t nodes time
  IsTrueOf nodes (Split place left right) = Unit {0}
  IsTrueOf nodes Failed = IsHopeless t nodes

  -- The nodes are as many as the roots, and each is a node of the forest whose function goes to the deadline or further.
  abbrev pub AreInPlace : List ℕ → Type 0
  AreInPlace nodes = AreChosen t.deadline t.forest.pool nodes × (length nodes ≡ length t.roots)

  -- A combination that isn't split stands above the tuple.
  pub record IsStanding (combinations : List Combination) (tuple : List ℕ) : Type 0 where
    pub id : ℕ
    pub combination : Combination
    pub at : slice_get combinations id ≡ Some combination
    pub stands : is_split_state combination.state ≡ false
    pub below : AreBelow t.forest tuple combination.nodes

  -- What holds of the combinations after any run.
  pub record Facts (combinations : List Combination) : Type 0 where
    -- each tuple below the roots is below a combination that is pending, taken, passed or failed
    pub covers : (tuple : List ℕ) → AreBelow t.forest tuple t.roots → IsStanding combinations tuple
    -- a time that passed passes, and where a combination failed it is concrete and no time passes
    pub states : (id : ℕ) (c : Combination) → slice_get combinations id ≡ Some c → IsTrueOf c.nodes c.state
    -- each combination has a node of the forest for each root
    pub nodes : (id : ℕ) (c : Combination) → slice_get combinations id ≡ Some c → AreInPlace c.nodes

  -- A combination that passed stands above the tuple, and its time passes for the tuple.
  pub record IsPassed (combinations : List Combination) (tuple : List ℕ) : Type 0 where
    pub id : ℕ
    pub combination : Combination
    pub time : ℕ
    pub at : slice_get combinations id ≡ Some combination
    pub passed : combination.state ≡ Passed time
    pub below : AreBelow t.forest tuple combination.nodes
    pub whole : PassesFor t combination.nodes time
    pub tuple_passes : PassesFor t tuple time

  -- How many entries can still come of a combination with p tuples below it: one for each Take and one for each end of the
  -- combinations that it can be split into.
  abbrev pub left_of : ℕ → CombinationState → ℕ
  left_of p Pending = 4 * p - 2
  left_of p (Taken w) = 4 * p - 3
  left_of p (Passed time) = 0
  left_of p (Split place l r) = 0
  left_of p Failed = 0

  -- How many entries can still come of a combination.
  abbrev pub left : Combination → ℕ
  left c = left_of (tuples t.forest c.nodes) c.state

  -- The entries, and those that can still come, are fewer than four for each tuple below the roots.
  abbrev pub IsBoundedFrontier : FrontierState → Type 0
  IsBoundedFrontier s = length s.log + total left s.combinations + 2 ≤ 4 * tuples t.forest t.roots

-- The setting with another budget.
abbrev pub with_budget : ℕ → FrontierSetting → FrontierSetting
with_budget budget t = record { forest = t.forest; roots = t.roots; wcet = t.wcet; deadline = t.deadline; budget = budget }

-- One more entry can follow some entries under the budget.
pub record CanGoOn (t : FrontierSetting) (budget : ℕ) (log : List FrontierEntry) : Type 0 where
  pub entry : FrontierEntry
  pub run : IsRun (with_budget budget t) (log ++ entry ∷ [])
