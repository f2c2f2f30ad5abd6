-- What an eager run leaves behind: how each combination is settled, and where its halves stand.
use Rattle.std.specs.Prelude.{◌≡◌, ℕ, ◌+◌, ◌<◌, ◌⊎◌, Some, List, slice_get, slice_set}
use Rattle.drt_steps.specs.Time.{IsLeastTime}
use Rattle.drt_refine.specs.Below.{AreBelow}
use Rattle.drt_refine.specs.Combination.{Combination}
use Rattle.drt_refine.specs.Eager.{IsSplitPlace}
use Rattle.drt_refine.specs.Machine.{FrontierSetting, IsPairAt, NonePasses, IsHopeless}
use Rattle.drt_refine.specs.declared.step.CombinationState.{CombinationState}
use Rattle.drt_refine.specs.declared.step.CombinationState.TheVariants.{Pending, Taken, Passed, Split, Failed}

-- The combination passed or was split.
abbrev pub IsPassedOrSplit : CombinationState → Type 0
IsPassedOrSplit Pending = ⊥
IsPassedOrSplit (Taken w) = ⊥
IsPassedOrSplit (Passed time) = Unit {0}
IsPassedOrSplit (Split place left right) = Unit {0}
IsPassedOrSplit Failed = ⊥

-- The number is that of a half of a combination in this state.
abbrev pub IsHalfOf : ℕ → CombinationState → Type 0
IsHalfOf k Pending = ⊥
IsHalfOf k (Taken w) = ⊥
IsHalfOf k (Passed time) = ⊥
IsHalfOf k (Split place left right) = (k ≡ left) ⊎ (k ≡ right)
IsHalfOf k Failed = ⊥

-- The combination of that number has these nodes.
pub record CombinationHasNodes (combinations : List Combination) (id : ℕ) (nodes : List ℕ) : Type 0 where
  pub combination : Combination
  pub at : slice_get combinations id ≡ Some combination
  pub are : combination.nodes ≡ nodes

module _ (t : FrontierSetting) (combinations : List Combination) where
  -- A combination of these nodes was split at the place into two, which come later: no time passes for the nodes, the place is
  -- the widest, and each half has a child in place of the pair.
  pub record IsSplitInto (id : ℕ) (nodes : List ℕ) (place left right : ℕ) : Type 0 where
    pub none : NonePasses t nodes
    pub place_is : IsSplitPlace t.forest nodes (Some place)
    pub pair : IsPairAt t nodes place
    pub left_has : CombinationHasNodes combinations left (slice_set nodes place pair.left)
    pub right_has : CombinationHasNodes combinations right (slice_set nodes place pair.right)
    pub later : id < left
    pub next : right ≡ left + 1

  -- What a state says of the combination of that number, which has these nodes.
  abbrev pub IsSettled : ℕ → List ℕ → CombinationState → Type 0
  IsSettled id nodes Pending = Unit {0}
  IsSettled id nodes (Taken w) = Unit {0}
  IsSettled id nodes (Passed time) = IsLeastTime t.wcet t.deadline t.forest.pool nodes time
  IsSettled id nodes (Split place left right) = IsSplitInto id nodes place left right
  IsSettled id nodes Failed = IsHopeless t nodes

  -- What holds of the combinations after any eager run.
  pub record AreSettled : Type 0 where
    -- the first combination has the roots
    pub opening : CombinationHasNodes combinations 0 t.roots
    -- what its state says of a combination is so
    pub each : (id : ℕ) (c : Combination) → slice_get combinations id ≡ Some c → IsSettled id c.nodes c.state
    -- a tuple below a combination is below the roots
    pub below : (id : ℕ) (c : Combination) (tuple : List ℕ) → slice_get combinations id ≡ Some c → AreBelow t.forest tuple c.nodes → AreBelow t.forest tuple t.roots
    -- no combination is a half of two
    pub once : (k i j : ℕ) (c d : Combination) → slice_get combinations i ≡ Some c → slice_get combinations j ≡ Some d → IsHalfOf k c.state → IsHalfOf k d.state → i ≡ j
