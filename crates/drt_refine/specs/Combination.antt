-- Combinations and their states.
use Rattle.std.specs.Prelude.{ℕ, Bool, true, false, ◌==◌, List}
use Rattle.drt_refine.specs.declared.step.CombinationState.{CombinationState}
use Rattle.drt_refine.specs.declared.step.CombinationState.TheVariants.{Pending, Taken, Passed, Split, Failed}

-- A combination has one node for each task of higher priority, in order of priority, and a state.
pub record Combination : Type 0 where
  pub nodes : List ℕ
  pub state : CombinationState

-- It waits to be taken.
abbrev pub is_pending_combination : CombinationState → Bool
is_pending_combination Pending = true
is_pending_combination (Taken w) = false
is_pending_combination (Passed time) = false
is_pending_combination (Split place left right) = false
is_pending_combination Failed = false

-- A worker holds it.
abbrev pub is_taken_combination : CombinationState → Bool
is_taken_combination Pending = false
is_taken_combination (Taken w) = true
is_taken_combination (Passed time) = false
is_taken_combination (Split place left right) = false
is_taken_combination Failed = false

-- This worker holds it.
abbrev pub is_held_state : ℕ → CombinationState → Bool
is_held_state w Pending = false
is_held_state w (Taken v) = v == w
is_held_state w (Passed time) = false
is_held_state w (Split place left right) = false
is_held_state w Failed = false

-- It was split.
abbrev pub is_split_state : CombinationState → Bool
is_split_state Pending = false
is_split_state (Taken w) = false
is_split_state (Passed time) = false
is_split_state (Split place left right) = true
is_split_state Failed = false

-- It failed.
abbrev pub is_failed_state : CombinationState → Bool
is_failed_state Pending = false
is_failed_state (Taken w) = false
is_failed_state (Passed time) = false
is_failed_state (Split place left right) = false
is_failed_state Failed = true

-- The combination waits to be taken.
abbrev pub is_combination_pending : Combination → Bool
is_combination_pending c = is_pending_combination c.state

-- A worker holds the combination.
abbrev pub is_combination_taken : Combination → Bool
is_combination_taken c = is_taken_combination c.state

-- This worker holds the combination.
abbrev pub is_combination_held_by : ℕ → Combination → Bool
is_combination_held_by w c = is_held_state w c.state

-- The combination failed.
abbrev pub is_failed : Combination → Bool
is_failed c = is_failed_state c.state

-- A new combination of these nodes.
abbrev pub fresh_combination : List ℕ → Combination
fresh_combination nodes = record { nodes = nodes; state = Pending }

-- The combination in another state.
abbrev pub with_state : CombinationState → Combination → Combination
with_state s c = record { nodes = c.nodes; state = s }
