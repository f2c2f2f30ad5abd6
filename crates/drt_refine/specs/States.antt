-- The states of the combinations, as the code keeps them.
use Rattle.std.specs.Prelude.{◌≡◌, ℕ, ◌≤◌, ◌<◌, true, false, Option, Some, List, length, slice_get}
use Rattle.drt_worklist.specs.Places.{first, places}
use Rattle.drt_refine.specs.Combination.{is_pending_combination, is_taken_combination, is_failed_state}
use Rattle.drt_refine.specs.declared.step.CombinationState.{CombinationState}

-- Some states, and how many there is room for.
pub record CombinationStock : Type 0 where
  pub items : List CombinationState
  pub room : ℕ

-- The states from `next` on are pending, and no other; the numbers of the taken ones are kept in order, and the first that failed.
pub record AreSorted (items : List CombinationState) (next : ℕ) (taken : List ℕ) (failed : Option ℕ) : Type 0 where
  pub within : next ≤ length items
  pub before : (k : ℕ) (s : CombinationState) → k < next → slice_get items k ≡ Some s → is_pending_combination s ≡ false
  pub after : (k : ℕ) (s : CombinationState) → next ≤ k → slice_get items k ≡ Some s → is_pending_combination s ≡ true
  pub taken_are : taken ≡ places is_taken_combination items
  pub failed_is : failed ≡ first is_failed_state items
