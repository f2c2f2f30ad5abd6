-- What a call finds under the lock.
use Rattle.std.specs.Prelude.{◌≡◌, ℕ, ◌==◌, Bool, false, ◌&&◌, ◌↔◌, IsTrue, Option, None, Some, is_none, List, slice_get}
use Rattle.drt_worklist.specs.Places.{first}
use Rattle.drt_refine.specs.Combination.{Combination, is_combination_held_by}
use Rattle.drt_frontier_board.specs.declared.answer.FrontierAnswer.{FrontierAnswer}
use Rattle.drt_frontier_board.specs.declared.answer.FrontierAnswer.TheVariants.{Step, Strange}
use Rattle.drt_frontier_board.specs.declared.answer.FrontierFound.{FrontierFound}

-- The combination that was found has the nodes that are the copy of what the pass holds.
pub record HasCopy (combinations : List Combination) (at held : Option ℕ) (nodes : List ℕ) : Type 0 where
  pub found : ℕ
  pub found_is : at ≡ Some found
  pub combination : Combination
  pub combination_is : slice_get combinations found ≡ Some combination
  pub copied : ℕ
  pub copied_is : held ≡ Some copied
  pub same : nodes ≡ combination.nodes

-- What a call finds for a worker whose pass holds that combination, with a copy of its nodes.
pub record IsFoundCombination (combinations : List Combination) (w : ℕ) (held : Option ℕ) (nodes : List ℕ) (f : FrontierFound) : Type 0 where
  pub held_is : f.held ≡ first (is_combination_held_by w) combinations
  pub same_is : IsTrue f.same ↔ HasCopy combinations f.held held nodes

-- The number is that one.
abbrev pub is_that_combination : ℕ → Option ℕ → Bool
is_that_combination k None = false
is_that_combination k (Some j) = j == k

-- What was found is what the pass holds.
abbrev pub is_expected_combination : Option ℕ → FrontierFound → Bool
is_expected_combination None f = is_none f.held
is_expected_combination (Some id) f = is_that_combination id f.held && f.same

-- A strange answer tells something that differs from what the pass holds.
abbrev pub FrontierDiffersIfStrange : Option ℕ → FrontierAnswer → Type 0
FrontierDiffersIfStrange held (Step r) = Unit {0}
FrontierDiffersIfStrange held (Strange f) = is_expected_combination held f ≡ false

-- And it tells what is found, in a frontier of these combinations, for a worker that holds that with a copy of these nodes.
abbrev pub TellsFrontierFound : List Combination → ℕ → Option ℕ → List ℕ → FrontierAnswer → Type 0
TellsFrontierFound combinations w held nodes (Step r) = Unit {0}
TellsFrontierFound combinations w held nodes (Strange f) = IsFoundCombination combinations w held nodes f
