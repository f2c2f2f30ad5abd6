-- While passes are opened and taken in.
use Rattle.std.specs.Prelude.{◌≡◌, ℕ, ◌+◌, List, ◌++◌, length, Some, slice_get}
use Rattle.drt_lock.specs.Rule.{all_parts}
use Rattle.drt_worst.specs.declared.view.View.{View}
use Rattle.drt_worst.specs.Closing.{WordOf}
use Rattle.drt_worst.specs.Passing.{search_of_question, IsGreatestRaised, IsNotedIn}
use Rattle.drt_worst.specs.declared.pass.Pass.{Pass}
use Rattle.drt_worst.specs.declared.pass.Question.{Question}

-- Some passes are left, and what the others knew is in the view.
pub record IsGathered (word : WordOf Question) (all left : List Pass) (best : ℕ) (leaves : List ℕ) (v : View) : Type 0 where
  pub parts : v.parts + length left ≡ all_parts
  pub done : List Pass
  pub split : all ≡ left ++ done
  pub known : (i : ℕ) (p : Pass) → slice_get done i ≡ Some p → IsNotedIn p.known v
  pub greatest : IsGreatestRaised (search_of_question word.about) word.about.roots.value best leaves v
