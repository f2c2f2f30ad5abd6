-- A word as contracts see it, and what it is at the end.
use Rattle.std.specs.Prelude.{◌≡◌, ℕ, ◌≤◌, ◌⊎◌}
use Rattle.atomic_table.specs.Seated.{TableId}
use Rattle.drt_worst.specs.Rising.{HoldsOfEach, IsInList}
use Rattle.drt_worst.specs.declared.view.View.{View}

-- A word is its name, and what it is about.
pub record WordOf (S : Type 0) : Type 0 where
  pub name : TableId
  pub about : S

-- The word at the end, where one seat has every part: it is 0 or one of the numbers that were raised; each of these was reached; none
-- of them and no noted value is above it.
pub record IsWordClosed (P : ℕ → Type 0) (word : ℕ) (v : View) : Type 0 where
  pub top : (word ≡ 0) ⊎ IsInList word v.raised
  pub raised : HoldsOfEach (λ n. (n ≤ word) × P n) v.raised
  pub noted : HoldsOfEach (λ n. n ≤ word) v.noted
