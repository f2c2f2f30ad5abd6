-- What the search gives.
use Rattle.std.specs.Prelude.{ℕ, List}
use Rattle.drt_worst.specs.Splitting.{Search, IsGreatest}
use Rattle.drt_worst.specs.Spent.{IsSpent}
use Rattle.drt_worst.specs.declared.answer.Worst.{Worst}
use Rattle.drt_worst.specs.declared.answer.Worst.TheVariants.{Reached, Spent}

-- The greatest of the least times of the tuples below the roots, and one that has it; or what one pass took that spent its budget.
abbrev pub IsWorst : Search → List ℕ → ℕ → Worst → Type 0
IsWorst s roots budget (Reached ticks leaves) = IsGreatest s roots ticks leaves
IsWorst s roots budget (Spent taken) = IsSpent s roots budget taken
