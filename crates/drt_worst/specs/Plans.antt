-- What is done with a combination, as the code says it.
use Rattle.std.specs.Prelude.{ℕ, ◌≤◌, List, length}
use Rattle.drt_steps.specs.Time.{AreChosen}
use Rattle.drt_tree.specs.Tree.{Plain}
use Rattle.drt_refine.specs.Below.{AreNodes}
use Rattle.drt_worst.specs.Runs.{Choice, skips, reaches, splits}
use Rattle.drt_worst.specs.declared.plan.Plan.{Plan}
use Rattle.drt_worst.specs.declared.plan.Plan.TheVariants.{Skips, Reaches, Splits}

-- The choice that the plan stands for.
abbrev pub choice_of : Plan → Choice
choice_of Skips = skips
choice_of (Reaches t) = reaches t
choice_of (Splits l r) = splits l r

-- A combination whose least time can be looked for: its nodes are of the forest, their functions go to the deadline, and there are at
-- most 31 of them.
pub record CanTake (f : Plain) (d : ℕ) (nodes : List ℕ) : Type 0 where
  pub nodes_are : AreNodes f nodes
  pub chosen : AreChosen d f.pool nodes
  pub few : length nodes ≤ 31
