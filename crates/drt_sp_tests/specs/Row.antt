-- The worked rows: forests, steps and replies.
use Rattle.std.specs.Prelude.{ℕ, Option, Some, None, List, [], ◌∷◌}
use Rattle.drt_tree.specs.Tree.{Plain}
use Rattle.drt_tree.specs.declared.node.Node.{Node}
use Rattle.drt_refine.specs.Machine.{FrontierSetting, FrontierState, step_of}
use Rattle.drt_refine.specs.declared.step.FrontierEntry.{FrontierEntry}
use Rattle.drt_refine.specs.declared.step.FrontierStep.{FrontierStep}
use Rattle.drt_refine.specs.declared.step.FrontierStep.TheVariants.{Take, Pass, Split, Fail}
use Rattle.drt_refine.specs.declared.step.FrontierReply.{FrontierReply}
use Rattle.drt_refine.specs.declared.step.FrontierReply.TheVariants.{Taken, Busy, Finished, Passed, Halved, Failed, Spent}

-- A leaf with a walk of one vertex.
abbrev pub leaf : ℕ → Node
leaf vertex = record { children = None; leaves = 1; walk = vertex ∷ [] }

-- A pair with so many leaves under it.
abbrev pub pair : ℕ → ℕ → ℕ → Node
pair left right count = record { children = Some (left, right); leaves = count; walk = [] }

-- A job of 2 ticks with the deadline 4, below one task with the walks y of 2 ticks and x of 3 ticks.
abbrev pub narrow_setting : ℕ → FrontierSetting
narrow_setting budget = record {
  forest = record { nodes = leaf 1 ∷ leaf 0 ∷ pair 0 1 2 ∷ []; pool = (2 ∷ 2 ∷ 2 ∷ 2 ∷ 2 ∷ []) ∷ (3 ∷ 3 ∷ 3 ∷ 3 ∷ 3 ∷ []) ∷ (3 ∷ 3 ∷ 3 ∷ 3 ∷ 3 ∷ []) ∷ [] };
  roots = 2 ∷ [];
  wcet = 2;
  deadline = 4;
  budget = budget;
}

-- A job of 2 ticks with the deadline 5, below one task with the walks y, x and y y, whose second job comes 4 ticks later.
abbrev pub wide_setting : FrontierSetting
wide_setting = record {
  forest = record {
    nodes = leaf 1 ∷ leaf 0 ∷ leaf 1 ∷ pair 0 1 2 ∷ pair 3 2 3 ∷ [];
    pool = (2 ∷ 2 ∷ 2 ∷ 2 ∷ 2 ∷ []) ∷ (3 ∷ 3 ∷ 3 ∷ 3 ∷ 3 ∷ []) ∷ (2 ∷ 2 ∷ 2 ∷ 2 ∷ 4 ∷ [])
        ∷ (3 ∷ 3 ∷ 3 ∷ 3 ∷ 3 ∷ []) ∷ (3 ∷ 3 ∷ 3 ∷ 3 ∷ 4 ∷ []) ∷ [];
  };
  roots = 4 ∷ [];
  wcet = 2;
  deadline = 5;
  budget = 100;
}

-- A worker's step.
abbrev pub entry_by : ℕ → FrontierStep → FrontierEntry
entry_by w step = record { worker = w; step = step }

-- The replies to some steps, one after another.
abbrev pub replies_along : FrontierSetting → FrontierState → List FrontierEntry → List FrontierReply
replies_along t s [] = []
replies_along t s (e ∷ es) = (step_of t s e.worker e.step).reply ∷ replies_along t (step_of t s e.worker e.step).state es

-- The steps of one worker on the narrow forest: its combination is split, the left part passes, and the right one fails.
abbrev pub steps_of_narrow : List FrontierEntry
steps_of_narrow = entry_by 0 Take ∷ entry_by 0 (Split 0 0) ∷ entry_by 0 Take ∷ entry_by 0 (Pass 1 4) ∷ entry_by 0 Take ∷ entry_by 0 (Fail 2) ∷ entry_by 0 Take ∷ []

-- What they are answered.
abbrev pub replies_to_narrow : List FrontierReply
replies_to_narrow = Taken 0 ∷ Halved 1 2 ∷ Taken 1 ∷ Passed ∷ Taken 2 ∷ Failed 2 ∷ Failed 2 ∷ []

-- The steps of three workers on the wide forest.
abbrev pub steps_of_wide : List FrontierEntry
steps_of_wide = entry_by 0 Take ∷ entry_by 1 Take ∷ entry_by 0 (Split 0 0) ∷ entry_by 0 Take ∷ entry_by 1 Take ∷ entry_by 1 (Pass 2 4) ∷ entry_by 1 Take ∷ entry_by 0 (Pass 1 5) ∷ entry_by 2 Take ∷ []

-- What they are answered.
abbrev pub replies_to_wide : List FrontierReply
replies_to_wide = Taken 0 ∷ Busy 0 ∷ Halved 1 2 ∷ Taken 1 ∷ Taken 2 ∷ Passed ∷ Busy 1 ∷ Passed ∷ Finished ∷ []
