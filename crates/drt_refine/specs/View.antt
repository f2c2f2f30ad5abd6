-- What contracts see of a frontier.
use Rattle.std.specs.Prelude.{◌≡◌, ℕ, List, [], ◌∷◌, take, drop}
use Rattle.drt_steps.specs.Time.{AreChosen}
use Rattle.drt_tree.specs.Tree.{Plain, IsForest}
use Rattle.drt_refine.specs.Combination.{Combination}
use Rattle.drt_refine.specs.Machine.{FrontierSetting, FrontierState, FrontierOutcome, step_of, CanStep, IsRun, replay}
use Rattle.drt_refine.specs.declared.step.CombinationState.{CombinationState}
use Rattle.drt_refine.specs.declared.step.FrontierEntry.{FrontierEntry}
use Rattle.drt_refine.specs.declared.step.FrontierStep.{FrontierStep}
use Rattle.drt_refine.specs.declared.step.FrontierReply.{FrontierReply}

-- A frontier is its roots, its wcet, its deadline, its budget, its combinations and its log.
pub record FrontierView : Type 0 where
  pub roots : List ℕ
  pub wcet : ℕ
  pub deadline : ℕ
  pub budget : ℕ
  pub combinations : List Combination
  pub log : List FrontierEntry

-- What a frontier over a forest never changes.
abbrev pub setting_of : Plain → FrontierView → FrontierSetting
setting_of f v = record { forest = f; roots = v.roots; wcet = v.wcet; deadline = v.deadline; budget = v.budget }

-- The state of the machine.
abbrev pub state_of : FrontierView → FrontierState
state_of v = record { combinations = v.combinations; log = v.log }

-- The combinations of these states, where each has so many nodes in the one list of all nodes.
abbrev pub combinations_of : ℕ → List ℕ → List CombinationState → List Combination
combinations_of width nodes [] = []
combinations_of width nodes (s ∷ states) = record { nodes = take width nodes; state = s } ∷ combinations_of width (drop width nodes) states

-- Where the view is a frontier over the forest, its log is a run, and its state is that after it.
pub record IsFrontier (f : Plain) (v : FrontierView) : Type 0 where
  pub forest : IsForest f
  pub roots : AreChosen v.deadline f.pool v.roots
  pub run : IsRun (setting_of f v) v.log
  pub state : state_of v ≡ replay (setting_of f v) v.log

module _ (f : Plain) (v : FrontierView) where
  -- The conditions of a step.
  abbrev pub CanApply : ℕ → FrontierStep → Type 0
  CanApply w step = CanStep (setting_of f v) (state_of v) w step

  -- The outcome of a worker's step.
  abbrev pub outcome : ℕ → FrontierStep → FrontierOutcome
  outcome w step = step_of (setting_of f v) (state_of v) w step

-- The view in another state.
abbrev pub moved : FrontierView → FrontierState → FrontierView
moved v s = record { roots = v.roots; wcet = v.wcet; deadline = v.deadline; budget = v.budget; combinations = s.combinations; log = s.log }

-- One step of the machine, from old to new, with its reply.
pub record IsFrontierStep (f : Plain) (old new : FrontierView) (w : ℕ) (step : FrontierStep) (reply : FrontierReply) : Type 0 where
  pub state : new ≡ moved old (outcome f old w step).state
  pub reply_is : reply ≡ (outcome f old w step).reply
