-- What a driver does and where it stops.
use Rattle.std.specs.Prelude.{◌≡◌, ℕ, ◌+◌, ◌<◌, IsTrue, Bool, true, false, None, Some, List, ◌++◌, length}
use Rattle.drt_tree.specs.Tree.{Plain}
use Rattle.drt_worklist.specs.Places.{first}
use Rattle.drt_worklist.specs.Runs.{AllAlong}
use Rattle.drt_steps.specs.Time.{IsLeastTime}
use Rattle.drt_refine.specs.Combination.{Combination, is_combination_taken, is_failed}
use Rattle.drt_refine.specs.Machine.{FrontierSetting, FrontierState, after, is_finished, IsRunFrom, replay_from, NonePasses, IsHopeless}
use Rattle.drt_refine.specs.Eager.{AreEagerFrom, IsSplitPlace}
use Rattle.drt_refine.specs.View.{FrontierView, setting_of, state_of}
use Rattle.drt_refine.specs.declared.step.FrontierEntry.{FrontierEntry}
use Rattle.drt_refine.specs.declared.step.FrontierStep.{FrontierStep}
use Rattle.drt_refine.specs.declared.step.FrontierStep.TheVariants.{Take, Pass, Split, Fail}
use Rattle.drt_refine.specs.declared.step.FrontierReply.{FrontierReply}
use Rattle.drt_refine.specs.declared.step.FrontierReply.TheVariants.{Taken, Busy, Finished, Passed, Halved, Failed, Spent}

-- A driver takes combinations as worker w, and only where none is taken: it first settles those that are.
abbrev pub IsDriven : ℕ → FrontierState → FrontierEntry → Type 0
IsDriven w s e = e.step ≡ Take → (e.worker ≡ w) × (first is_combination_taken s.combinations ≡ None)

-- The driver w went on from old to new: each of its steps is one step of the machine, all are eager, and the log begins with the
-- old log.
pub record DrivesFrontier (f : Plain) (w : ℕ) (old new : FrontierView) : Type 0 where
  pub more : List FrontierEntry
  pub setting : setting_of f new ≡ setting_of f old
  pub log : new.log ≡ old.log ++ more
  pub run : IsRunFrom (setting_of f old) (state_of old) more
  pub state : state_of new ≡ replay_from (setting_of f old) (state_of old) more
  pub eager : AreEagerFrom (setting_of f old) (state_of old) more
  pub driven : AllAlong (after (setting_of f old)) (IsDriven w) (state_of old) more

module _ (t : FrontierSetting) (s : FrontierState) where
  -- The log has as many entries as the budget, the state isn't finished, and no combination has failed.
  pub record IsSpent : Type 0 where
    pub full : length s.log ≡ t.budget
    pub unfinished : is_finished t s ≡ false
    pub unfailed : first is_failed s.combinations ≡ None

  -- The reply at which a driver stops, with its cause.
  abbrev pub StopsAt : FrontierReply → Type 0
  StopsAt (Taken id) = ⊥
  StopsAt (Busy id) = ⊥
  StopsAt Finished = IsTrue (is_finished t s)
  StopsAt Passed = ⊥
  StopsAt (Halved left right) = ⊥
  StopsAt (Failed id) = first is_failed s.combinations ≡ Some id
  StopsAt Spent = IsSpent

-- The reply ends a driver's work.
abbrev pub ends_frontier : FrontierReply → Bool
ends_frontier (Taken id) = false
ends_frontier (Busy id) = false
ends_frontier Finished = true
ends_frontier Passed = false
ends_frontier (Halved left right) = false
ends_frontier (Failed id) = true
ends_frontier Spent = true

-- A driver's step: it takes where no combination is taken, and else settles one.
abbrev pub IsTurn : FrontierSetting → FrontierState → FrontierStep → Type 0
IsTurn t s Take = first is_combination_taken s.combinations ≡ None
IsTurn t s (Pass id time) = (k : ℕ) × (first is_combination_taken s.combinations ≡ Some k)
IsTurn t s (Split id place) = (k : ℕ) × (first is_combination_taken s.combinations ≡ Some k)
IsTurn t s (Fail id) = (k : ℕ) × (first is_combination_taken s.combinations ≡ Some k)

module _ (t : FrontierSetting) (id : ℕ) (c : Combination) where
  -- The step settles the combination of that number: it passes with the least time that passes; where none passes it is split at
  -- its widest place, and fails where its nodes are leaves.
  abbrev pub Settles : FrontierStep → Type 0
  Settles Take = ⊥
  Settles (Pass k time) = (k ≡ id) × IsLeastTime t.wcet t.deadline t.forest.pool c.nodes time
  Settles (Split k place) = (k ≡ id) × NonePasses t c.nodes × IsSplitPlace t.forest c.nodes (Some place)
  Settles (Fail k) = (k ≡ id) × IsHopeless t c.nodes

-- A driver's turn: it made a step, or stopped by its reply.
pub record FrontierTurn (f : Plain) (w : ℕ) (old new : FrontierView) (r : FrontierReply) : Type 0 where
  pub drives : DrivesFrontier f w old new
  pub stops : ends_frontier r ≡ true → StopsAt (setting_of f new) (state_of new) r
  pub goes : ends_frontier r ≡ false → (length new.log ≡ length old.log + 1) × (length old.log < old.budget) × (new.budget ≡ old.budget)
