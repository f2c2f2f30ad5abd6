-- A driver's turn.
use Rattle.std.specs.Prelude.{◌≡◌, ℕ, ◌<◌, Bool, true, false, [], ◌∷◌, ◌++◌, length}
use Rattle.drt_label.specs.Algebra.{Algebra}
use Rattle.drt_table.specs.Drive.{IsDriven, StopsAt}
use Rattle.drt_table.specs.View.{View, setting_of, state_of, CanApply, IsTableStep}
use Rattle.drt_table.specs.declared.step.TableStep.{TableStep}
use Rattle.drt_table.specs.declared.step.TableReply.{TableReply}
use Rattle.drt_table.specs.declared.step.TableReply.TheVariants.{Taken, Busy, Finished, Added, Dominated, OutOfRange, Closed, Spent}

-- The driver made one logged step.
pub record Went {L : Type 0} (a : Algebra L) (w : ℕ) (old new : View L) (r : TableReply) : Type 0 where
  pub worker : ℕ
  pub step : TableStep
  pub can : CanApply a old worker step
  pub is_step : IsTableStep a old new worker step r
  pub room : length old.log < old.budget
  pub log : new.log ≡ old.log ++ record { worker = worker; step = step } ∷ []
  pub driven : IsDriven a (setting_of old) w (state_of old) worker step

-- The driver stopped where it was.
pub record Stopped {L : Type 0} (a : Algebra L) (old new : View L) (r : TableReply) : Type 0 where
  pub setting : setting_of new ≡ setting_of old
  pub state : state_of new ≡ state_of old
  pub stops : StopsAt a new r

-- The reply ends a driver's work.
abbrev pub ends : TableReply → Bool
ends (Taken k) = false
ends (Busy k) = false
ends Finished = true
ends (Added k) = false
ends (Dominated k) = false
ends OutOfRange = false
ends Closed = false
ends Spent = true

-- A driver's turn: it went on, or stopped, by its reply.
pub record Turn {L : Type 0} (a : Algebra L) (w : ℕ) (old new : View L) (r : TableReply) : Type 0 where
  pub went_on : ends r ≡ false → Went a w old new r
  pub stopped : ends r ≡ true → Stopped a old new r
