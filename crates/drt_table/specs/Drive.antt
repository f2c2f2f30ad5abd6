-- What a driver does and where it stops.
use Rattle.std.specs.Prelude.{◌≡◌, ℕ, IsTrue, false, None, List, ◌++◌, length}
use Rattle.drt_label.specs.Algebra.{Algebra}
use Rattle.drt_table.specs.Machine.{Setting, State, holder, after, is_finished, IsRunFrom, replay_from}
use Rattle.drt_worklist.specs.Runs.{AllAlong}
use Rattle.drt_table.specs.View.{View, setting_of, state_of}
use Rattle.drt_table.specs.declared.step.Entry.{Entry}
use Rattle.drt_table.specs.declared.step.TableStep.{TableStep}
use Rattle.drt_table.specs.declared.step.TableStep.TheVariants.{Take, Offer, Close}
use Rattle.drt_table.specs.declared.step.TableReply.{TableReply}
use Rattle.drt_table.specs.declared.step.TableReply.TheVariants.{Taken, Busy, Finished, Added, Dominated, OutOfRange, Closed, Spent}

module _ {L : Type 0} (a : Algebra L) (t : Setting) (w : ℕ) where
  -- A driver takes nodes as worker w, and only where no node is taken: it first ends those that are.
  abbrev pub IsDriven : State L → ℕ → TableStep → Type 0
  IsDriven s x Take = (x ≡ w) × (holder a t s.nodes ≡ None)
  IsDriven s x (Offer id k) = Unit {0}
  IsDriven s x (Close id) = Unit {0}

  -- Each entry is a driver's, one after another.
  abbrev pub AreDriven : State L → List Entry → Type 0
  AreDriven s es = AllAlong (after a t) (λ (s : State L) (e : Entry). IsDriven s e.worker e.step) s es

-- The driver w went on from old to new: each of its steps is one step of the machine, and the log begins with the old log.
pub record Drives {L : Type 0} (a : Algebra L) (w : ℕ) (old new : View L) : Type 0 where
  pub more : List Entry
  pub setting : setting_of new ≡ setting_of old
  pub log : new.log ≡ old.log ++ more
  pub run : IsRunFrom a (setting_of old) (state_of old) more
  pub state : state_of new ≡ replay_from a (setting_of old) (state_of old) more
  pub driven : AreDriven a (setting_of old) w (state_of old) more

-- The reply at which a driver stops, with its cause.
abbrev pub StopsAt : {L : Type 0} → Algebra L → View L → TableReply → Type 0
StopsAt a v (Taken k) = ⊥
StopsAt a v (Busy k) = ⊥
StopsAt a v Finished = IsTrue (is_finished a (setting_of v) (state_of v))
StopsAt a v (Added k) = ⊥
StopsAt a v (Dominated k) = ⊥
StopsAt a v OutOfRange = ⊥
StopsAt a v Closed = ⊥
StopsAt a v Spent = (v.budget ≡ length v.log) × (is_finished a (setting_of v) (state_of v) ≡ false)
