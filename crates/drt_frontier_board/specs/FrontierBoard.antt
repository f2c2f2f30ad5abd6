-- A frontier behind the lock, and one call on it.
use Rattle.std.specs.Prelude.{◌≡◌, ℕ, ◌+◌, ◌<◌, IfSome, Option, None, Some, List, slice_get, length}
use Rattle.drt_steps.specs.Time.{IsLeastTime}
use Rattle.drt_tree.specs.Tree.{Plain}
use Rattle.drt_refine.specs.Combination.{Combination}
use Rattle.drt_refine.specs.Eager.{IsSplitPlace}
use Rattle.drt_refine.specs.Facts.{AreInPlace}
use Rattle.drt_refine.specs.Machine.{FrontierSetting, NonePasses, IsHopeless}
use Rattle.drt_refine.specs.View.{FrontierView, setting_of, IsFrontierStep}
use Rattle.drt_refine.specs.declared.step.FrontierReply.{FrontierReply}
use Rattle.drt_refine.specs.declared.step.FrontierStep.{FrontierStep}
use Rattle.drt_refine.specs.declared.step.FrontierStep.TheVariants.{Take, Pass, Split, Fail}
use Rattle.drt_frontier_board.specs.Finds.{FrontierDiffersIfStrange, TellsFrontierFound}
use Rattle.drt_frontier_board.specs.Replies.{ForFrontierReply, IsReplyTo, frontier_logged, frontier_logged_by, taken_by}
use Rattle.drt_frontier_board.specs.declared.answer.FrontierAnswer.{FrontierAnswer}
use Rattle.drt_frontier_board.specs.declared.answer.FrontierAnswer.TheVariants.{Step, Strange}

-- A frontier, beside the forest that it was started with.
pub record BoardOf : Type 0 where
  pub forest : Plain
  pub frontier : FrontierView

-- What it was started with.
abbrev pub terms_of : BoardOf → FrontierSetting
terms_of b = setting_of b.forest b.frontier

-- The step settles the combination that the pass holds, with this copy of its nodes: it passes with the least time that passes; it
-- is split where none passes, at its widest place, where it has a pair; and it fails where its nodes are leaves and none passes.
abbrev pub CanSettle : FrontierSetting → Option ℕ → List ℕ → FrontierStep → Type 0
CanSettle t held nodes Take = ⊥
CanSettle t held nodes (Pass id time) = (held ≡ Some id) × IsLeastTime t.wcet t.deadline t.forest.pool nodes time
CanSettle t held nodes (Split id place) = (held ≡ Some id) × NonePasses t nodes × IsSplitPlace t.forest nodes (Some place)
CanSettle t held nodes (Fail id) = (held ≡ Some id) × IsHopeless t nodes

-- The conditions of a step, by what the pass holds and its copy.
abbrev pub CanMake : FrontierSetting → Option ℕ → List ℕ → FrontierStep → Type 0
CanMake t held nodes Take = held ≡ None
CanMake t held nodes (Pass id time) = CanSettle t held nodes (Pass id time)
CanMake t held nodes (Split id place) = CanSettle t held nodes (Split id place)
CanMake t held nodes (Fail id) = CanSettle t held nodes (Fail id)

-- One step of the machine by a worker that held that combination, as to its log, its reply and what was taken.
pub record IsFrontierStepMade (old new : BoardOf) (w : ℕ) (held : Option ℕ) (step : FrontierStep) (reply : FrontierReply) : Type 0 where
  pub terms : terms_of new ≡ terms_of old
  pub made : IsFrontierStep old.forest old.frontier new.frontier w step reply
  pub log : length new.frontier.log ≡ length old.frontier.log + frontier_logged_by held reply
  pub few : frontier_logged_by held reply ≡ 1 → length old.frontier.log < old.frontier.budget
  pub kind : IsReplyTo step reply
  pub taken : (k : ℕ) → taken_by reply ≡ Some k → k < length new.frontier.combinations

-- The copy is that of the combination that was taken, if one was, and else stays as it was.
abbrev pub IsCopied : List Combination → Option ℕ → List ℕ → List ℕ → Type 0
IsCopied combinations None old new = new ≡ old
IsCopied combinations (Some k) old new = IfSome (slice_get combinations k) (λ c. new ≡ c.nodes)

-- What became of the frontier: it made one step, or is as it was.
abbrev pub Becomes : BoardOf → BoardOf → ℕ → FrontierStep → FrontierAnswer → Type 0
Becomes old new w step (Step r) = IsFrontierStep old.forest old.frontier new.frontier w step r
Becomes old new w step (Strange f) = new ≡ old

-- The copy stays as it was, unless a combination was taken.
abbrev pub KeepsCopy : FrontierAnswer → List ℕ → List ℕ → Type 0
KeepsCopy (Step r) old new = taken_by r ≡ None → new ≡ old
KeepsCopy (Strange f) old new = new ≡ old

-- One call on the frontier, from old to new, of a worker that held that combination with this copy of its nodes, with its answer
-- and the copy after it.
pub record IsFrontierCall (old new : BoardOf) (w : ℕ) (held : Option ℕ) (nodes copy : List ℕ) (step : FrontierStep) (answer : FrontierAnswer) : Type 0 where
  pub terms : terms_of new ≡ terms_of old
  pub becomes : Becomes old new w step answer
  pub log : length new.frontier.log ≡ length old.frontier.log + frontier_logged held answer
  pub few : frontier_logged held answer ≡ 1 → length old.frontier.log < old.frontier.budget
  pub kind : ForFrontierReply (IsReplyTo step) answer
  pub differs : FrontierDiffersIfStrange held answer
  pub found : TellsFrontierFound old.frontier.combinations w held nodes answer
  pub in_place : AreInPlace (terms_of old) copy
  pub keeps : KeepsCopy answer nodes copy
