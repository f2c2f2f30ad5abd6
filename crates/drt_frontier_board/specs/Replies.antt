-- What a shared frontier answers, by what it means for a pass.
use Rattle.std.specs.Prelude.{ℕ, if◌then◌else◌, Option, None, Some}
use Rattle.drt_refine.specs.declared.step.FrontierReply.{FrontierReply}
use Rattle.drt_refine.specs.declared.step.FrontierReply.TheVariants.{Taken, Busy, Finished, Passed, Halved, Failed, Spent}
use Rattle.drt_refine.specs.declared.step.FrontierStep.{FrontierStep}
use Rattle.drt_refine.specs.declared.step.FrontierStep.TheVariants.{Take, Pass, Split, Fail}
use Rattle.drt_frontier_board.specs.Finds.{is_that_combination}
use Rattle.drt_frontier_board.specs.declared.answer.FrontierAnswer.{FrontierAnswer}
use Rattle.drt_frontier_board.specs.declared.answer.FrontierAnswer.TheVariants.{Step, Strange}

-- How many entries a reply adds to the log, where the worker held that combination. That one has failed is told once, by the step
-- that is logged; each later step is told the same.
abbrev pub frontier_logged_by : Option ℕ → FrontierReply → ℕ
frontier_logged_by held (Taken k) = 1
frontier_logged_by held (Busy k) = 0
frontier_logged_by held Finished = 0
frontier_logged_by held Passed = 1
frontier_logged_by held (Halved left right) = 1
frontier_logged_by held (Failed k) = if is_that_combination k held then 1 else 0
frontier_logged_by held Spent = 0

-- How many entries an answer adds to the log.
abbrev pub frontier_logged : Option ℕ → FrontierAnswer → ℕ
frontier_logged held (Step r) = frontier_logged_by held r
frontier_logged held (Strange f) = 0

-- The combination that a pass holds after a reply.
abbrev pub held_by : Option ℕ → FrontierReply → Option ℕ
held_by held (Taken k) = Some k
held_by held (Busy k) = held
held_by held Finished = held
held_by held Passed = None
held_by held (Halved left right) = None
held_by held (Failed k) = if is_that_combination k held then None else held
held_by held Spent = held

-- The combination that it holds after an answer.
abbrev pub held_after : Option ℕ → FrontierAnswer → Option ℕ
held_after held (Step r) = held_by held r
held_after held (Strange f) = held

-- The combination that a reply says was taken.
abbrev pub taken_by : FrontierReply → Option ℕ
taken_by (Taken k) = Some k
taken_by (Busy k) = None
taken_by Finished = None
taken_by Passed = None
taken_by (Halved left right) = None
taken_by (Failed k) = None
taken_by Spent = None

-- The replies to Take, to a Pass, to a Split and to a Fail.
abbrev pub IsOfFrontierTake : FrontierReply → Type 0
IsOfFrontierTake (Taken k) = Unit {0}
IsOfFrontierTake (Busy k) = Unit {0}
IsOfFrontierTake Finished = Unit {0}
IsOfFrontierTake Passed = ⊥
IsOfFrontierTake (Halved left right) = ⊥
IsOfFrontierTake (Failed k) = Unit {0}
IsOfFrontierTake Spent = Unit {0}

-- A reply that a Pass may have.
abbrev pub IsOfPass : FrontierReply → Type 0
IsOfPass (Taken k) = ⊥
IsOfPass (Busy k) = ⊥
IsOfPass Finished = ⊥
IsOfPass Passed = Unit {0}
IsOfPass (Halved left right) = ⊥
IsOfPass (Failed k) = Unit {0}
IsOfPass Spent = Unit {0}

-- A reply that a Split may have.
abbrev pub IsOfSplit : FrontierReply → Type 0
IsOfSplit (Taken k) = ⊥
IsOfSplit (Busy k) = ⊥
IsOfSplit Finished = ⊥
IsOfSplit Passed = ⊥
IsOfSplit (Halved left right) = Unit {0}
IsOfSplit (Failed k) = Unit {0}
IsOfSplit Spent = Unit {0}

-- A reply that a Fail may have.
abbrev pub IsOfFail : FrontierReply → Type 0
IsOfFail (Taken k) = ⊥
IsOfFail (Busy k) = ⊥
IsOfFail Finished = ⊥
IsOfFail Passed = ⊥
IsOfFail (Halved left right) = ⊥
IsOfFail (Failed k) = Unit {0}
IsOfFail Spent = Unit {0}

-- The replies to a step.
abbrev pub IsReplyTo : FrontierStep → FrontierReply → Type 0
IsReplyTo Take r = IsOfFrontierTake r
IsReplyTo (Pass id time) r = IsOfPass r
IsReplyTo (Split id place) r = IsOfSplit r
IsReplyTo (Fail id) r = IsOfFail r

-- What holds of the frontier's reply, where the answer has one.
abbrev pub ForFrontierReply : (FrontierReply → Type 0) → FrontierAnswer → Type 0
ForFrontierReply P (Step r) = P r
ForFrontierReply P (Strange f) = Unit {0}
