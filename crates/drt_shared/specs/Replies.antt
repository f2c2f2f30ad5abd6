-- What a shared table answers, by what it means for a pass.
use Rattle.std.specs.Prelude.{ℕ}
use Rattle.drt_table.specs.declared.step.TableReply.{TableReply}
use Rattle.drt_table.specs.declared.step.TableReply.TheVariants.{Taken, Busy, Finished, Added, Dominated, OutOfRange, Closed, Spent}
use Rattle.drt_table.specs.declared.step.TableStep.{TableStep}
use Rattle.drt_table.specs.declared.step.TableStep.TheVariants.{Take, Offer, Close}
use Rattle.drt_shared.specs.declared.reply.SharedReply.{SharedReply}
use Rattle.drt_shared.specs.declared.reply.SharedReply.TheVariants.{Step, Halted, Strange}

-- How many entries a reply of the table adds to its log.
abbrev pub logged_by : TableReply → ℕ
logged_by (Taken k) = 1
logged_by (Busy k) = 0
logged_by Finished = 0
logged_by (Added k) = 1
logged_by (Dominated k) = 1
logged_by OutOfRange = 1
logged_by Closed = 1
logged_by Spent = 0

-- How many entries an answer adds to the log.
abbrev pub logged : SharedReply → ℕ
logged (Step r) = logged_by r
logged Halted = 0
logged (Strange f) = 0

-- The replies to Take, to an Offer and to a Close.
abbrev pub IsOfTake : TableReply → Type 0
IsOfTake (Taken k) = Unit {0}
IsOfTake (Busy k) = Unit {0}
IsOfTake Finished = Unit {0}
IsOfTake (Added k) = ⊥
IsOfTake (Dominated k) = ⊥
IsOfTake OutOfRange = ⊥
IsOfTake Closed = ⊥
IsOfTake Spent = Unit {0}

-- A reply that an offer may have.
abbrev pub IsOfOffer : TableReply → Type 0
IsOfOffer (Taken k) = ⊥
IsOfOffer (Busy k) = ⊥
IsOfOffer Finished = ⊥
IsOfOffer (Added k) = Unit {0}
IsOfOffer (Dominated k) = Unit {0}
IsOfOffer OutOfRange = Unit {0}
IsOfOffer Closed = ⊥
IsOfOffer Spent = Unit {0}

-- A reply that the close of a node may have.
abbrev pub IsOfClose : TableReply → Type 0
IsOfClose (Taken k) = ⊥
IsOfClose (Busy k) = ⊥
IsOfClose Finished = ⊥
IsOfClose (Added k) = ⊥
IsOfClose (Dominated k) = ⊥
IsOfClose OutOfRange = ⊥
IsOfClose Closed = Unit {0}
IsOfClose Spent = Unit {0}

-- The replies to a step of the table.
abbrev pub IsReplyOf : TableStep → TableReply → Type 0
IsReplyOf Take r = IsOfTake r
IsReplyOf (Offer id k) r = IsOfOffer r
IsReplyOf (Close id) r = IsOfClose r

-- What holds of the table's reply, where the answer has one.
abbrev pub ForReply : (TableReply → Type 0) → SharedReply → Type 0
ForReply P (Step r) = P r
ForReply P Halted = Unit {0}
ForReply P (Strange f) = Unit {0}
