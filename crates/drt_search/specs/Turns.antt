-- What a worker does at its turn, and when it is at its end.
use Rattle.std.specs.Prelude.{◌≡◌, ◌<◌, Option, None, Some}
use Rattle.drt_label.specs.Algebra.{Algebra}
use Rattle.drt_model.specs.Digraph.{out_degree}
use Rattle.drt_pool.specs.declared.work.Turn.{Turn}
use Rattle.drt_pool.specs.declared.work.Turn.TheVariants.{More, Stop}
use Rattle.drt_table.specs.Machine.{Setting}
use Rattle.drt_table.specs.declared.step.TableReply.{TableReply}
use Rattle.drt_table.specs.declared.step.TableReply.TheVariants.{Taken, Busy, Finished, Added, Dominated, OutOfRange, Closed, Spent}
use Rattle.drt_shared.specs.Replies.{IsOfTake, IsOfOffer, IsOfClose}
use Rattle.drt_shared.specs.declared.pass.Holding.{Holding}
use Rattle.drt_shared.specs.declared.reply.SharedReply.{SharedReply}
use Rattle.drt_shared.specs.declared.reply.SharedReply.TheVariants.{Step, Halted, Strange}

-- After a reply of the table the worker is at its end only where the search is finished or its budget spent. At Busy it tries
-- again.
abbrev pub turn_by : TableReply → Turn
turn_by (Taken k) = More
turn_by (Busy k) = More
turn_by Finished = Stop
turn_by (Added k) = More
turn_by (Dominated k) = More
turn_by OutOfRange = More
turn_by Closed = More
turn_by Spent = Stop

-- After an answer it is so too, and at its end where the search was halted or its pass differs from the table.
abbrev pub turn_after : SharedReply → Turn
turn_after (Step r) = turn_by r
turn_after Halted = Stop
turn_after (Strange f) = Stop

-- A worker that found no memory for a label, and so has no answer, is at its end.
abbrev pub turn_of : Option SharedReply → Turn
turn_of None = Stop
turn_of (Some r) = turn_after r

module _ {L : Type 0} (a : Algebra L) (t : Setting) where
  -- The replies to a turn, by what the pass holds: a worker that holds no node takes one, one with an out-edge left offers it, and
  -- one without closes its node.
  abbrev pub IsOfTurn : Option (Holding L) → TableReply → Type 0
  IsOfTurn None r = IsOfTake r
  IsOfTurn (Some h) r = (h.offered < out_degree t.graph (a.vertex h.label) → IsOfOffer r) × (h.offered ≡ out_degree t.graph (a.vertex h.label) → IsOfClose r)
