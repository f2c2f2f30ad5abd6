-- The responses so far were read.
use Rattle.std.proofs.Common.{length}
use Rattle.drt_responses.proofs.Rows.{RowsAt}
use Rattle.drt_responses.proofs.reading.blocks.read_rows.Given as goal

abbrev pub invariant-rows : goal.invariant-rows
invariant-rows l = RowsAt l.responses.items l.initial.text.rest.now l.text.rest.now

abbrev pub decreases-rows : goal.decreases-rows
decreases-rows l = length l.text.rest.now
