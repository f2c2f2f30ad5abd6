use Rattle.std.proofs.Common.{decimal}
use Rattle.drt_evidence.specs.Cuts.{end_form, left, spaced_form}
use Rattle.drt_claims.specs.Ranges.{IsInRangeEnd, IsWork}
use Rattle.drt_evidence.proofs.Claims.{end_opened}
use Rattle.drt_evidence.proofs.Cuts.{join_first, join_is, join_second}
use Rattle.drt_evidence.proofs.reading.state_lines.work_and_end.Goals as goal

pub returns-in-None : goal.returns-in-None
returns-in-None c = join_first (spaced_form decimal) IsWork end_form IsInRangeEnd end_opened (left c.args.rest) c.in-None.ensures

pub returns-in-Some-2 : goal.returns-in-Some-2
returns-in-Some-2 c =
    join_is (spaced_form decimal) IsWork end_form IsInRangeEnd end_opened (left c.args.rest) (left c.in-Some.parts.1) c.in-Some.parts.0 c.in-Some-2.end
    c.in-Some.ensures (rw c.in-Some-2.is at c.in_ok-end.ensures)

pub returns-in-None-2 : goal.returns-in-None-2
returns-in-None-2 c =
    join_second (spaced_form decimal) IsWork end_form IsInRangeEnd end_opened (left c.args.rest) (left c.in-Some.parts.1) c.in-Some.parts.0
    c.in-Some.ensures (rw c.in-None-2.is at c.in_ok-end.ensures)
