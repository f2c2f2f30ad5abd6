use Rattle.drt_evidence.specs.Cuts.{left}
use Rattle.drt_evidence.proofs.Claims.{parts_are, parts_first, parts_second}
use Rattle.drt_evidence.proofs.reading.state_lines.parts_of_state.Goals as goal

pub returns-in-None : goal.returns-in-None
returns-in-None c = parts_first (left c.args.rest) (rw c.in-None.is at c.in_ok-parts.ensures)

pub returns-in-Some-2 : goal.returns-in-Some-2
returns-in-Some-2 c =
    parts_are (left c.args.rest) (left c.in-Some.parts.1) c.in-Some.parts.0 c.in-Some-2.others
    (rw c.in-Some.is at c.in_ok-parts.ensures) (rw c.in-Some-2.is at c.in_ok-others.ensures)

pub returns-in-None-2 : goal.returns-in-None-2
returns-in-None-2 c =
    parts_second (left c.args.rest) (left c.in-Some.parts.1) c.in-Some.parts.0
    (rw c.in-Some.is at c.in_ok-parts.ensures) (rw c.in-None-2.is at c.in_ok-others.ensures)
