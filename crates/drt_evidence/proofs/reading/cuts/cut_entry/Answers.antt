use Rattle.drt_evidence.specs.Cuts.{left}
use Rattle.drt_evidence.proofs.Claims.{entry_first, entry_is, entry_second, entry_third}
use Rattle.drt_evidence.proofs.Forms.{number_no_space}
use Rattle.drt_evidence.proofs.reading.cuts.cut_entry.Goals as goal

pub cut_one-requires : goal.cut_one-requires
cut_one-requires c = number_no_space

pub returns-in_err-place : goal.returns-in_err-place
returns-in_err-place c = rw c.from_residual.ensures (entry_first (left c.args.rest) c.in_err-place.ensures)

pub cut_one-requires-2 : goal.cut_one-requires-2
cut_one-requires-2 c = number_no_space

pub returns-in_err-vertex : goal.returns-in_err-vertex
returns-in_err-vertex c =
    rw c.from_residual-in_err-vertex.ensures
    (entry_second (left c.args.rest) (left c.in_ok-place.rest) c.in_ok-place.place c.in_ok-place.ensures c.in_err-vertex.ensures)

pub returns-in_err-offset : goal.returns-in_err-offset
returns-in_err-offset c =
    rw c.from_residual-in_err-offset.ensures
    (entry_third (left c.args.rest) (left c.in_ok-place.rest) (left c.in_ok-vertex.rest) c.in_ok-place.place c.in_ok-vertex.vertex
    c.in_ok-place.ensures c.in_ok-vertex.ensures c.in_err-offset.ensures)

pub returns : goal.returns
returns c =
    entry_is (left c.args.rest) (left c.in_ok-place.rest) (left c.in_ok-vertex.rest) (left c.in_ok-offset.rest)
    c.in_ok-place.place c.in_ok-vertex.vertex c.in_ok-offset.offset c.in_ok-place.ensures c.in_ok-vertex.ensures c.in_ok-offset.ensures
