use Rattle.drt_evidence.specs.Cuts.{left}
use Rattle.drt_evidence.proofs.Claims.{jump_first, jump_is, jump_second}
use Rattle.drt_evidence.proofs.reading.cuts.cut_jump.Goals as goal

pub returns-in_err-offset : goal.returns-in_err-offset
returns-in_err-offset c = rw c.from_residual.ensures (jump_first (left c.args.rest) c.in_err-offset.ensures)

pub returns-in_err-work : goal.returns-in_err-work
returns-in_err-work c =
    rw c.from_residual-in_err-work.ensures
    (jump_second (left c.args.rest) (left c.in_ok-offset.rest) c.in_ok-offset.offset c.in_ok-offset.ensures c.in_err-work.ensures)

pub returns : goal.returns
returns c =
    jump_is (left c.args.rest) (left c.in_ok-offset.rest) (left c.in_ok-work.rest) c.in_ok-offset.offset c.in_ok-work.work
    c.in_ok-offset.ensures c.in_ok-work.ensures
