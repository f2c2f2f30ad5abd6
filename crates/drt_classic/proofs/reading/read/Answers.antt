use Rattle.std.proofs.lemmas.Result.{err_from_is_err_and}
use Rattle.drt_classic.proofs.Whole.{cause_of, read_says}
use Rattle.drt_classic.proofs.reading.read.Goals as goal

pub returns-in_err-tasks-clause-fault : goal.returns-in_err-tasks-clause-fault
returns-in_err-tasks-clause-fault c =
    let p = err_from_is_err_and c.from_residual.result c.from_residual.ensures.1 in
    rw (p.1, p.2) (cause_of c.args.bytes.now c.in_err-tasks.field-0.0 c.in_err-tasks.ensures)

pub invariant_of-result : goal.invariant_of-result
invariant_of-result c = (read_says c.args.bytes.now c.in_ok-tasks.tasks c.in_ok-tasks.ensures).limits

pub returns-clause-read : goal.returns-clause-read
returns-clause-read c = read_says c.args.bytes.now c.in_ok-tasks.tasks c.in_ok-tasks.ensures
