use Rattle.std.proofs.lemmas.Result.{err_from_is_err_and}
use Rattle.drt_file.proofs.Exact.{cause_of}
use Rattle.drt_file.proofs.Whole.{read_says}
use Rattle.drt_file.proofs.reading.read.Goals as goal

pub returns-in_err-version-clause-fault : goal.returns-in_err-version-clause-fault
returns-in_err-version-clause-fault c =
    let p = err_from_is_err_and c.from_residual.result c.from_residual.ensures.1 in
    rw (p.1, p.2) (cause_of c.args.bytes.now c.in_err-version.field-0.0 c.in_err-version.ensures)

pub invariant_of-result : goal.invariant_of-result
invariant_of-result c = (read_says c.args.bytes.now (record { version = c.in_ok-version.version; tasks = c.in_ok-version.tasks }) c.in_ok-version.ensures).limits

pub returns-clause-read : goal.returns-clause-read
returns-clause-read c = read_says c.args.bytes.now (record { version = c.in_ok-version.version; tasks = c.in_ok-version.tasks }) c.in_ok-version.ensures
