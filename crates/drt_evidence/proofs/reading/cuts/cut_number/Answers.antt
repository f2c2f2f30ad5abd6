use Rattle.std.proofs.Common.{decimal, ◌≤◌, arith}
use Rattle.drt_evidence.proofs.Cuts.{one_is, one_other}
use Rattle.drt_evidence.proofs.Forms.{bounded_no_space}
use Rattle.drt_evidence.proofs.reading.cuts.cut_number.Goals as goal

pub returns-in_err-value : goal.returns-in_err-value
returns-in_err-value c =
    rw c.from_residual-in_err-value.ensures
    (one_other decimal (λ n. n ≤ c.args.most) (bounded_no_space c.args.most (omega (arith, c.requires))) c.args.rest c.cut_field.result.1 c.in_ok-rest.field-0 c.cut_field.result.0.now
    c.in_ok-rest.was c.cut_field.ensures.field c.cut_field.ensures.rest c.in_err-value.ensures)

pub returns : goal.returns
returns c =
    one_is decimal (λ n. n ≤ c.args.most) (bounded_no_space c.args.most (omega (arith, c.requires))) c.args.rest c.cut_field.result.1 c.in_ok-rest.field-0 c.cut_field.result.0.now c.in_ok-value.value
    c.in_ok-rest.was c.cut_field.ensures.field c.cut_field.ensures.rest c.in_ok-value.ensures
