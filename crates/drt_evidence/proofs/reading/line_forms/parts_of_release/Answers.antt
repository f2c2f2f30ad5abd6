use Rattle.std.proofs.Common.{decimal}
use Rattle.drt_evidence.specs.LineForms.{AreBoth, pair_form}
use Rattle.drt_claims.specs.Ranges.{IsNumber, IsTick}
use Rattle.drt_evidence.proofs.Forms.{number_no_space, pair_is, pair_alone, pair_first, pair_second}
use Rattle.drt_evidence.proofs.reading.line_forms.parts_of_release.Goals as goal

pub returns-in_err-rest : goal.returns-in_err-rest
returns-in_err-rest c =
    rw c.from_residual.ensures
    (pair_alone decimal IsNumber (pair_form decimal (pair_form decimal decimal)) (AreBoth IsNumber (AreBoth IsTick IsTick)) number_no_space c.args.bytes.now c.cut_field.result.0.now
    c.cut_field.ensures.field (rw c.in_err-rest.was at c.cut_field.ensures.rest))

pub returns-in_err-task : goal.returns-in_err-task
returns-in_err-task c =
    rw c.from_residual-in_err-task.ensures
    (pair_first decimal IsNumber (pair_form decimal (pair_form decimal decimal)) (AreBoth IsNumber (AreBoth IsTick IsTick)) number_no_space c.args.bytes.now
    c.cut_field.result.0.now c.in_ok-rest.rest.now
    c.cut_field.ensures.field (rw c.in_ok-rest.was at c.cut_field.ensures.rest) c.in_err-task.ensures)

pub returns-in_err-three_of : goal.returns-in_err-three_of
returns-in_err-three_of c =
    rw c.from_residual-in_err-three_of.ensures
    (pair_second decimal IsNumber (pair_form decimal (pair_form decimal decimal)) (AreBoth IsNumber (AreBoth IsTick IsTick)) number_no_space c.args.bytes.now
    c.cut_field.result.0.now c.in_ok-rest.rest.now
    c.cut_field.ensures.field (rw c.in_ok-rest.was at c.cut_field.ensures.rest) c.in_err-three_of.ensures)

pub returns : goal.returns
returns c =
    pair_is decimal IsNumber (pair_form decimal (pair_form decimal decimal)) (AreBoth IsNumber (AreBoth IsTick IsTick)) number_no_space c.args.bytes.now c.cut_field.result.0.now c.in_ok-rest.rest.now
    c.in_ok-task.task c.in_ok-three_of.field-0 c.cut_field.ensures.field (rw c.in_ok-rest.was at c.cut_field.ensures.rest) c.in_ok-task.ensures c.in_ok-three_of.ensures
