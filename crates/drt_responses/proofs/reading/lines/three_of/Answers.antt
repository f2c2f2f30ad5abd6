use Rattle.std.proofs.Common.{◌≤◌, decimal}
use Rattle.drt_evidence.specs.LineForms.{AreBoth, pair_form}
use Rattle.drt_evidence.proofs.Forms.{bounded_no_space, pair_is, pair_alone, pair_first, pair_second}
use Rattle.drt_responses.proofs.reading.lines.three_of.Goals as goal

pub returns-in_err-rest : goal.returns-in_err-rest
returns-in_err-rest c =
    rw c.from_residual.ensures
    (pair_alone decimal (λ n. n ≤ c.args.first) (pair_form decimal decimal) (AreBoth (λ n. n ≤ c.args.second) (λ n. n ≤ c.args.third))
    (bounded_no_space c.args.first c.ranges.first.fits) c.args.bytes.now c.cut_field.result.0.now
    c.cut_field.ensures.field (rw c.in_err-rest.was at c.cut_field.ensures.rest))

pub returns-in_err-number : goal.returns-in_err-number
returns-in_err-number c =
    rw c.from_residual-in_err-number.ensures
    (pair_first decimal (λ n. n ≤ c.args.first) (pair_form decimal decimal) (AreBoth (λ n. n ≤ c.args.second) (λ n. n ≤ c.args.third))
    (bounded_no_space c.args.first c.ranges.first.fits) c.args.bytes.now c.cut_field.result.0.now c.in_ok-rest.rest.now
    c.cut_field.ensures.field (rw c.in_ok-rest.was at c.cut_field.ensures.rest) c.in_err-number.ensures)

pub returns-in_err-two_of : goal.returns-in_err-two_of
returns-in_err-two_of c =
    rw c.from_residual-in_err-two_of.ensures
    (pair_second decimal (λ n. n ≤ c.args.first) (pair_form decimal decimal) (AreBoth (λ n. n ≤ c.args.second) (λ n. n ≤ c.args.third))
    (bounded_no_space c.args.first c.ranges.first.fits) c.args.bytes.now c.cut_field.result.0.now c.in_ok-rest.rest.now
    c.cut_field.ensures.field (rw c.in_ok-rest.was at c.cut_field.ensures.rest) c.in_err-two_of.ensures)

pub returns : goal.returns
returns c =
    pair_is decimal (λ n. n ≤ c.args.first) (pair_form decimal decimal) (AreBoth (λ n. n ≤ c.args.second) (λ n. n ≤ c.args.third))
    (bounded_no_space c.args.first c.ranges.first.fits) c.args.bytes.now c.cut_field.result.0.now c.in_ok-rest.rest.now
    c.in_ok-number.number c.in_ok-two_of.field-0 c.cut_field.ensures.field (rw c.in_ok-rest.was at c.cut_field.ensures.rest) c.in_ok-number.ensures c.in_ok-two_of.ensures
