use Rattle.std.proofs.Common.{decimal}
use Rattle.drt_evidence.specs.LineForms.{IsAny, itself}
use Rattle.drt_claims.specs.Ranges.{IsNumber}
use Rattle.drt_evidence.proofs.Forms.{itself_is, number_no_space, pair_is, pair_alone, pair_first}
use Rattle.drt_evidence.proofs.reading.fields.index_before.Goals as goal

pub returns-in_err-rest : goal.returns-in_err-rest
returns-in_err-rest c =
    rw c.from_residual.ensures
    (pair_alone decimal IsNumber itself IsAny number_no_space c.args.bytes.now c.cut_field.result.0.now c.cut_field.ensures.field (rw c.in_err-rest.was at c.cut_field.ensures.rest))

pub returns-in_err-index_of : goal.returns-in_err-index_of
returns-in_err-index_of c =
    rw c.from_residual-in_err-index_of.ensures
    (pair_first decimal IsNumber itself IsAny number_no_space c.args.bytes.now c.cut_field.result.0.now c.in_ok-rest.rest.now
    c.cut_field.ensures.field (rw c.in_ok-rest.was at c.cut_field.ensures.rest) c.in_err-index_of.ensures)

pub returns : goal.returns
returns c =
    pair_is decimal IsNumber itself IsAny number_no_space c.args.bytes.now c.cut_field.result.0.now c.in_ok-rest.rest.now c.in_ok-index_of.field-0 c.in_ok-rest.rest.now
    c.cut_field.ensures.field (rw c.in_ok-rest.was at c.cut_field.ensures.rest) c.in_ok-index_of.ensures (itself_is c.in_ok-rest.rest.now)
