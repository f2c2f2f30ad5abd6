use Rattle.drt_evidence.proofs.Cuts.{one_is, one_other}
use Rattle.drt_evidence.proofs.reading.cuts.cut_one.Goals as goal

pub returns-in_err-value : goal.returns-in_err-value
returns-in_err-value g c =
    rw c.from_residual-in_err-value.ensures
    (one_other g.F.Field.field g.F.Field.is_stated c.requires c.args.rest c.cut_field.result.1 c.in_ok-rest.field-0 c.cut_field.result.0.now
    c.in_ok-rest.was c.cut_field.ensures.field c.cut_field.ensures.rest c.in_err-value.ensures)

pub returns : goal.returns
returns g c =
    one_is g.F.Field.field g.F.Field.is_stated c.requires c.args.rest c.cut_field.result.1 c.in_ok-rest.field-0 c.cut_field.result.0.now c.in_ok-value.value
    c.in_ok-rest.was c.cut_field.ensures.field c.cut_field.ensures.rest c.in_ok-value.ensures
