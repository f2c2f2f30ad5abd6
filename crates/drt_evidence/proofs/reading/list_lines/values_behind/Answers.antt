use Rattle.drt_evidence.specs.Cuts.{left}
use Rattle.drt_evidence.proofs.Forms.{loop_more, loop_broken, loop_done}
use Rattle.drt_evidence.proofs.reading.list_lines.values_behind.Goals as goal

pub returns-in-None : goal.returns-in-None
returns-in-None g c =
    loop_broken g.F.Field.field g.F.Field.is_stated c.requires (left c.args.rest) c.cut_field.result.0.now c.fields.rest c.cut_field.result.1 c.in-Some.bytes c.fields.found.items
    c.fields.invariant c.in-Some.is c.cut_field.ensures.field c.cut_field.ensures.rest c.in-None.ensures

pub fields-preserved : goal.fields-preserved
fields-preserved g c =
    loop_more g.F.Field.field g.F.Field.is_stated c.requires (left c.args.rest) c.cut_field.result.0.now c.fields.rest c.cut_field.result.1 c.in-Some.bytes
    c.fields.found.items c.push.new.self.items c.in-Some-of.value
    c.fields.invariant c.in-Some.is c.cut_field.ensures.field c.cut_field.ensures.rest c.in-Some-of.ensures c.in_ok-push-in-Some-of.ensures.items

pub returns : goal.returns
returns g c = loop_done g.F.Field.field g.F.Field.is_stated (left c.args.rest) c.fields.rest c.fields.found.items c.fields.invariant c.in_default.is
