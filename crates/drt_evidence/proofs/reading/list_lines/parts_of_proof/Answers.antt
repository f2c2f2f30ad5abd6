use Rattle.std.proofs.Common.{decimal}
use Rattle.drt_evidence.specs.LineForms.{AreBoth, AreItemsCounted, list_form, pair_form}
use Rattle.drt_claims.specs.Ranges.{IsInRangeItem, IsNumber}
use Rattle.drt_evidence.specs.Text.{item_field}
use Rattle.drt_evidence.proofs.Forms.{rest_is, rest_none, rest_broken}
use Rattle.drt_evidence.proofs.reading.list_lines.parts_of_proof.Goals as goal

pub returns-in-None : goal.returns-in-None
returns-in-None c = rest_none decimal IsNumber (pair_form decimal (list_form item_field)) (AreBoth IsNumber (AreItemsCounted IsInRangeItem)) c.args.bytes.now c.in-None.ensures

pub returns-in-Some-2 : goal.returns-in-Some-2
returns-in-Some-2 c =
    rest_is decimal IsNumber (pair_form decimal (list_form item_field)) (AreBoth IsNumber (AreItemsCounted IsInRangeItem)) c.args.bytes.now c.in-Some.parts.1.now
    c.in-Some.parts.0 (c.in-Some-2.others.0, c.in-Some-2.others.1.items)
    c.in-Some.ensures (rw c.in-Some-2.is at c.in_ok-others.ensures)

pub returns-in-None-2 : goal.returns-in-None-2
returns-in-None-2 c =
    rest_broken decimal IsNumber (pair_form decimal (list_form item_field)) (AreBoth IsNumber (AreItemsCounted IsInRangeItem)) c.args.bytes.now c.in-Some.parts.1.now c.in-Some.parts.0
    c.in-Some.ensures (rw c.in-None-2.is at c.in_ok-others.ensures)
