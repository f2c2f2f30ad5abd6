use Rattle.std.proofs.Common.{arith}
use Rattle.drt_file.proofs.Numbers.{value_none, value_more}
use Rattle.drt_responses.proofs.reading.fields.value_of.Goals as goal
use Rattle.drt_responses.proofs.reading.fields.value_of.Goals.{then-n-gt-BEYOND, else-n-gt-BEYOND}

pub loop-b-init : goal.loop-b-init
loop-b-init c = grind (arith, value_none)

pub loop-b-preserved : goal.loop-b-preserved
loop-b-preserved c =
    let more = value_more c.args.field.now c.loop-b.b-index c.loop-b-test.true in
    elim c.if-n-gt-BEYOND.branch [ then-n-gt-BEYOND w ↦ grind (arith, more) | else-n-gt-BEYOND w ↦ grind (arith, more) ]
