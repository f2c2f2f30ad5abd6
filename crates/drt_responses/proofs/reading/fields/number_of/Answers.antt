use Rattle.std.proofs.Common.{arith}
use Rattle.std.proofs.lemmas.Bool.{both_ways}
use Rattle.drt_responses.proofs.Numbers.{no_numeral, number_is, number_other, numeral_is}
use Rattle.drt_responses.proofs.reading.fields.number_of.Goals as goal

pub returns-then-not-is_numeral : goal.returns-then-not-is_numeral
returns-then-not-is_numeral c = no_numeral c.args.field.now c.args.most (omega (arith, c.ranges.most)) (λ h. both_ways c.is_numeral.result c.if-not-is_numeral.true (c.is_numeral.ensures.1 h))

pub returns-then-n-from : goal.returns-then-n-from
returns-then-n-from c =
    number_is c.args.field.now c.value_of-n.result c.args.most (omega (arith, c.ranges.most)) c.value_of-n.ensures (omega arith)
    (numeral_is c.args.field.now c.value_of-n.result (c.is_numeral.ensures.0 c.if-not-is_numeral.false) c.value_of-n.ensures (omega arith))

pub returns-else-n-from : goal.returns-else-n-from
returns-else-n-from c = number_other c.args.field.now c.value_of-n.result c.args.most (omega (arith, c.ranges.most)) c.value_of-n.ensures (λ le. absurd (omega arith))
