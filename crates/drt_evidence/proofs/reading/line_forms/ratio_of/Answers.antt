use Rattle.std.proofs.Common.{refl}
use Rattle.drt_evidence.proofs.Forms.{line_is, line_other, line_broken}
use Rattle.drt_evidence.proofs.Shapes.{parts_are, parts_other, parts_without, ratio_shape}
use Rattle.drt_evidence.proofs.reading.line_forms.ratio_of.Goals as goal

pub returns-in_err-behind_word : goal.returns-in_err-behind_word
returns-in_err-behind_word c = rw c.from_residual.ensures (line_other ratio_shape c.args.line.now c.in_err-behind_word.ensures)

pub returns-in_err-num : goal.returns-in_err-num
returns-in_err-num c =
    rw c.from_residual-in_err-num.ensures
    (line_broken ratio_shape c.args.line.now c.in_ok-behind_word.field-0.now c.in_ok-behind_word.ensures (parts_other c.in_ok-behind_word.field-0.now c.in_err-num.ensures))

pub returns-then-den-eq0 : goal.returns-then-den-eq0
returns-then-den-eq0 c =
    line_broken ratio_shape c.args.line.now c.in_ok-behind_word.field-0.now c.in_ok-behind_word.ensures
    (parts_without c.in_ok-behind_word.field-0.now (c.in_ok-num.num, c.in_ok-num.den) c.if-den-eq0.true c.in_ok-num.ensures)

pub returns : goal.returns
returns c =
    line_is ratio_shape c.args.line.now c.in_ok-behind_word.field-0.now (c.in_ok-num.num, c.in_ok-num.den) (record { num = c.in_ok-num.num; den = c.in_ok-num.den })
    c.in_ok-behind_word.ensures (parts_are c.in_ok-behind_word.field-0.now (c.in_ok-num.num, c.in_ok-num.den) c.if-den-eq0.false c.in_ok-num.ensures) refl
