use Rattle.std.proofs.Common.{refl}
use Rattle.drt_evidence.proofs.Forms.{line_is, line_other, line_broken}
use Rattle.drt_evidence.proofs.Shapes.{pair_shape}
use Rattle.drt_evidence.proofs.reading.line_forms.pair_of.Goals as goal

pub returns-in_err-behind_word : goal.returns-in_err-behind_word
returns-in_err-behind_word c = rw c.from_residual.ensures (line_other pair_shape c.args.line.now c.in_err-behind_word.ensures)

pub returns-in_err-left : goal.returns-in_err-left
returns-in_err-left c = rw c.from_residual-in_err-left.ensures (line_broken pair_shape c.args.line.now c.in_ok-behind_word.field-0.now c.in_ok-behind_word.ensures c.in_err-left.ensures)

pub returns : goal.returns
returns c =
    line_is pair_shape c.args.line.now c.in_ok-behind_word.field-0.now (c.in_ok-left.left, c.in_ok-left.right)
    (record { left = c.in_ok-left.left; right = c.in_ok-left.right }) c.in_ok-behind_word.ensures c.in_ok-left.ensures refl
