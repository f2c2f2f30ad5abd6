use Rattle.drt_evidence.proofs.Forms.{line_found, line_other}
use Rattle.drt_evidence.proofs.Shapes.{count_shape}
use Rattle.drt_responses.proofs.reading.lines.count_of.Goals as goal

pub returns-in_err-behind_word : goal.returns-in_err-behind_word
returns-in_err-behind_word c = rw c.from_residual.ensures (line_other (count_shape c.args.word.now) c.args.line.now c.in_err-behind_word.ensures)

pub returns : goal.returns
returns c = line_found (count_shape c.args.word.now) c.args.line.now c.in_ok-behind_word.field-0.now c.index_of.result c.in_ok-behind_word.ensures c.index_of.ensures
