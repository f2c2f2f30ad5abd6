use Rattle.std.specs.Prelude.{codes}
use Rattle.drt_evidence.specs.Text.{word_line}
use Rattle.drt_evidence.proofs.Leaves.{line_left, line_taken, none_taken, word_said}
use Rattle.drt_evidence.proofs.Plain.{last_kind}
use Rattle.drt_evidence.proofs.reading.forms.read_last.Goals as goal

pub returns-in_err-line-clause-stops : goal.returns-in_err-line-clause-stops
returns-in_err-line-clause-stops c = none_taken last_kind c.args.text.now.rest.now c.in_err-line.field-0.0 c.from_residual.result c.from_residual.ensures.1 c.in_err-line.ensures

pub returns-clause-read : goal.returns-clause-read
returns-clause-read c =
    line_taken last_kind c.args.text.now.rest.now c.in_ok-line.line.now c.in_ok-line.others.now c.taken.new.text.rest.now c.then_some.result c.taken.result
    c.in_ok-line.ensures
    (word_said (word_line (codes "close")) c.in_ok-line.line.now c.is_last_line.result c.then_some.result c.is_last_line.ensures c.then_some.ensures) c.taken.ensures.read

pub returns-clause-stops : goal.returns-clause-stops
returns-clause-stops c =
    line_left last_kind c.args.text.now.rest.now c.in_ok-line.line.now c.in_ok-line.others.now c.then_some.result c.taken.result c.in_ok-line.ensures
    (word_said (word_line (codes "close")) c.in_ok-line.line.now c.is_last_line.result c.then_some.result c.is_last_line.ensures c.then_some.ensures) c.taken.ensures.stops
