use Rattle.drt_evidence.proofs.Leaves.{line_left, line_taken, none_taken}
use Rattle.drt_evidence.proofs.Plain.{numbers_kind}
use Rattle.drt_evidence.proofs.reading.forms.read_numbers.Goals as goal

pub returns-in_err-line-clause-stops : goal.returns-in_err-line-clause-stops
returns-in_err-line-clause-stops c = none_taken (numbers_kind c.args.word.now c.requires) c.args.text.now.rest.now c.in_err-line.field-0.0 c.from_residual.result
    c.from_residual.ensures.1 c.in_err-line.ensures

pub returns-clause-read : goal.returns-clause-read
returns-clause-read c =
    line_taken (numbers_kind c.args.word.now c.requires) c.args.text.now.rest.now c.in_ok-line.line.now c.in_ok-line.others.now c.taken.new.text.rest.now c.in_ok-found.found c.taken.result
    c.in_ok-line.ensures c.in_ok-found.ensures c.taken.ensures.read

pub returns-clause-stops : goal.returns-clause-stops
returns-clause-stops c =
    line_left (numbers_kind c.args.word.now c.requires) c.args.text.now.rest.now c.in_ok-line.line.now c.in_ok-line.others.now c.in_ok-found.found c.taken.result
    c.in_ok-line.ensures c.in_ok-found.ensures c.taken.ensures.stops
