use Rattle.drt_evidence.proofs.Forms.{line_is, line_other, line_broken, number_no_space}
use Rattle.drt_evidence.proofs.Shapes.{numbers_shape}
use Rattle.drt_evidence.proofs.reading.list_lines.numbers_of.Goals as goal

pub list_of-requires : goal.list_of-requires
list_of-requires c = number_no_space

pub returns-in-None : goal.returns-in-None
returns-in-None c = line_other (numbers_shape c.args.word.now) c.args.line.now c.in-None.ensures

pub returns-in-Some-2 : goal.returns-in-Some-2
returns-in-Some-2 c =
    line_is (numbers_shape c.args.word.now) c.args.line.now c.in-Some.rest.now c.in-Some-2.found.items c.from_vec.result c.in-Some.ensures
    (rw c.in-Some-2.is at c.in_ok-found.ensures) c.from_vec.ensures

pub returns-in-None-2 : goal.returns-in-None-2
returns-in-None-2 c = line_broken (numbers_shape c.args.word.now) c.args.line.now c.in-Some.rest.now c.in-Some.ensures (rw c.in-None-2.is at c.in_ok-found.ensures)
