use Rattle.std.proofs.Common.{◌<◌, arith, length, subst, sym}
use Rattle.std.proofs.lemmas.Grind.{common_steps}
use Rattle.drt_responses.specs.Reading.{IsTextCause}
use Rattle.drt_responses.proofs.Whole.{followed_cause, whole_is, whole_one}
use Rattle.drt_responses.proofs.reading.whole.read.Goals as goal

pub returns-then-is_empty-clause-read : goal.returns-then-is_empty-clause-read
returns-then-is_empty-clause-read c = whole_is c.args.bytes.now c.in-Ok.responses c.read_responses.new.from.rest.now c.in-Ok.ensures.read (grind (arith, common_steps))

pub returns-then-is_empty-clause-found : goal.returns-then-is_empty-clause-found
returns-then-is_empty-clause-found c = λ s is. sym (whole_one c.args.bytes.now c.in-Ok.responses c.read_responses.new.from.rest.now c.in-Ok.ensures.read s is)

pub returns-else-is_empty-clause-found : goal.returns-else-is_empty-clause-found
returns-else-is_empty-clause-found c = λ s is.
    let some : 0 < length c.read_responses.new.from.rest.now = grind (arith, common_steps) in
    absurd ((followed_cause c.args.bytes.now c.in-Ok.responses c.read_responses.new.from.rest.now c.in-Ok.ensures.read some).none s is)

pub returns-else-is_empty-clause-fault : goal.returns-else-is_empty-clause-fault
returns-else-is_empty-clause-fault c =
    let some : 0 < length c.read_responses.new.from.rest.now = grind (arith, common_steps) in
    subst (IsTextCause c.args.bytes.now) (sym c.fault.ensures) (followed_cause c.args.bytes.now c.in-Ok.responses c.read_responses.new.from.rest.now c.in-Ok.ensures.read some)
