use Rattle.drt_evidence.specs.Cuts.{left}
use Rattle.drt_evidence.proofs.Claims.{broken_at, end_none, goes_on_at, passes_at, splits_at}
use Rattle.drt_evidence.proofs.Forms.{number_no_space}
use Rattle.drt_evidence.proofs.Numerals.{item_no_space}
use Rattle.drt_evidence.proofs.reading.state_lines.end_of.Goals as goal

pub cut_one-requires : goal.cut_one-requires
cut_one-requires c = item_no_space

pub values_behind-requires : goal.values_behind-requires
values_behind-requires c = number_no_space

pub returns-in-Some-Pass-None : goal.returns-in-Some-Pass-None
returns-in-Some-Pass-None c =
    let i = c.in-Some-Pass-None in
    passes_at (left c.args.rest) i.field-0-0 i.field-0-1 i.time i.ensures i.field-0-0-is i.field-0-1-is

pub returns-in-Some-Pass-Some : goal.returns-in-Some-Pass-Some
returns-in-Some-Pass-Some c =
    let i = c.in-Some-Pass-Some in
    goes_on_at (left c.args.rest) i.field-0-0 i.field-0-1 i.field-0-0-0 i.field-0-1-0 i.ensures i.field-0-0-is i.field-0-1-is

pub returns-in-Some : goal.returns-in-Some
returns-in-Some c =
    let i = c.in-Some-Split-default in
    splits_at (left c.args.rest) (left i.others) i.field-0-0 i.place c.in-Some.children.items c.from_vec.result i.ensures i.field-0-0-is
    (rw c.in-Some.is at c.in_ok-children-in-Some-Split-default.ensures) c.from_vec.ensures

pub returns-in-None-2 : goal.returns-in-None-2
returns-in-None-2 c =
    let i = c.in-Some-Split-default in
    broken_at (left c.args.rest) (left i.others) i.field-0-0 i.place i.ensures i.field-0-0-is (rw c.in-None-2.is at c.in_ok-children-in-Some-Split-default.ensures)

pub returns-in-None : goal.returns-in-None
returns-in-None c = end_none (left c.args.rest) c.in-None.ensures
