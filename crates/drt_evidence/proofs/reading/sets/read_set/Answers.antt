use Rattle.std.proofs.Common.{◌-◌, arith, drop, length, length-drop, subst, sym}
use Rattle.std.proofs.lemmas.List.{take_all}
use Rattle.drt_file.specs.trusted.Canonical.{canonical}
use Rattle.drt_evidence.specs.Blocks.{IsSet, ReadsBlock}
use Rattle.drt_evidence.proofs.Sets.{set_read, set_stopped, fault_above_0, fault_within}
use Rattle.drt_evidence.proofs.reading.sets.read_set.Goals as goal

pub bytes_from-requires : goal.bytes_from-requires
bytes_from-requires c =
    let f = rw c.in-Err-Fault.field-0-is at c.in-Err-Fault.ensures.fault in
    record {
      some = fault_above_0 c.args.text.now.rest.now c.in-Err-Fault.line c.in-Err-Fault.missing f.1;
      there = fault_within c.args.text.now.rest.now
          c.in-Err-Fault.line c.in-Err-Fault.missing f.1;
    }

pub returns-in-Ok-clause-read : goal.returns-in-Ok-clause-read
returns-in-Ok-clause-read c = let h = set_read c.args.text.now.rest.now c.in-Ok.front.set c.in-Ok.front.length c.in-Ok.ensures.read in
    let rest = drop c.in-Ok.front.length c.args.text.now.rest.now in
    subst (λ t. ReadsBlock canonical IsSet c.args.text.now.rest.now c.in-Ok.front.set t)
    (sym (take_all (length c.args.text.now.rest.now - c.in-Ok.front.length) rest (omega (arith, length-drop c.in-Ok.front.length c.args.text.now.rest.now)))) h

pub returns-in-Err-Fault-clause-stops : goal.returns-in-Err-Fault-clause-stops
returns-in-Err-Fault-clause-stops c =
    let f = rw c.in-Err-Fault.field-0-is at c.in-Err-Fault.ensures.fault in
    set_stopped c.args.text.now.rest.now c.in-Err-Fault.line c.bytes_from.result c.in-Err-Fault.missing f.0 f.1 c.bytes_from.ensures
