use Rattle.std.proofs.Common.{subst, sym}
use Rattle.drt_responses.specs.Reading.{IsTextCause}
use Rattle.drt_responses.proofs.Whole.{left_within, stop_cause, stop_here, stopped_none}
use Rattle.drt_responses.proofs.reading.whole.cause_of.Goals as goal

pub fault-requires-clause-within : goal.fault-requires-clause-within
fault-requires-clause-within c = left_within (stop_here c.requires.stops c.in-Fault.is)

pub returns-in-Fault-clause-fault : goal.returns-in-Fault-clause-fault
returns-in-Fault-clause-fault c =
    subst (IsTextCause c.args.bytes.now) (sym c.fault.ensures) (stop_cause c.args.bytes.now c.in-Fault.left c.in-Fault.missing (stop_here c.requires.stops c.in-Fault.is))

pub returns-in-Fault-clause-none : goal.returns-in-Fault-clause-none
returns-in-Fault-clause-none c = λ s is. absurd (stopped_none (stop_here c.requires.stops c.in-Fault.is) s is)
