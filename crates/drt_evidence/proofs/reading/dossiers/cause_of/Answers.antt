use Rattle.std.proofs.Common.{subst, sym}
use Rattle.drt_evidence.specs.Reading.{IsDossierCause}
use Rattle.drt_evidence.proofs.Dossiers.{left_within, missing_cause, stop_here, stopped_none, unfit_cause}
use Rattle.drt_evidence.proofs.reading.dossiers.cause_of.Goals as goal

pub fault-requires-clause-within : goal.fault-requires-clause-within
fault-requires-clause-within c = left_within (stop_here c.requires.stops c.in-Fault.is c.if-missing.true)

pub fault-requires-else-missing-clause-within : goal.fault-requires-else-missing-clause-within
fault-requires-else-missing-clause-within c = left_within (stop_here c.requires.stops c.in-Fault.is c.if-missing.false)

pub returns-then-missing-clause-fault : goal.returns-then-missing-clause-fault
returns-then-missing-clause-fault c =
    subst (IsDossierCause c.args.bytes.now) (sym c.fault.ensures) (missing_cause c.args.bytes.now c.in-Fault.left (stop_here c.requires.stops c.in-Fault.is c.if-missing.true))

pub returns-then-missing-clause-none : goal.returns-then-missing-clause-none
returns-then-missing-clause-none c = λ s is. absurd (stopped_none (stop_here c.requires.stops c.in-Fault.is c.if-missing.true) s is)

pub returns-else-missing-clause-fault : goal.returns-else-missing-clause-fault
returns-else-missing-clause-fault c =
    subst (IsDossierCause c.args.bytes.now) (sym c.fault-else-missing.ensures) (unfit_cause c.args.bytes.now c.in-Fault.left (stop_here c.requires.stops c.in-Fault.is c.if-missing.false))

pub returns-else-missing-clause-none : goal.returns-else-missing-clause-none
returns-else-missing-clause-none c = λ s is. absurd (stopped_none (stop_here c.requires.stops c.in-Fault.is c.if-missing.false) s is)
