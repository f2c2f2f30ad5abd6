use Rattle.std.proofs.Common.{rules}
use Rattle.drt_evidence.proofs.Records.{kind_stop, body_stop, last_stop, evidence_read}
use Rattle.drt_evidence.proofs.reading.evidences.read_evidence.Goals as goal

pub returns-in_err-kind-clause-stops : goal.returns-in_err-kind-clause-stops
returns-in_err-kind-clause-stops c = let h = kind_stop c.in_err-kind.ensures.stops in search rules

pub returns-in_err-evidence-clause-stops : goal.returns-in_err-evidence-clause-stops
returns-in_err-evidence-clause-stops c = let h = body_stop c.in_ok-kind.ensures.read c.in_err-evidence.ensures.stops in search rules

pub returns-in_err-read_last-clause-stops : goal.returns-in_err-read_last-clause-stops
returns-in_err-read_last-clause-stops c = let h = last_stop c.in_ok-kind.ensures.read c.in_ok-evidence.ensures.read c.in_err-read_last.ensures.stops in search rules

pub returns-clause-read : goal.returns-clause-read
returns-clause-read c = evidence_read c.in_ok-kind.ensures.read c.in_ok-evidence.ensures.read c.in_ok-read_last.ensures.read
