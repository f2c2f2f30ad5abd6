use Rattle.std.proofs.Common.{rules}
use Rattle.drt_evidence.proofs.Parts.{two_first, two_second, two_read}
use Rattle.drt_evidence.proofs.Records.{head_parts}
use Rattle.drt_evidence.proofs.reading.dossiers.read_head.Goals as goal

pub returns-in_err-read_first-clause-stops : goal.returns-in_err-read_first-clause-stops
returns-in_err-read_first-clause-stops c = let h = two_first head_parts c.in_err-read_first.ensures.stops in search rules

pub returns-in_err-policy-clause-stops : goal.returns-in_err-policy-clause-stops
returns-in_err-policy-clause-stops c = let h = two_second head_parts c.in_ok-read_first.ensures.read c.in_err-policy.ensures.stops in search rules

pub returns-clause-read : goal.returns-clause-read
returns-clause-read c = two_read head_parts c.in_ok-read_first.ensures.read c.in_ok-policy.ensures.read
