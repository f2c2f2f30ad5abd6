use Rattle.std.proofs.Common.{rules}
use Rattle.drt_evidence.proofs.Parts.{two_read}
use Rattle.drt_responses.proofs.Rows.{text_parts}
use Rattle.drt_responses.proofs.Stopping.{two_first, two_second}
use Rattle.drt_responses.proofs.reading.whole.read_responses.Goals as goal

pub returns-in_err-read_first-clause-stops : goal.returns-in_err-read_first-clause-stops
returns-in_err-read_first-clause-stops c = let h = two_first text_parts c.in_err-read_first.ensures.stops in search rules

pub returns-in_err-responses-clause-stops : goal.returns-in_err-responses-clause-stops
returns-in_err-responses-clause-stops c = let h = two_second text_parts c.in_ok-read_first.ensures.read c.in_err-responses.ensures.stops in search rules

pub returns-clause-read : goal.returns-clause-read
returns-clause-read c = two_read text_parts c.in_ok-read_first.ensures.read c.in_ok-responses.ensures.read
