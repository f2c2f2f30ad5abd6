use Rattle.std.proofs.Common.{rules}
use Rattle.drt_evidence.proofs.Parts.{two_first, two_second, two_read}
use Rattle.drt_evidence.proofs.Records.{fixed_states_parts}
use Rattle.drt_evidence.proofs.reading.evidences.read_fixed_states.Goals as goal

pub returns-in_err-tails-clause-stops : goal.returns-in_err-tails-clause-stops
returns-in_err-tails-clause-stops c = let h = two_first fixed_states_parts c.in_err-tails.ensures.stops in search rules

pub returns-in_err-searches-clause-stops : goal.returns-in_err-searches-clause-stops
returns-in_err-searches-clause-stops c = let h = two_second fixed_states_parts c.in_ok-tails.ensures.read c.in_err-searches.ensures.stops in search rules

pub returns-clause-read : goal.returns-clause-read
returns-clause-read c = two_read fixed_states_parts c.in_ok-tails.ensures.read c.in_ok-searches.ensures.read
