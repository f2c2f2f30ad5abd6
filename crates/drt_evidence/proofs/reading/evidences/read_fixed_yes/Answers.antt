use Rattle.std.proofs.Common.{rules}
use Rattle.drt_evidence.proofs.Parts.{two_first, two_second, two_read}
use Rattle.drt_evidence.proofs.Records.{fixed_yes_parts}
use Rattle.drt_evidence.proofs.reading.evidences.read_fixed_yes.Goals as goal

pub returns-in_err-trees-clause-stops : goal.returns-in_err-trees-clause-stops
returns-in_err-trees-clause-stops c = let h = two_first fixed_yes_parts c.in_err-trees.ensures.stops in search rules

pub returns-in_err-proofs-clause-stops : goal.returns-in_err-proofs-clause-stops
returns-in_err-proofs-clause-stops c = let h = two_second fixed_yes_parts c.in_ok-trees.ensures.read c.in_err-proofs.ensures.stops in search rules

pub returns-clause-read : goal.returns-clause-read
returns-clause-read c = two_read fixed_yes_parts c.in_ok-trees.ensures.read c.in_ok-proofs.ensures.read
