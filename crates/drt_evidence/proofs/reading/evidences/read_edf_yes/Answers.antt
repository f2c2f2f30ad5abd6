use Rattle.std.proofs.Common.{rules}
use Rattle.drt_evidence.proofs.Parts.{two_first, two_second, two_read}
use Rattle.drt_evidence.proofs.Records.{edf_yes_parts}
use Rattle.drt_evidence.proofs.reading.evidences.read_edf_yes.Goals as goal

pub returns-in_err-ratios-clause-stops : goal.returns-in_err-ratios-clause-stops
returns-in_err-ratios-clause-stops c = let h = two_first edf_yes_parts c.in_err-ratios.ensures.stops in search rules

pub returns-in_err-fronts-clause-stops : goal.returns-in_err-fronts-clause-stops
returns-in_err-fronts-clause-stops c = let h = two_second edf_yes_parts c.in_ok-ratios.ensures.read c.in_err-fronts.ensures.stops in search rules

pub returns-clause-read : goal.returns-clause-read
returns-clause-read c = two_read edf_yes_parts c.in_ok-ratios.ensures.read c.in_ok-fronts.ensures.read
