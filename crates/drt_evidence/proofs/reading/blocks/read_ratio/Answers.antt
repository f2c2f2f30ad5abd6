use Rattle.std.proofs.Common.{rules, refl}
use Rattle.std.specs.Prelude.{codes}
use Rattle.drt_evidence.proofs.Leaves.{plain_word}
use Rattle.drt_evidence.proofs.Parts.{two_first, two_second, two_read}
use Rattle.drt_evidence.proofs.Records.{ratio_parts, ratio_rest_parts}
use Rattle.drt_evidence.proofs.reading.blocks.read_ratio.Goals as goal

pub read_numbers-requires : goal.read_numbers-requires
read_numbers-requires c = plain_word (codes "cycle") refl

pub returns-in_err-ratio-clause-stops : goal.returns-in_err-ratio-clause-stops
returns-in_err-ratio-clause-stops c = let h = two_first ratio_parts c.in_err-ratio.ensures.stops in search rules

pub returns-in_err-cycle-clause-stops : goal.returns-in_err-cycle-clause-stops
returns-in_err-cycle-clause-stops c = let h = two_second ratio_parts c.in_ok-ratio.ensures.read (two_first ratio_rest_parts c.in_err-cycle.ensures.stops) in search rules

pub returns-in_err-potentials-clause-stops : goal.returns-in_err-potentials-clause-stops
returns-in_err-potentials-clause-stops c =
    let h = two_second ratio_parts c.in_ok-ratio.ensures.read (two_second ratio_rest_parts c.in_ok-cycle.ensures.read c.in_err-potentials.ensures.stops) in search rules

pub returns-clause-read : goal.returns-clause-read
returns-clause-read c = two_read ratio_parts c.in_ok-ratio.ensures.read (two_read ratio_rest_parts c.in_ok-cycle.ensures.read c.in_ok-potentials.ensures.read)
