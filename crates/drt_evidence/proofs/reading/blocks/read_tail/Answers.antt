use Rattle.std.proofs.Common.{rules, refl}
use Rattle.std.specs.Prelude.{codes}
use Rattle.drt_evidence.proofs.Leaves.{plain_word}
use Rattle.drt_evidence.proofs.Parts.{one_stop, one_read}
use Rattle.drt_evidence.proofs.Records.{tail_part}
use Rattle.drt_evidence.proofs.reading.blocks.read_tail.Goals as goal

pub read_counted-requires : goal.read_counted-requires
read_counted-requires c = plain_word (codes "tail") refl

pub returns-in_err-curves-clause-stops : goal.returns-in_err-curves-clause-stops
returns-in_err-curves-clause-stops c = let h = one_stop tail_part c.in_err-curves.ensures.stops in search rules

pub returns-clause-read : goal.returns-clause-read
returns-clause-read c = one_read tail_part c.in_ok-curves.ensures.read
