use Rattle.std.proofs.Common.{rules, refl}
use Rattle.std.specs.Prelude.{codes}
use Rattle.drt_evidence.proofs.Leaves.{plain_word}
use Rattle.drt_evidence.proofs.Parts.{two_first, two_second, two_read}
use Rattle.drt_evidence.proofs.Records.{release_parts}
use Rattle.drt_evidence.proofs.reading.evidences.read_releases.Goals as goal

pub read_counted-requires : goal.read_counted-requires
read_counted-requires c = plain_word (codes "releases") refl

pub returns-in_err-releases-clause-stops : goal.returns-in_err-releases-clause-stops
returns-in_err-releases-clause-stops c = let h = two_first release_parts c.in_err-releases.ensures.stops in search rules

pub returns-in_err-miss-clause-stops : goal.returns-in_err-miss-clause-stops
returns-in_err-miss-clause-stops c = let h = two_second release_parts c.in_ok-releases.ensures.read c.in_err-miss.ensures.stops in search rules

pub returns-clause-read : goal.returns-clause-read
returns-clause-read c = two_read release_parts c.in_ok-releases.ensures.read c.in_ok-miss.ensures.read
