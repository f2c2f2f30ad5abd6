use Rattle.drt_file.specs.trusted.Canonical.{written_line}
use Rattle.drt_evidence.specs.Blocks.{AreSoMany, ReadsBlock, in_turn}
use Rattle.drt_claims.specs.Ranges.{IsInRangeRelease}
use Rattle.drt_evidence.specs.Text.{release_line}
use Rattle.drt_responses.proofs.reading.blocks.read_each_release.Given as goal

abbrev pub invariant-loop : goal.invariant-loop
invariant-loop l = ReadsBlock (in_turn (λ r. written_line (release_line r))) (AreSoMany l.counter IsInRangeRelease) l.initial.text.rest.now l.releases.items l.text.rest.now
