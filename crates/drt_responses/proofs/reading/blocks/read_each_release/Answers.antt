use Rattle.std.proofs.Common.{sym, subst, ◌+◌}
use Rattle.drt_file.specs.trusted.Canonical.{written_line}
use Rattle.drt_evidence.specs.Blocks.{AreSoMany, ReadsBlock, in_turn}
use Rattle.drt_claims.specs.Ranges.{IsInRangeRelease}
use Rattle.drt_evidence.specs.Some.{some_release}
use Rattle.drt_evidence.specs.Text.{release_line}
use Rattle.drt_evidence.proofs.Blocks.{each_more}
use Rattle.drt_responses.proofs.Stopping.{each_stop, passed_stop}
use Rattle.drt_responses.proofs.reading.blocks.read_each_release.Goals as goal

pub returns-in_err-release-clause-stops : goal.returns-in_err-release-clause-stops
returns-in_err-release-clause-stops c =
    passed_stop c.from_residual.result c.from_residual.ensures.1 (each_stop c.args.count c.loop-test.true some_release.0 some_release.1 c.loop.invariant c.in_err-release.ensures.stops)

pub loop-preserved : goal.loop-preserved
loop-preserved c =
    let h = each_more c.loop.invariant c.in_ok-release.ensures.read in
    subst (λ xs. ReadsBlock (in_turn (λ r. written_line (release_line r))) (AreSoMany (c.loop.counter + 1) IsInRangeRelease) c.args.text.now.rest.now xs c.read_release.new.text.rest.now)
    (sym c.in_ok-push.ensures.items) h
