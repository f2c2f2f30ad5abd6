use Rattle.std.proofs.Common.{refl, sym, subst}
use Rattle.std.specs.Prelude.{codes}
use Rattle.drt_file.specs.trusted.Canonical.{written_line}
use Rattle.drt_evidence.specs.Blocks.{ReadsBlock}
use Rattle.drt_evidence.specs.LineForms.{AreItemsCounted}
use Rattle.drt_claims.specs.Ranges.{IsInRangeRelease}
use Rattle.drt_evidence.specs.Some.{some_release}
use Rattle.drt_evidence.specs.Text.{release_line}
use Rattle.drt_evidence.proofs.Blocks.{counted_read}
use Rattle.drt_evidence.proofs.Leaves.{plain_word}
use Rattle.drt_responses.specs.Rows.{releases_block}
use Rattle.drt_responses.proofs.Stopping.{count_stop, counted_stop, passed_stop}
use Rattle.drt_responses.proofs.reading.blocks.read_releases.Goals as goal

pub read_count-requires : goal.read_count-requires
read_count-requires c = plain_word (codes "releases") refl

pub returns-in_err-count-clause-stops : goal.returns-in_err-count-clause-stops
returns-in_err-count-clause-stops c =
    passed_stop c.from_residual.result c.from_residual.ensures.1
    (count_stop (λ r. written_line (release_line r)) IsInRangeRelease (codes "releases") some_release.0 some_release.1 c.in_err-count.ensures.stops)

pub returns-in_err-releases-clause-stops : goal.returns-in_err-releases-clause-stops
returns-in_err-releases-clause-stops c =
    passed_stop c.from_residual-in_err-releases.result c.from_residual-in_err-releases.ensures.1
    (counted_stop (λ r. written_line (release_line r)) IsInRangeRelease (codes "releases") c.in_ok-count.ensures.read c.in_err-releases.ensures.stops)

pub returns-clause-read : goal.returns-clause-read
returns-clause-read c =
    let h = counted_read (λ r. written_line (release_line r)) IsInRangeRelease (codes "releases") c.in_ok-count.ensures.read c.in_ok-releases.ensures.read in
    subst (λ rs. ReadsBlock releases_block (AreItemsCounted IsInRangeRelease) c.args.text.now.rest.now rs c.read_each_release.new.text.rest.now) (sym c.from_vec.ensures) h
