use Rattle.std.proofs.Common.{◌++◌, [], ◌∷◌, arith, subst, sym}
use Rattle.drt_evidence.specs.Blocks.{ReadsBlock}
use Rattle.drt_evidence.proofs.Blocks.{within}
use Rattle.drt_responses.specs.Ranges.{AreResponsesInRange}
use Rattle.drt_responses.specs.Rows.{heading_line, rows_block}
use Rattle.drt_responses.proofs.Rows.{RowsAt, heading_closes, heading_opens, heading_read, heading_stop, line_within, releases_stop, response_read, rows_read, rows_start}
use Rattle.drt_responses.proofs.Stopping.{passed_stop}
use Rattle.drt_responses.proofs.reading.blocks.read_rows.Goals as goal

pub rows-init : goal.rows-init
rows-init c = subst (λ xs. RowsAt xs c.args.text.now.rest.now c.args.text.now.rest.now) (sym c.new-responses.ensures.items) (rows_start c.args.text.now.rest.now)

pub returns-in_err-opening-clause-stops : goal.returns-in_err-opening-clause-stops
returns-in_err-opening-clause-stops c = passed_stop c.from_residual.result c.from_residual.ensures.1 (heading_stop c.rows.invariant c.in_err-opening.ensures.stops)

pub returns-in_err-releases-clause-stops : goal.returns-in_err-releases-clause-stops
returns-in_err-releases-clause-stops c =
    passed_stop c.from_residual-in_err-releases.result c.from_residual-in_err-releases.ensures.1
    (releases_stop (heading_opens c.in-Opens.is (heading_read c.rows.invariant c.in_ok-opening.ensures.read)) c.in_err-releases.ensures.stops)

pub rows-smaller : goal.rows-smaller
rows-smaller c =
    let first = line_within heading_line c.in_ok-opening.ensures.read in
    let more = within c.in_ok-releases.ensures.read in
    omega (arith, first, more)

pub rows-preserved : goal.rows-preserved
rows-preserved c =
    subst (λ xs. RowsAt xs c.args.text.now.rest.now c.read_releases.new.text.rest.now) (sym c.in_ok-push.ensures.items)
    (response_read (heading_opens c.in-Opens.is (heading_read c.rows.invariant c.in_ok-opening.ensures.read)) c.in_ok-releases.ensures.read)

pub returns-clause-read : goal.returns-clause-read
returns-clause-read c =
    subst (λ rs. ReadsBlock rows_block AreResponsesInRange c.args.text.now.rest.now rs c.read_heading.new.text.rest.now) (sym c.from_vec.ensures)
    (rows_read (heading_opens (heading_closes c.in_ok-opening.field-0 c.in_default.not-Opens) (heading_read c.rows.invariant c.in_ok-opening.ensures.read)))
