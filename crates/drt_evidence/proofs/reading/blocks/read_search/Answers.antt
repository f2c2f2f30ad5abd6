use Rattle.std.proofs.Common.{List, rules, subst, sym}
use Rattle.drt_states.specs.declared.claims.StateClaim.{StateClaim}
use Rattle.drt_file.specs.trusted.Canonical.{written}
use Rattle.drt_evidence.specs.Blocks.{ReadsBlock}
use Rattle.drt_claims.specs.Ranges.{IsInRangeSearch}
use Rattle.drt_evidence.specs.Text.{search_lines}
use Rattle.drt_evidence.proofs.Records.{search_read, search_stopped, search_unopened, search_with}
use Rattle.drt_evidence.proofs.reading.blocks.read_search.Goals as goal

pub returns-in_err-opening-clause-stops : goal.returns-in_err-opening-clause-stops
returns-in_err-opening-clause-stops c = let h = search_unopened c.in_err-opening.ensures.stops in search rules

pub returns-in_err-states-clause-stops : goal.returns-in_err-states-clause-stops
returns-in_err-states-clause-stops c = let h = search_stopped c.in_ok-opening.ensures.read c.in_err-states.ensures.stops in search rules

pub returns-clause-read : goal.returns-clause-read
returns-clause-read c =
    let h = search_read c.in_ok-opening.ensures.read c.in_ok-states.ensures.read in
    subst (λ (xs : List StateClaim). ReadsBlock (λ s. written (search_lines s)) IsInRangeSearch c.args.text.now.rest.now (search_with c.in_ok-opening.opening xs) c.read_each.new.text.rest.now)
    (sym c.from_vec.ensures) h
