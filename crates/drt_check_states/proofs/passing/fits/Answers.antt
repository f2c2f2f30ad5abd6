use Rattle.std.proofs.Common.{arith, refl, subst, sym}
use Rattle.drt_states.specs.declared.claims.TailClaim.{TailClaim}
use Rattle.drt_check_states.specs.Crests.{IsCrest}
use Rattle.drt_check_states.specs.Curves.{HasRisingCurves}
use Rattle.drt_check_states.proofs.Sums.{asked_end, asked_more}
use Rattle.drt_check_states.proofs.passing.fits.Goals as goal

pub asked_at-asked-requires-clause-rising : goal.asked_at-asked-requires-clause-rising
asked_at-asked-requires-clause-rising c = subst HasRisingCurves (sym c.index-tails-i.is) (c.requires.rising c.loop-i.i c.index-tails-i.result c.loop-i-test.true)

pub asked_at-asked-requires-clause-crest : goal.asked_at-asked-requires-clause-crest
asked_at-asked-requires-clause-crest c =
    subst (λ (x : TailClaim). IsCrest x c.crest_at-crest.result.now) (sym c.index-tails-i.is) (c.crest_at-crest.ensures c.index-tails-i.result)

pub returns-then-left-asked : goal.returns-then-left-asked
returns-then-left-asked c =
    let more = asked_more c.args.tails.now c.args.entries.now c.args.t c.loop-i.i c.index-tails-i.result c.loop-i-test.true c.index-tails-i.is in
    (λ e. absurd (cc), λ fits. absurd (omega (arith, more, fits, c.asked_at-asked.ensures, c.if-left-asked.true, c.loop-i.invariant)))

pub loop-i-preserved : goal.loop-i-preserved
loop-i-preserved c =
    let more = asked_more c.args.tails.now c.args.entries.now c.args.t c.loop-i.i c.index-tails-i.result c.loop-i-test.true c.index-tails-i.is in
    omega (arith, more, c.asked_at-asked.ensures, c.if-left-asked.false, c.loop-i.invariant)

pub returns : goal.returns
returns c = let end = asked_end c.args.tails.now c.args.entries.now c.args.t c.loop-i.i c.loop-i-test.false in (λ e. omega (arith, end, c.loop-i.invariant), λ fits. refl)
