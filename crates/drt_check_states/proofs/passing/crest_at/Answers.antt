use Rattle.std.proofs.Common.{arith, subst, sym}
use Rattle.drt_check_states.specs.Crests.{IsCrest}
use Rattle.drt_check_states.proofs.Zips.{zip_at, zip_long}
use Rattle.drt_check_states.proofs.passing.crest_at.Goals as goal

pub bounds-crests-place : goal.bounds-crests-place
bounds-crests-place c = let l = zip_long IsCrest c.args.tails.now c.args.crests.now c.requires.crests in omega (arith, l, c.requires.place)

pub returns : goal.returns
returns c = λ d.
    let is = zip_at IsCrest c.args.tails.now c.args.crests.now c.args.place d c.index-crests-place.result c.requires.crests c.requires.place in
    subst (IsCrest _) (sym c.as_slice.ensures) (subst (IsCrest _) (sym c.index-crests-place.is) is)
