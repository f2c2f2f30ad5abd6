use Rattle.std.proofs.Common.{subst, sym}
use Rattle.drt_pool.specs.Turns.{EachPlace}
use Rattle.drt_shared.specs.Shared.{IsFresh}
use Rattle.drt_shared.proofs.Holds.{new_pass}
use Rattle.drt_shared.proofs.shared.SharedTable.start.Goals as goal

pub returns-clause-passes : goal.returns-clause-passes
returns-clause-passes g c i d lt =
    let fresh = subst (EachPlace (IsFresh c.in_ok-lock.lock.name c.in_ok-lock.lock.fixed)) (sym c.from_vec.ensures) c.deal.ensures.passes in
    new_pass g.L.Label.algebra (record { name = c.in_ok-lock.lock.name; setting = c.in_ok-lock.lock.fixed; passes = c.args.passes }) i _ (fresh i d lt)
