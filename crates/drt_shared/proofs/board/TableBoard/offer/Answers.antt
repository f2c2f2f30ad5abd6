use Rattle.std.proofs.Common.{subst}
use Rattle.drt_table.specs.View.{IsTable}
use Rattle.drt_shared.proofs.Calls.{may_offer, offer_comes, offer_call, has_more}
use Rattle.drt_shared.proofs.board.TableBoard.offer.Goals as goal

pub apply-requires-clause-can : goal.apply-requires-clause-can
apply-requires-clause-can g c κs within =
    let laws = (g.met.L.Label g.world.𝓛 g.world.𝓜 g.world.𝓡 ((λ s x. x), (λ x. x), (λ x. x), λ x. x)).laws in
    may_offer g.L.Label.algebra laws c.args.self.now c.args.worker c.args.holding.now c.requires.expected c.in-Some.h c.in-Some.is c.args.edge c.args.label c.requires.can

pub apply-requires-clause-comes : goal.apply-requires-clause-comes
apply-requires-clause-comes g c κs within =
    let laws = (g.met.L.Label g.world.𝓛 g.world.𝓜 g.world.𝓡 ((λ s x. x), (λ x. x), (λ x. x), λ x. x)).laws in
    offer_comes g.L.Label.algebra laws c.args.self.now c.args.worker c.args.holding.now c.requires.expected c.in-Some.h c.in-Some.is c.args.edge c.args.label c.requires.can

pub returns : goal.returns
returns g c =
    let laws = (g.met.L.Label g.world.𝓛 g.world.𝓜 g.world.𝓡 ((λ s x. x), (λ x. x), (λ x. x), λ x. x)).laws in
    let table = subst (λ v. IsTable g.L.Label.algebra v) c.self.view_is c.keep_run.ensures in
    let more = has_more g.L.Label.algebra laws c.args.self.now c.args.worker c.args.holding.now c.requires.expected c.in-Some.h c.in-Some.is table c.args.edge c.args.label c.requires.can in
    offer_call g.L.Label.algebra _ _ _ _ _ _ _ c.apply.ensures more
