use Rattle.drt_shared.proofs.Calls.{may_close}
use Rattle.drt_shared.proofs.board.TableBoard.close.Goals as goal

pub apply-requires-clause-can : goal.apply-requires-clause-can
apply-requires-clause-can g c κs within =
    let laws = (g.met.L.Label g.world.𝓛 g.world.𝓜 g.world.𝓡 ((λ s x. x), (λ x. x), (λ x. x), λ x. x)).laws in
    may_close g.L.Label.algebra laws c.args.self.now c.args.worker c.args.holding.now c.requires.expected c.in-Some.h c.in-Some.is c.requires.can
