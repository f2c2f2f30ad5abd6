use Rattle.std.proofs.Common.{subst}
use Rattle.drt_shared.specs.TableBoard.{CanCount}
use Rattle.drt_shared.proofs.shared.hold_by.Goals as goal

pub count_offer-requires-after_bounds : goal.count_offer-requires-after_bounds
count_offer-requires-after_bounds g c κs within h e = (subst (λ r. CanCount g.L.Label.algebra c.requires.0 r c.args.holding.now) c.in-Added.is c.requires.1 h e).0

pub count_offer-requires-in-Dominated-after_bounds : goal.count_offer-requires-in-Dominated-after_bounds
count_offer-requires-in-Dominated-after_bounds g c κs within h e = (subst (λ r. CanCount g.L.Label.algebra c.requires.0 r c.args.holding.now) c.in-Dominated.is c.requires.1 h e).0

pub count_offer-requires-in-OutOfRange-after_bounds : goal.count_offer-requires-in-OutOfRange-after_bounds
count_offer-requires-in-OutOfRange-after_bounds g c κs within h e = (subst (λ r. CanCount g.L.Label.algebra c.requires.0 r c.args.holding.now) c.in-OutOfRange.is c.requires.1 h e).0
