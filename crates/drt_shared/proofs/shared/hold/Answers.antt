use Rattle.std.proofs.Common.{subst}
use Rattle.drt_shared.specs.TableBoard.{CanCount}
use Rattle.drt_shared.specs.Replies.{ForReply}
use Rattle.drt_shared.proofs.shared.hold.Goals as goal

pub hold_by-requires-after_bounds : goal.hold_by-requires-after_bounds
hold_by-requires-after_bounds g c κs within = (c.requires.0, subst (λ y. ForReply (λ r. CanCount g.L.Label.algebra c.requires.0 r c.args.holding.now) y) c.in-Step.is c.requires.1)
