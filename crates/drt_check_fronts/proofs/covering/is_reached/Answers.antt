use Rattle.std.proofs.Common.{sym, ◌∙◌}
use Rattle.drt_check_fronts.proofs.Orders.{reached}
use Rattle.drt_check_fronts.proofs.covering.is_reached.Goals as goal

pub returns-clause-before : goal.returns-clause-before
returns-clause-before c = λ t. reached c.args.front.now c.requires c.args.vertex c.args.offset c.args.place _ c.if-place-eq0.false c.if-place-front.false (sym c.is_up_to.ensures ∙ t)
