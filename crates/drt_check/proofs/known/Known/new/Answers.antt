use Rattle.drt_check_trees.proofs.Ranked.{order_distinct}
use Rattle.drt_check.proofs.known.Known.new.Goals as goal

pub returns-clause-distinct : goal.returns-clause-distinct
returns-clause-distinct c = order_distinct c.args.set.now.tasks _ c.in_ok-order.ensures.order
