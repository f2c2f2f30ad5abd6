-- The walk of one vertex has the opening label.
use Rattle.std.proofs.Common.{ap, arith}
use Rattle.drt_sp_states.proofs.Labelled.{begun}
use Rattle.drt_sp_states.proofs.walks.begin_walk.Goals as goal

pub returns : goal.returns
returns c =
    begun c.args.graph.now c.args.bound c.args.vertex c.vertex.result.now.wcet _ (c.labels_of_walks.ensures c.args.graph.now c.args.bound) (omega arith)
    (ap (λ x. x.wcet) c.vertex.ensures) (rw c.new-walk.ensures.items at c.in_ok-push.ensures.items) c.in_ok-label.ensures
