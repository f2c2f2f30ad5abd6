use Rattle.std.proofs.Common.{ℕ, get_or, subst, sym}
use Rattle.drt_graph.specs.Graphs.{graph_of}
use Rattle.drt_model.specs.Walk.{IsWalk}
use Rattle.drt_fixed.proofs.Beside.{walk_there}
use Rattle.drt_fixed.proofs.releases.walk_of.Goals as goal

pub returns-then-order-place : goal.returns-then-order-place
returns-then-order-place c graphs each =
    let there = walk_there graphs c.args.order.now c.args.walks.now each c.loop-place.place 0 c.loop-place-test.true in
    let walk = subst (IsWalk (graph_of graphs (get_or c.args.order.now c.loop-place.place 0))) (sym c.walk_at.ensures) there in
    subst (λ (k : ℕ). IsWalk (graph_of graphs k) c.walk_at.result.now) c.if-order-place.true walk
