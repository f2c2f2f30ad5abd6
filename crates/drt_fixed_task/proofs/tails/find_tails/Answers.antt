use Rattle.std.proofs.Common.{◌≡◌, ℕ, subst, arith}
use Rattle.drt_states.specs.Tails.{BoundsWalks, IsTail}
use Rattle.drt_fixed_task.proofs.Vertices.{tails_next}
use Rattle.drt_fixed_task.proofs.tails.find_tails.Goals as goal

pub tasks-preserved : goal.tasks-preserved
tasks-preserved c =
    let g = c.graph-graph.result.now in
    let bound : c.from.result ≡ c.args.bound = c.from.ensures in
    let is = rw c.in-Some.is at c.in_ok-tail.ensures.tail in
    let bounds = rw c.in-Some.is at c.in_ok-tail.ensures.bounds in
    tails_next c.args.bound c.args.graphs.now c.args.tasks.now c.tasks.i c.tasks.tails.items c.push.new.self.items c.in-Some.tail g (omega (arith, c.tasks-test.true))
    c.tasks.invariant c.graph-graph.ensures.graph (subst (λ (n : ℕ). IsTail n g c.in-Some.tail) bound is) (subst (λ (n : ℕ). BoundsWalks n g c.in-Some.tail) bound bounds)
    c.in_ok-push.ensures.items
