use Rattle.std.proofs.Common.{◌≡◌, ◌<◌, ap, arith, length, refl, true}
use Rattle.drt_claims.specs.Sorting.{sorted_places}
use Rattle.drt_states.specs.Tails.{IsTail, Place}
use Rattle.drt_states.specs.declared.claims.TailClaim.{TailClaim}
use Rattle.drt_check_states.proofs.Zips.{zip_long}
use Rattle.drt_check_searches.proofs.Eachs.{each_at, each_end, each_more}
use Rattle.drt_check_searches.proofs.Orders.{places_long}
use Rattle.drt_check_searches.proofs.tails.has_rising_tails.Goals as goal

pub returns-then-tails-tasks : goal.returns-then-tails-tasks
returns-then-tails-tasks c = (
  λ e. absurd (cc),
  λ each.
      let l = zip_long (λ (p : Place) (tail : TailClaim). IsTail p.bound p.graph tail) (sorted_places c.args.set.now.tasks) c.args.tails.now each in
      absurd (c.if-tails-tasks.true (omega (arith, l, places_long c.args.set.now.tasks, ap length c.tasks.ensures.tasks))),
)

pub graph_at-graph-requires-clause-place : goal.graph_at-graph-requires-clause-place
graph_at-graph-requires-clause-place c = omega (arith, c.loop-i-test.true, c.if-tails-tasks.false, places_long c.args.set.now.tasks, ap length c.tasks.ensures.tasks)

pub bound_at-bound-requires-clause-place : goal.bound_at-bound-requires-clause-place
bound_at-bound-requires-clause-place c = omega (arith, c.loop-i-test.true, c.if-tails-tasks.false, places_long c.args.set.now.tasks, ap length c.tasks.ensures.tasks)

pub returns-then-not-is_tail : goal.returns-then-not-is_tail
returns-then-not-is_tail c = (
  λ e. absurd (cc),
  λ each.
      let l : c.loop-i.i < length (sorted_places c.args.set.now.tasks) = omega (arith, c.loop-i-test.true, c.if-tails-tasks.false, places_long c.args.set.now.tasks, ap length c.tasks.ensures.tasks) in
      let is = each_at IsTail (sorted_places c.args.set.now.tasks) c.args.tails.now c.loop-i.i c.bound_at-bound.result c.graph_at-graph.result.now c.index-tails-i.result l
      c.bound_at-bound.ensures c.graph_at-graph.ensures c.index-tails-i.is each in
      let e : c.is_tail.result ≡ true = c.is_tail.ensures.1 is in
      absurd (cc),
)

pub loop-i-preserved : goal.loop-i-preserved
loop-i-preserved c =
    let l : c.loop-i.i < length (sorted_places c.args.set.now.tasks) = omega (arith, c.loop-i-test.true, c.if-tails-tasks.false, places_long c.args.set.now.tasks, ap length c.tasks.ensures.tasks) in
    each_more IsTail (sorted_places c.args.set.now.tasks) c.args.tails.now c.loop-i.i c.bound_at-bound.result c.graph_at-graph.result.now c.index-tails-i.result l c.loop-i-test.true
    c.bound_at-bound.ensures c.graph_at-graph.ensures c.index-tails-i.is (c.is_tail.ensures.0 c.if-not-is_tail.false) c.loop-i.invariant

pub returns : goal.returns
returns c = (
  λ e. each_end IsTail (sorted_places c.args.set.now.tasks) c.args.tails.now c.loop-i.i (omega (arith, c.if-tails-tasks.false, places_long c.args.set.now.tasks, ap length c.tasks.ensures.tasks))
      c.loop-i-test.false c.loop-i.invariant,
  λ each. refl,
)
