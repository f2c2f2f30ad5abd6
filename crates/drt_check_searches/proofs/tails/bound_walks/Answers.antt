use Rattle.std.proofs.Common.{◌≡◌, ◌<◌, List, arith, length, refl, sym, true}
use Rattle.drt_claims.specs.Sorting.{sorted_places}
use Rattle.drt_model.specs.declared.tasks.Task.{Task}
use Rattle.drt_states.specs.Tails.{BoundsWalks, EachTail, IsTail, Place}
use Rattle.drt_states.specs.declared.claims.TailClaim.{TailClaim}
use Rattle.drt_check_states.proofs.Zips.{zip_long}
use Rattle.drt_check_searches.proofs.Eachs.{each_at, each_end, each_more}
use Rattle.drt_check_searches.proofs.tails.bound_walks.Goals as goal

long : (tasks : List Task) (tails : List TailClaim) → EachTail IsTail (sorted_places tasks) tails → length (sorted_places tasks) ≡ length tails
long tasks tails each = zip_long (λ (p : Place) (tail : TailClaim). IsTail p.bound p.graph tail) (sorted_places tasks) tails each

pub graph_at-graph-requires-clause-place : goal.graph_at-graph-requires-clause-place
graph_at-graph-requires-clause-place c = omega (arith, c.loop-i-test.true, long c.args.set.now.tasks c.args.tails.now c.requires.tails)

pub bound_at-bound-requires-clause-place : goal.bound_at-bound-requires-clause-place
bound_at-bound-requires-clause-place c = omega (arith, c.loop-i-test.true, long c.args.set.now.tasks c.args.tails.now c.requires.tails)

pub bounds_walks-requires : goal.bounds_walks-requires
bounds_walks-requires c =
    let l : c.loop-i.i < length (sorted_places c.args.set.now.tasks) = omega (arith, c.loop-i-test.true, long c.args.set.now.tasks c.args.tails.now c.requires.tails) in
    each_at IsTail (sorted_places c.args.set.now.tasks) c.args.tails.now c.loop-i.i c.bound_at-bound.result c.graph_at-graph.result.now c.index-tails-i.result l
    c.bound_at-bound.ensures c.graph_at-graph.ensures c.index-tails-i.is c.requires.tails

pub returns-then-not-bounds_walks : goal.returns-then-not-bounds_walks
returns-then-not-bounds_walks c = (
  λ e. absurd (cc),
  λ each.
      let l : c.loop-i.i < length (sorted_places c.args.set.now.tasks) = omega (arith, c.loop-i-test.true, long c.args.set.now.tasks c.args.tails.now c.requires.tails) in
      let is = each_at BoundsWalks (sorted_places c.args.set.now.tasks) c.args.tails.now c.loop-i.i c.bound_at-bound.result c.graph_at-graph.result.now c.index-tails-i.result l
      c.bound_at-bound.ensures c.graph_at-graph.ensures c.index-tails-i.is each in
      let e : c.bounds_walks.result ≡ true = c.bounds_walks.ensures.1 is in
      absurd (cc),
)

pub loop-i-preserved : goal.loop-i-preserved
loop-i-preserved c =
    let l : c.loop-i.i < length (sorted_places c.args.set.now.tasks) = omega (arith, c.loop-i-test.true, long c.args.set.now.tasks c.args.tails.now c.requires.tails) in
    each_more BoundsWalks (sorted_places c.args.set.now.tasks) c.args.tails.now c.loop-i.i c.bound_at-bound.result c.graph_at-graph.result.now c.index-tails-i.result l c.loop-i-test.true
    c.bound_at-bound.ensures c.graph_at-graph.ensures c.index-tails-i.is (c.bounds_walks.ensures.0 c.if-not-bounds_walks.false) c.loop-i.invariant

pub returns : goal.returns
returns c = (
  λ e. each_end BoundsWalks (sorted_places c.args.set.now.tasks) c.args.tails.now c.loop-i.i (sym (long c.args.set.now.tasks c.args.tails.now c.requires.tails)) c.loop-i-test.false c.loop-i.invariant,
  λ each. refl,
)
