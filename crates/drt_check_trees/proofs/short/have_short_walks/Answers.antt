use Rattle.std.proofs.Common.{◌≡◌, ℕ, true, refl, subst, sym}
use Rattle.drt_model.specs.Each.{Each}
use Rattle.drt_claims.specs.Trees.{HasShortWalks}
use Rattle.drt_claims.specs.Sorting.{sorted_graphs}
use Rattle.drt_check_trees.proofs.Eachs.{each_end, each_more, each_not}
use Rattle.drt_check_trees.proofs.Orders.{graphs_long}
use Rattle.drt_check_trees.proofs.short.have_short_walks.Goals as goal

pub returns-then-not-has_short_walks : goal.returns-then-not-has_short_walks
returns-then-not-has_short_walks c =
    let bound = c.greatest_deadline-bound.ensures.value in (
      λ e. absurd (cc),
      λ each. absurd (each_not (HasShortWalks c.greatest_deadline-bound.result) (sorted_graphs c.args.set.now.tasks c.args.trees.now) c.args.trees.now c.loop-i.i
          c.tree_graph-graph.result.now c.index-trees-i.result
          c.tree_graph-graph.ensures.graph c.index-trees-i.is c.loop-i-test.true (λ has. (let r : c.has_short_walks.result ≡ true = c.has_short_walks.ensures.1 has in cc))
          (subst (λ (b : ℕ). Each (HasShortWalks b) (sorted_graphs c.args.set.now.tasks c.args.trees.now) c.args.trees.now) (sym bound) each)),
    )

pub loop-i-preserved : goal.loop-i-preserved
loop-i-preserved c =
    let r : c.has_short_walks.result ≡ true = cc in
    each_more (HasShortWalks c.greatest_deadline-bound.result) (sorted_graphs c.args.set.now.tasks c.args.trees.now) c.args.trees.now c.loop-i.i c.tree_graph-graph.result.now c.index-trees-i.result
    c.tree_graph-graph.ensures.graph c.index-trees-i.is (c.has_short_walks.ensures.0 r) c.loop-i.invariant

pub returns : goal.returns
returns c =
    let long = graphs_long c.args.set.now.tasks c.args.order.now c.requires.order c.args.trees.now c.requires.per_task in
    let each : Each (HasShortWalks c.greatest_deadline-bound.result) (sorted_graphs c.args.set.now.tasks c.args.trees.now) c.args.trees.now
    = each_end (HasShortWalks c.greatest_deadline-bound.result) (sorted_graphs c.args.set.now.tasks c.args.trees.now) c.args.trees.now c.loop-i.i long c.loop-i-test.false c.loop-i.invariant in
    (λ e. subst (λ (b : ℕ). Each (HasShortWalks b) (sorted_graphs c.args.set.now.tasks c.args.trees.now) c.args.trees.now) c.greatest_deadline-bound.ensures.value each, λ e. refl)
