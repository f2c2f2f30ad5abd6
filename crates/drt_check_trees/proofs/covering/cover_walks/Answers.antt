use Rattle.std.proofs.Common.{◌≡◌, ℕ, true, false, refl, subst, sym}
use Rattle.drt_model.specs.Each.{Each}
use Rattle.drt_claims.specs.Trees.{CoversWalks, HasShortWalks}
use Rattle.drt_claims.specs.Sorting.{sorted_graphs}
use Rattle.drt_check_trees.proofs.Eachs.{each_end, each_here, each_more, each_not}
use Rattle.drt_check_trees.proofs.Orders.{graphs_long}
use Rattle.drt_check_trees.proofs.covering.cover_walks.Goals as goal

pub covers-requires-clause-short : goal.covers-requires-clause-short
covers-requires-clause-short c =
    each_here (HasShortWalks c.greatest_deadline-bound.result) (sorted_graphs c.args.set.now.tasks c.args.trees.now) c.args.trees.now c.loop-i.i c.tree_graph-graph.result.now c.index-trees-i.result
    c.tree_graph-graph.ensures.graph c.index-trees-i.is c.loop-i-test.true
    (subst (λ (b : ℕ). Each (HasShortWalks b) (sorted_graphs c.args.set.now.tasks c.args.trees.now) c.args.trees.now) (sym c.greatest_deadline-bound.ensures.value) c.requires.short)

pub returns-then-not-branch : goal.returns-then-not-branch
returns-then-not-branch c =
    let bound = c.greatest_deadline-bound.ensures.value in (
      λ e. absurd (cc),
      λ each. absurd (each_not (CoversWalks c.greatest_deadline-bound.result) (sorted_graphs c.args.set.now.tasks c.args.trees.now) c.args.trees.now c.loop-i.i
          c.tree_graph-graph.result.now c.index-trees-i.result c.tree_graph-graph.ensures.graph c.index-trees-i.is c.loop-i-test.true
          (λ has. (let r : c.in_ok-covers.field-0 ≡ true = c.in_ok-covers.ensures.1 has in let s : c.in_ok-covers.field-0 ≡ false = c.if-not-branch.true in cc))
          (subst (λ (b : ℕ). Each (CoversWalks b) (sorted_graphs c.args.set.now.tasks c.args.trees.now) c.args.trees.now) (sym bound) each)),
    )

pub loop-i-preserved : goal.loop-i-preserved
loop-i-preserved c =
    each_more (CoversWalks c.greatest_deadline-bound.result) (sorted_graphs c.args.set.now.tasks c.args.trees.now) c.args.trees.now c.loop-i.i c.tree_graph-graph.result.now c.index-trees-i.result
    c.tree_graph-graph.ensures.graph c.index-trees-i.is (c.in_ok-covers.ensures.0 c.if-not-branch.false) c.loop-i.invariant

pub returns : goal.returns
returns c =
    let long = graphs_long c.args.set.now.tasks c.args.order.now c.requires.order c.args.trees.now c.requires.per_task in
    let each : Each (CoversWalks c.greatest_deadline-bound.result) (sorted_graphs c.args.set.now.tasks c.args.trees.now) c.args.trees.now
    = each_end (CoversWalks c.greatest_deadline-bound.result) (sorted_graphs c.args.set.now.tasks c.args.trees.now) c.args.trees.now c.loop-i.i long c.loop-i-test.false c.loop-i.invariant in
    (λ e. subst (λ (b : ℕ). Each (CoversWalks b) (sorted_graphs c.args.set.now.tasks c.args.trees.now) c.args.trees.now) c.greatest_deadline-bound.ensures.value each, λ e. refl)
