use Rattle.std.proofs.Common.{◌≡◌, ◌<◌, None, List, ℕ, length, get_or, sym, ap, subst, arith, ◌∙◌}
use Rattle.std.proofs.lemmas.List.{length-map}
use Rattle.drt_model.specs.Digraph.{digraph_of}
use Rattle.drt_graph.specs.Graphs.{graph_of}
use Rattle.drt_busy.specs.Choice.{graph_at}
use Rattle.drt_releases.proofs.Walks.{graph_same}
use Rattle.drt_tree.specs.Tree.{children, walk}
use Rattle.drt_tree.proofs.Trees.{if_ok_more}
use Rattle.drt_busy.specs.Response.{cut}
use Rattle.drt_sp.proofs.Chosen.{chosen_none, chosen_some, leaf_place}
use Rattle.drt_sp.proofs.walks.chosen_walk.Goals as goal
use Rattle.drt_model.specs.Walk.{IsWalk}

pub walk-requires-clause-within : goal.walk-requires-clause-within
walk-requires-clause-within c =
    let at = leaf_place c.args.order.now c.args.tuple.now c.args.k c.in-Some.leaf (sym c.leaf_of.ensures ∙ c.in-Some.is) in
    let is = c.requires.leaves.2.each at.0 at.1 in
    subst (λ (n : ℕ). n < length c.args.forest.now.nodes) at.3 is.node

pub walk-requires-clause-leaf : goal.walk-requires-clause-leaf
walk-requires-clause-leaf c =
    let at = leaf_place c.args.order.now c.args.tuple.now c.args.k c.in-Some.leaf (sym c.leaf_of.ensures ∙ c.in-Some.is) in
    let is = c.requires.leaves.2.each at.0 at.1 in
    subst (λ (n : ℕ). children c.args.forest.now n ≡ None) at.3 is.leaf_is

pub cut_walk-requires : goal.cut_walk-requires
cut_walk-requires c =
    let tasks = c.requires.leaves.0 in
    let k = c.args.k in
    let f = c.args.forest.now in
    let at = leaf_place c.args.order.now c.args.tuple.now k c.in-Some.leaf (sym c.leaf_of.ensures ∙ c.in-Some.is) in
    let is = c.requires.leaves.2.each at.0 at.1 in
    let l : k < length tasks = omega (arith, c.requires.here, ap length c.requires.leaves.1, length-map tasks digraph_of) in
    let graph : c.graph.result.now ≡ graph_at tasks k = c.graph.ensures.graph ∙ (ap (λ gs. graph_of gs k) c.requires.leaves.1 ∙ graph_same tasks k l) in
    let w : IsWalk (graph_at tasks k) (walk f c.in-Some.leaf)
    = subst (λ (n : ℕ). IsWalk (graph_at tasks k) (walk f n)) at.3 (subst (λ (n : ℕ). IsWalk (graph_at tasks n) (walk f (get_or c.args.tuple.now at.0 0))) at.2 is.walk_is) in
    record { walk = subst (λ g. IsWalk g c.as_slice.result.now) (sym graph) (subst (λ (xs : List ℕ). IsWalk (graph_at tasks k) xs) (sym (c.as_slice.ensures ∙ c.walk.ensures)) w) }

pub returns-in-Some : goal.returns-in-Some
returns-in-Some c =
    if_ok_more _ _ c.cut_walk.result (λ row is tasks same.
    let k = c.args.k in
    let f = c.args.forest.now in
    let l : k < length tasks = omega (arith, c.requires.here, ap length same, length-map tasks digraph_of) in
    let graph : c.graph.result.now ≡ graph_at tasks k = c.graph.ensures.graph ∙ (ap (λ gs. graph_of gs k) same ∙ graph_same tasks k l) in
    is
    ∙ (ap (λ g. cut g c.args.end c.as_slice.result.now) graph
    ∙ (ap (cut (graph_at tasks k) c.args.end) (c.as_slice.ensures ∙ c.walk.ensures)
    ∙ sym (chosen_some tasks f c.args.end c.args.order.now c.args.tuple.now k c.in-Some.leaf (sym c.leaf_of.ensures ∙ c.in-Some.is))))
    ) c.cut_walk.ensures

pub returns-in-None : goal.returns-in-None
returns-in-None c tasks same =
    c.from_vec.ensures ∙ (c.new.ensures.items ∙ sym (chosen_none tasks c.args.forest.now c.args.end c.args.order.now c.args.tuple.now c.args.k (sym c.leaf_of.ensures ∙ c.in-None.is)))
