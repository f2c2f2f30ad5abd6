use Rattle.std.proofs.Common.{List, length, ap, ◌∙◌, sym, arith}
use Rattle.drt_tree.specs.Leaf.{leaves_of}
use Rattle.drt_tree.specs.declared.leaf.Leaf.{Leaf}
use Rattle.drt_tree.proofs.Trees.{length-leaves_of}
use Rattle.drt_sp.proofs.TaskTrees.{added_long, added_leaves, added_kids}
use Rattle.drt_sp.proofs.trees.adding.add_tree.Goals as goal

pub walks_from-requires-clause-within : goal.walks_from-requires-clause-within
walks_from-requires-clause-within c =
    let ls : List Leaf = leaves_of c.args.labels.now c.args.walks.now in
    let n = length-leaves_of c.args.labels.now c.args.walks.now c.requires.same in
    let low = ap length c.all.ensures.value ∙ sym c.all.ensures.forest.same in
    let l = added_long c.args.forest.now c.add.new.self ls c.in_ok-top.top c.all.ensures.forest c.in_ok-top.ensures.added in
    omega (arith, n, low, l, c.requires.some)

pub walks_from-requires-clause-leaves : goal.walks_from-requires-clause-leaves
walks_from-requires-clause-leaves c =
    let ls : List Leaf = leaves_of c.args.labels.now c.args.walks.now in
    let n = length-leaves_of c.args.labels.now c.args.walks.now c.requires.same in
    let low = ap length c.all.ensures.value ∙ sym c.all.ensures.forest.same in
    λ k from to. added_leaves c.args.forest.now c.add.new.self ls c.in_ok-top.top c.all.ensures.forest c.in_ok-top.ensures.added k (omega (arith, low, from)) (omega (arith, n, low, to))

pub pairs_from-requires-clause-within : goal.pairs_from-requires-clause-within
pairs_from-requires-clause-within c =
    let ls : List Leaf = leaves_of c.args.labels.now c.args.walks.now in
    let n = length-leaves_of c.args.labels.now c.args.walks.now c.requires.same in
    let low = ap length c.all.ensures.value ∙ sym c.all.ensures.forest.same in
    let l = added_long c.args.forest.now c.add.new.self ls c.in_ok-top.top c.all.ensures.forest c.in_ok-top.ensures.added in
    omega (arith, n, low, l, c.requires.some)

pub pairs_from-requires-clause-children : goal.pairs_from-requires-clause-children
pairs_from-requires-clause-children c =
    let ls : List Leaf = leaves_of c.args.labels.now c.args.walks.now in
    let n = length-leaves_of c.args.labels.now c.args.walks.now c.requires.same in
    let low = ap length c.all.ensures.value ∙ sym c.all.ensures.forest.same in
    λ k from to.
    let added = c.in_ok-top.ensures.added in
    let x = added_kids c.args.forest.now c.add.new.self ls c.in_ok-top.top c.all.ensures.forest added k (omega (arith, n, low, from)) (omega (arith, n, low, to)) in
    let l = x.left_from in
    let r = x.right_from in
    (x.left, x.right, x.children, omega (arith, low, l), omega (arith, low, r))
