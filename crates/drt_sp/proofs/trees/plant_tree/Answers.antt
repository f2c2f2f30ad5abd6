use Rattle.std.proofs.Common.{◌+◌, ◌-◌, List, refl, sym, ap, ◌∙◌, arith}
use Rattle.drt_tree.specs.Leaf.{leaves_of}
use Rattle.drt_tree.specs.declared.leaf.Leaf.{Leaf}
use Rattle.drt_sp.specs.Searches.{AreLeavesOf}
use Rattle.drt_sp.specs.TaskTrees.{pairs_from, walks_from}
use Rattle.drt_sp.proofs.TaskTrees.{task_tree}
use Rattle.drt_sp.proofs.TreeSearches.{AreLent, lent_leaves, one_bound}
use Rattle.drt_sp.proofs.trees.plant_tree.Goals as goal

-- The leaves of the search are lent.
lent : (c : goal.After-add_tree-arg-1) → AreLent c.args.graph.now c.args.bound c.as_slice.result.now c.as_slice-in-Finished.result.now
lent c =
    let are : AreLeavesOf c.args.graph.now c.args.bound c.in-Finished.leaves = rw c.in-Finished.is at c.in_ok-end.ensures in
    lent_leaves c.args.graph.now c.args.bound c.in-Finished.leaves are c.requires.from c.as_slice.result.now c.as_slice-in-Finished.result.now c.as_slice.ensures.value
    c.as_slice-in-Finished.ensures.value

pub add_tree-requires-clause-some : goal.add_tree-requires-clause-some
add_tree-requires-clause-some c = (lent c).some

pub add_tree-requires-clause-bound : goal.add_tree-requires-clause-bound
add_tree-requires-clause-bound c =
    let ls : List Leaf = leaves_of c.as_slice.result.now c.as_slice-in-Finished.result.now in
    one_bound c.args.graph.now c.args.bound c.args.forest.now.pool ls c.requires.functions (lent c).leaves

pub add_tree-requires-clause-room : goal.add_tree-requires-clause-room
add_tree-requires-clause-room c = let few = (lent c).few in omega (arith, few, c.requires.room)

pub returns-in_ok-tree-in-Finished : goal.returns-in_ok-tree-in-Finished
returns-in_ok-tree-in-Finished c =
    let labels = c.as_slice.result.now in
    let walks = c.as_slice-in-Finished.result.now in
    let are : AreLeavesOf c.args.graph.now c.args.bound c.in-Finished.leaves = rw c.in-Finished.is at c.in_ok-end.ensures in
    let l : AreLent c.args.graph.now c.args.bound labels walks
    = lent_leaves c.args.graph.now c.args.bound c.in-Finished.leaves are c.requires.from labels walks c.as_slice.ensures.value c.as_slice-in-Finished.ensures.value in
    let f = c.args.forest.now in
    let h = c.add_tree.new.forest in
    let t = c.in_ok-tree-in-Finished.tree in
    let a = c.in_ok-tree-in-Finished.ensures in
    let n = l.counted in
    let few = l.few in
    task_tree f h (leaves_of labels walks) t.top a.forest a.added c.args.graph.now l.sound c.args.bound l.leaves c.requires.from c.requires.to (omega (arith, n, few)) t a.low refl
    (a.walks ∙ ap (λ k. walks_from h t.low k) (sym n)) (a.pairs ∙ ap (λ k. pairs_from h t.low (t.low + k) (k - 1)) (sym n))
