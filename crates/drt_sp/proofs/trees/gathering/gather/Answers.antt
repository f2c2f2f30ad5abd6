use Rattle.std.proofs.Common.{◌≡◌, ◌<◌, length, subst, arith}
use Rattle.drt_request.specs.Laws.{request_laws}
use Rattle.drt_request.specs.Request.{request_algebra}
use Rattle.drt_table.specs.View.{setting_of, state_of}
use Rattle.drt_table.proofs.Tables.{nodes_small}
use Rattle.drt_tree.specs.Leaf.{leaves_of}
use Rattle.drt_sp.specs.Gathering.{AreLeavesGathered}
use Rattle.drt_sp.proofs.TreeSearches.{gathered_leaves}
use Rattle.drt_sp.proofs.trees.gathering.gather.Goals as goal

pub overflow_cast-id-end : goal.overflow_cast-id-end
overflow_cast-id-end c =
    let l : length c.args.table.now.nodes < 4294967296 = nodes_small request_algebra request_laws c.args.table.now c.keep_run.ensures in
    omega (arith, l, c.node_count-id-end.ensures)

pub returns-clause-leaves : goal.returns-clause-leaves
returns-clause-leaves c =
    let v = c.args.table.now in
    let leaves = c.nodes.leaves in
    let e : c.nodes.id ≡ length v.nodes = omega (arith, c.nodes-test.false, c.nodes.auto.id-end, c.node_count-id-end.ensures) in
    let ls = leaves_of leaves.labels.items leaves.walks.items in
    let are = subst (λ k. AreLeavesGathered (setting_of v) (state_of v).nodes k ls) e c.nodes.invariant.gathered in
    gathered_leaves v c.keep_run.ensures c.requires.front ls are
