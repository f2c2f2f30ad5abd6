use Rattle.std.proofs.Common.{◌≡◌, ◌∷◌, [], true, false, not, sym, ap, ◌∙◌, arith}
use Rattle.std.specs.Prelude.{is_some}
use Rattle.std.proofs.lemmas.List.{length-append}
use Rattle.drt_tree.specs.Leaf.{leaves_of}
use Rattle.drt_sp.proofs.TreeSearches.{gathered_dropped, gathered_kept}
use Rattle.drt_sp.proofs.trees.gathering.add_leaf.Goals as goal

pub returns-in_ok-push-2 : goal.returns-in_ok-push-2
returns-in_ok-push-2 c =
    let v = c.args.table.now in
    let first = c.requires.first in
    let labels = c.args.leaves.now.labels.items in
    let walks = c.args.leaves.now.walks.items in
    let label = c.in_ok-label_of.field-0 in
    let walk = c.in_ok-walk.field-0 in
    let kept : is_some c.node-node.result.now.node.dropped_by ≡ false = ap is_some (sym c.dropped_by.ensures) ∙ (c.is_none.ensures ∙ ap (λ x. not x) c.if-is_none.true) in
    let m = length-append labels (label ∷ []) in
    let n = length-append walks (walk ∷ []) in
    let same = first.same in
    let few = first.few in
    rw (c.in_ok-push.ensures.items, c.in_ok-push-2.ensures.items) (record {
      same = omega (arith, same, m, n);
      few = omega (arith, few, m);
      gathered =
          gathered_kept v c.args.id c.node-node.result.now c.node-node.ensures labels walks label walk kept same c.in_ok-label_of.ensures c.in_ok-walk.ensures first.gathered;
    })

pub returns-else-is_none : goal.returns-else-is_none
returns-else-is_none c =
    let first = c.requires.first in
    let few = first.few in
    let leaves = c.args.leaves.now in
    let dropped : is_some c.node-node.result.now.node.dropped_by ≡ true = ap is_some (sym c.dropped_by.ensures) ∙ c.if-is_none.ensures in
    record {
      same = first.same;
      few = omega (arith, few);
      gathered = gathered_dropped c.args.table.now c.args.id c.node-node.result.now c.node-node.ensures (leaves_of leaves.labels.items leaves.walks.items) dropped first.gathered;
    }
