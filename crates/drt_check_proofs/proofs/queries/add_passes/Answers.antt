use Rattle.std.proofs.Common.{◌≡◌, ◌+◌, ◌++◌, ◌∷◌, [], drop, reverse}
use Rattle.std.specs.Prelude.{None, Some}
use Rattle.drt_claims.specs.Trees.{root}
use Rattle.drt_check_proofs.specs.Passing.{asks_at, passes_at}
use Rattle.drt_check_proofs.specs.Places.{after_at}
use Rattle.drt_check_proofs.proofs.Rest.{added_all, added_more, passes_ended, passes_none, passes_turned}
use Rattle.drt_check_proofs.proofs.Turns.{item_at}
use Rattle.drt_check_proofs.proofs.queries.add_passes.Goals as goal

pub returns-then-not-branch : goal.returns-then-not-branch
returns-then-not-branch c =
    let tree = c.args.tree.now in
    let items = c.args.items.now in
    let k = c.items.item-index in
    let nodes = reverse c.items.nodes.items in
    let none : after_at tree c.args.i (item_at items k) nodes ≡ None = rw c.if-not-branch.true at c.in_ok-take.ensures in
    added_all c.add_pass.new.queries.items (passes_at tree c.args.i (drop (k + 1) items) None) (c.args.queries.now.items ++ passes_at tree c.args.i items (Some (root tree ∷ [])))
    (passes_none tree c.args.i (drop (k + 1) items))
    (added_more c.items.queries.items c.add_pass.new.queries.items (asks_at (item_at items k) nodes) (passes_at tree c.args.i (drop (k + 1) items) None)
    (passes_at tree c.args.i (drop k items) (Some nodes)) (c.args.queries.now.items ++ passes_at tree c.args.i items (Some (root tree ∷ [])))
    (passes_turned tree c.args.i items k nodes None c.items-test.true none) (rw c.as_slice.ensures.value at c.in_ok-add_pass.ensures) c.items.invariant)

pub items-preserved : goal.items-preserved
items-preserved c =
    let tree = c.args.tree.now in
    let items = c.args.items.now in
    let k = c.items.item-index in
    let nodes = reverse c.items.nodes.items in
    let next = Some (reverse c.take.new.nodes.items) in
    let some : after_at tree c.args.i (item_at items k) nodes ≡ next = rw c.if-not-branch.false at c.in_ok-take.ensures in
    added_more c.items.queries.items c.add_pass.new.queries.items (asks_at (item_at items k) nodes) (passes_at tree c.args.i (drop (k + 1) items) next)
    (passes_at tree c.args.i (drop k items) (Some nodes)) (c.args.queries.now.items ++ passes_at tree c.args.i items (Some (root tree ∷ [])))
    (passes_turned tree c.args.i items k nodes next c.items-test.true some) (rw c.as_slice.ensures.value at c.in_ok-add_pass.ensures) c.items.invariant

pub returns : goal.returns
returns c =
    let tree = c.args.tree.now in
    let items = c.args.items.now in
    let k = c.items.item-index in
    added_all c.items.queries.items (passes_at tree c.args.i (drop k items) (Some (reverse c.items.nodes.items))) (c.args.queries.now.items ++ passes_at tree c.args.i items (Some (root tree ∷ [])))
    (passes_ended tree c.args.i items k (reverse c.items.nodes.items) c.items-test.false) c.items.invariant
