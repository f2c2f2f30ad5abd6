use Rattle.std.proofs.Common.{◌≡◌, refl, ◌∙◌, reverse}
use Rattle.std.specs.Prelude.{None, Some}
use Rattle.std.proofs.lemmas.Bool.{false≢true}
use Rattle.drt_check_proofs.specs.Places.{after_at}
use Rattle.drt_check_proofs.proofs.Turns.{item_at, nodes_ended, nodes_stop, nodes_turned, none_not_some, some_is_some}
use Rattle.drt_check_proofs.proofs.shapes.can_take.Goals as goal

pub returns-then-not-branch : goal.returns-then-not-branch
returns-then-not-branch c =
    let none : after_at c.args.tree.now c.args.i (item_at c.args.items.now c.items.item-index) (reverse c.items.nodes.items) ≡ None = rw c.if-not-branch.true at c.in_ok-take.ensures in
    let stop = nodes_stop c.args.tree.now c.args.i c.args.items.now c.items.item-index (reverse c.items.nodes.items) c.items-test.true none in
    (λ e. absurd (false≢true e), λ can. absurd (none_not_some _ (c.items.invariant ∙ stop) can))

pub items-preserved : goal.items-preserved
items-preserved c =
    let some : after_at c.args.tree.now c.args.i (item_at c.args.items.now c.items.item-index) (reverse c.items.nodes.items) ≡ Some (reverse c.take.new.nodes.items) = rw
    c.if-not-branch.false at c.in_ok-take.ensures in
    c.items.invariant ∙ nodes_turned c.args.tree.now c.args.i c.args.items.now c.items.item-index (reverse c.items.nodes.items) (Some (reverse c.take.new.nodes.items)) c.items-test.true some

pub returns : goal.returns
returns c =
    let ended = nodes_ended c.args.tree.now c.args.i c.args.items.now c.items.item-index (reverse c.items.nodes.items) c.items-test.false in
    (λ e. some_is_some _ (reverse c.items.nodes.items) (c.items.invariant ∙ ended), λ can. refl)
