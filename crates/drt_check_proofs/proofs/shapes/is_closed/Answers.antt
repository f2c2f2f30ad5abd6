use Rattle.std.proofs.Common.{◌≡◌, ap, sym, ◌∙◌, arith}
use Rattle.std.specs.Prelude.{None, Some}
use Rattle.std.proofs.lemmas.Bool.{false≢true, eqb-true, eq-eqb}
use Rattle.std.proofs.lemmas.Option.{same_Some}
use Rattle.drt_check_proofs.specs.Places.{depth_after}
use Rattle.drt_check_proofs.proofs.Turns.{depth_ended, depth_grows, depth_stops, depth_turned, item_at}
use Rattle.drt_check_proofs.proofs.shapes.is_closed.Goals as goal

pub returns-in-None : goal.returns-in-None
returns-in-None c =
    let stop = depth_stops c.args.width c.args.items.now c.items.item-index c.items.depth c.items-test.true (sym c.in-None.is ∙ c.depth_after.ensures) in
    (λ e. absurd (false≢true e), λ closed. absurd (let h : None ≡ Some 0 = sym stop ∙ (sym c.items.invariant.0 ∙ closed) in cc))

pub items-preserved : goal.items-preserved
items-preserved c =
    let is : Some c.in-Some.next ≡ depth_after c.args.width (item_at c.args.items.now c.items.item-index) c.items.depth = sym c.in-Some.is ∙ c.depth_after.ensures in
    let turn = depth_turned c.args.width c.args.items.now c.items.item-index c.items.depth (Some c.in-Some.next) c.items-test.true is in
    let grown = depth_grows c.args.width (item_at c.args.items.now c.items.item-index) c.items.depth c.in-Some.next is in
    (c.items.invariant.0 ∙ turn, omega (arith, grown, c.items.invariant.1))

pub returns : goal.returns
returns c =
    let ended = depth_ended c.args.width c.args.items.now c.items.item-index c.items.depth c.items-test.false in (
      λ e. (let zero : c.items.depth ≡ 0 = eqb-true c.items.depth 0 e in c.items.invariant.0 ∙ (ended ∙ ap (λ n. Some n) zero)),
      λ closed. eq-eqb c.items.depth 0 (same_Some _ _ (sym ended ∙ (sym c.items.invariant.0 ∙ closed))),
    )
