use Rattle.std.proofs.Common.{inl, inr, rules, ◌≡◌, ◌<◌, Some, length, sym, ap, ◌∙◌, arith}
use Rattle.std.specs.Prelude.{slice_get}
use Rattle.std.proofs.lemmas.Bool.{cases_lt}
use Rattle.std.proofs.lemmas.Option.{get_or_from_slice_get, slice_get-get_or, slice_get_within}
use Rattle.drt_sp_task.proofs.trees.place_of.Goals as goal

pub places-preserved : goal.places-preserved
places-preserved c j l at = elim (cases_lt j c.places.i) [
  | inl before ↦ c.places.invariant j before at
  | inr late ↦
      (let e : j ≡ c.places.i = omega arith in
      let here : slice_get c.args.order.now c.places.i ≡ Some c.args.task = ap (slice_get c.args.order.now) (sym e) ∙ at in
      search (rules, get_or_from_slice_get, here))
]

pub returns-then-order-i : goal.returns-then-order-i
returns-then-order-i c = search (rules, slice_get-get_or)

pub unreachable-requires : goal.unreachable-requires
unreachable-requires c =
    let (i, at) = c.requires in
    let l : i < length c.args.order.now = slice_get_within c.args.order.now i c.args.task at in
    c.places.invariant i (omega (arith, l, c.places-test.false)) at
