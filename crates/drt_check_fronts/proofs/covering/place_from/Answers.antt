use Rattle.std.proofs.Common.{◌≡◌, ℕ, ◌<◌, length, sym, arith}
use Rattle.std.specs.Prelude.{min}
use Rattle.drt_check_fronts.proofs.Orders.{place_at}
use Rattle.drt_check_fronts.proofs.covering.place_from.Goals as goal

pub returns-then-not-is_up_to : goal.returns-then-not-is_up_to
returns-then-not-is_up_to c =
    place_at c.args.front.now c.requires c.args.vertex c.args.offset c.few.place _ (within c.few.place c.saturating_add.result (length c.args.front.now) c.min-end.result c.min-end.ensures c.few-test.true) c.few.invariant
    (sym c.if-not-is_up_to.ensures)
  where
    within : (p a b m : ℕ) → m ≡ min a b → p < m → p < b
    within p a b m e l = grind (arith, e, l)
