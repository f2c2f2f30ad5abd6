-- What is left decides; an item adds at most one combination.
use Rattle.std.proofs.Common.{◌≡◌, ◌≤◌, ◌+◌, drop}
use Rattle.std.specs.Prelude.{Some}
use Rattle.drt_check_proofs.specs.Places.{depth_after_all}
use Rattle.drt_check_proofs.proofs.shapes.is_closed.Given as goal

abbrev pub invariant-items : goal.invariant-items
invariant-items l = (depth_after_all l.width l.items (Some 1) ≡ depth_after_all l.width (drop l.item-index l.items) (Some l.depth)) × (l.depth ≤ l.item-index + 1)
