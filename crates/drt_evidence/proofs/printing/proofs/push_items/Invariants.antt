use Rattle.std.proofs.Common.{◌≡◌, ◌++◌, map, take}
use Rattle.drt_evidence.specs.Fields.{behind}
use Rattle.drt_evidence.specs.Text.{item_field}
use Rattle.drt_evidence.proofs.printing.proofs.push_items.Given as goal

abbrev pub invariant-loop-item : goal.invariant-loop-item
invariant-loop-item l = l.text.items ≡ l.initial.text.items ++ behind (map item_field (take l.item-index l.items))
