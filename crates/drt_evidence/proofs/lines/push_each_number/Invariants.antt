use Rattle.std.proofs.Common.{◌≡◌, ◌++◌, map, take}
use Rattle.std.specs.Prelude.{decimal}
use Rattle.drt_evidence.specs.Fields.{behind}
use Rattle.drt_evidence.proofs.lines.push_each_number.Given as goal

abbrev pub invariant-loop-number : goal.invariant-loop-number
invariant-loop-number l = l.text.items ≡ l.initial.text.items ++ behind (map decimal (take l.number-index l.numbers))
