use Rattle.std.proofs.Common.{◌≡◌, ◌++◌, map, take}
use Rattle.std.specs.Fmt.{signed_decimal}
use Rattle.drt_evidence.specs.Fields.{behind}
use Rattle.drt_evidence.proofs.lines.push_each_signed.Given as goal

abbrev pub invariant-loop-number : goal.invariant-loop-number
invariant-loop-number l = l.text.items ≡ l.initial.text.items ++ behind (map signed_decimal (take l.number-index l.numbers))
