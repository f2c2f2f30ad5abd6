use Rattle.std.proofs.Common.{◌≡◌, ◌++◌, map, take}
use Rattle.drt_file.specs.trusted.Canonical.{written}
use Rattle.drt_evidence.specs.Text.{entry_line}
use Rattle.drt_evidence.proofs.printing.fronts.push_front.Given as goal

abbrev pub invariant-loop-entry : goal.invariant-loop-entry
invariant-loop-entry l = l.text.items ≡ l.initial.text.items ++ written (map entry_line (take l.entry-index l.front))
