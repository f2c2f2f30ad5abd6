use Rattle.std.proofs.Common.{◌≡◌, ◌++◌, map, take}
use Rattle.drt_file.specs.trusted.Canonical.{written}
use Rattle.drt_evidence.specs.Text.{walk_line}
use Rattle.drt_evidence.proofs.printing.trees.push_walks.Given as goal

abbrev pub invariant-loop-walk : goal.invariant-loop-walk
invariant-loop-walk l = l.text.items ≡ l.initial.text.items ++ written (map walk_line (take l.walk-index l.walks))
