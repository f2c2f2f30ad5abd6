use Rattle.std.proofs.Common.{◌≡◌, ◌++◌, map, take}
use Rattle.drt_file.specs.trusted.Canonical.{written}
use Rattle.drt_evidence.specs.Text.{curve_line}
use Rattle.drt_evidence.proofs.printing.tails.push_curves.Given as goal

abbrev pub invariant-loop-curve : goal.invariant-loop-curve
invariant-loop-curve l = l.text.items ≡ l.initial.text.items ++ written (map curve_line (take l.curve-index l.curves))
