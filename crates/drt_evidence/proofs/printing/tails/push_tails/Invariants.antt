use Rattle.std.proofs.Common.{◌≡◌, ◌++◌, take}
use Rattle.std.specs.List.{flat_map}
use Rattle.drt_file.specs.trusted.Canonical.{written}
use Rattle.drt_evidence.specs.Text.{tail_lines}
use Rattle.drt_evidence.proofs.printing.tails.push_tails.Given as goal

abbrev pub invariant-loop-tail : goal.invariant-loop-tail
invariant-loop-tail l = l.text.items ≡ l.initial.text.items ++ written (flat_map tail_lines (take l.tail-index l.tails))
