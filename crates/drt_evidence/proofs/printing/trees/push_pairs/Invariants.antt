use Rattle.std.proofs.Common.{◌≡◌, ◌++◌, map, take}
use Rattle.drt_file.specs.trusted.Canonical.{written}
use Rattle.drt_evidence.specs.Text.{pair_line}
use Rattle.drt_evidence.proofs.printing.trees.push_pairs.Given as goal

abbrev pub invariant-loop-pair : goal.invariant-loop-pair
invariant-loop-pair l = l.text.items ≡ l.initial.text.items ++ written (map pair_line (take l.pair-index l.pairs))
