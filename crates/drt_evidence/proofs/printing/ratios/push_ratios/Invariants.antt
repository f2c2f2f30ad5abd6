use Rattle.std.proofs.Common.{◌≡◌, ◌++◌, take}
use Rattle.std.specs.List.{flat_map}
use Rattle.drt_file.specs.trusted.Canonical.{written}
use Rattle.drt_evidence.specs.Text.{ratio_lines}
use Rattle.drt_evidence.proofs.printing.ratios.push_ratios.Given as goal

abbrev pub invariant-loop-ratio : goal.invariant-loop-ratio
invariant-loop-ratio l = l.text.items ≡ l.initial.text.items ++ written (flat_map ratio_lines (take l.ratio-index l.ratios))
