use Rattle.std.proofs.Common.{◌≡◌, ◌++◌, take}
use Rattle.std.specs.List.{flat_map}
use Rattle.drt_file.specs.trusted.Canonical.{written}
use Rattle.drt_evidence.specs.Text.{front_lines}
use Rattle.drt_evidence.proofs.printing.fronts.push_fronts.Given as goal

abbrev pub invariant-loop-front : goal.invariant-loop-front
invariant-loop-front l = l.text.items ≡ l.initial.text.items ++ written (flat_map front_lines (take l.front-index l.fronts))
