use Rattle.std.proofs.Common.{◌≡◌, ◌++◌, take}
use Rattle.std.specs.List.{flat_map}
use Rattle.drt_file.specs.trusted.Canonical.{written}
use Rattle.drt_evidence.specs.Text.{search_lines}
use Rattle.drt_evidence.proofs.printing.searches.push_searches.Given as goal

abbrev pub invariant-loop-search : goal.invariant-loop-search
invariant-loop-search l = l.text.items ≡ l.initial.text.items ++ written (flat_map search_lines (take l.search-index l.searches))
