use Rattle.std.proofs.Common.{◌≡◌, ◌++◌, map, take}
use Rattle.drt_file.specs.trusted.Canonical.{written}
use Rattle.drt_evidence.specs.Text.{release_line}
use Rattle.drt_evidence.proofs.printing.releases.push_each_release.Given as goal

abbrev pub invariant-loop-release : goal.invariant-loop-release
invariant-loop-release l = l.text.items ≡ l.initial.text.items ++ written (map release_line (take l.release-index l.releases))
