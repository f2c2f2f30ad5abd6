use Rattle.std.proofs.Common.{◌+◌, ◌≤◌, length}
use Rattle.drt_file.specs.internal.Strict.{Above}
use Rattle.drt_file.proofs.front.all_lines.Given as goal

abbrev pub invariant-lines : goal.invariant-lines
invariant-lines l = (l.n + length l.rest ≤ length l.bytes + 1) × Above l.bytes l.n l.above l.rest

abbrev pub decreases-lines : goal.decreases-lines
decreases-lines l = length l.rest
