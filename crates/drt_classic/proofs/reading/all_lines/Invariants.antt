use Rattle.std.proofs.Common.{◌≡◌, ◌+◌, ◌≤◌, length, None}
use Rattle.drt_file.specs.trusted.Cutting.{lines}
use Rattle.drt_classic.specs.ClassicFaults.{classic_steps}
use Rattle.drt_classic.proofs.reading.all_lines.Given as goal

abbrev pub invariant-lines : goal.invariant-lines
invariant-lines l = (l.n + length l.rest ≤ length l.text + 1) × (classic_steps l.n l.above (lines l.rest) ≡ classic_steps 1 None (lines l.text))

abbrev pub decreases-lines : goal.decreases-lines
decreases-lines l = length l.rest
