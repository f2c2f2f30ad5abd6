-- A deadline for each vertex so far.
use Rattle.std.specs.Prelude.{◌≡◌, length}
use Rattle.drt_fixed.proofs.looking.latest_first.Given as goal

abbrev pub invariant-loop-vertex : goal.invariant-loop-vertex
invariant-loop-vertex l = length l.deadlines.items ≡ l.vertex-index
