use Rattle.std.proofs.Common.{◌≡◌, ◌≤◌, length, reverse}
use Rattle.std.specs.Ordering.{nat_cmp}
use Rattle.std.specs.Cmp.Lexicographic.{slice_cmp}
use Rattle.drt_steps.proofs.Ends.{down}
use Rattle.drt_steps.proofs.steps.Steps.compare_from_end.Given as goal

abbrev pub invariant-loop-t : goal.invariant-loop-t
invariant-loop-t l = record {
  within : l.t ≤ length l.self;
  rest : slice_cmp nat_cmp (reverse l.self) (reverse l.other) ≡ slice_cmp nat_cmp (down l.self l.t) (down l.other l.t);
}

abbrev pub decreases-loop-t : goal.decreases-loop-t
decreases-loop-t l = l.t
