use Rattle.std.proofs.Common.{◌≡◌, map}
use Rattle.std.specs.List.{range_with_len}
use Rattle.drt_tails.specs.Cut.{jumps_at}
use Rattle.drt_tails.proofs.cutting.curves_of.Given as goal

abbrev pub invariant-vertices : goal.invariant-vertices
invariant-vertices l = l.curves.items ≡ map (jumps_at l.front) (range_with_len 0 l.vertex)
