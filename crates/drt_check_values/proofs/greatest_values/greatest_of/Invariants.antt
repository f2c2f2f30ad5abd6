-- What was found so far and the run that is left have the greatest value together.
use Rattle.std.proofs.Common.{◌-◌}
use Rattle.drt_check_values.proofs.Halving.{run, IsLeft}
use Rattle.drt_check_values.proofs.greatest_values.greatest_of.Given as goal

abbrev pub invariant-levels : goal.invariant-levels
invariant-levels l = IsLeft l.nodes (run l.nodes l.first (l.end - l.first)) l.left l.right l.most

abbrev pub decreases-levels : goal.decreases-levels
decreases-levels l = l.right
