-- The releases so far, and those of the walk after the last vertex, are all.
use Rattle.std.proofs.Common.{drop, ◌++◌}
use Rattle.drt_check_values.specs.Rises.{rises_along}
use Rattle.drt_check_values.proofs.Rising.{IsStep}
use Rattle.drt_check_values.proofs.rises.add_rises.Given as goal

abbrev pub invariant-steps : goal.invariant-steps
invariant-steps l = IsStep l.graph l.place l.bound (l.fn.rises.items ++ rises_along l.graph l.place l.walk) l.rises.items l.offset l.vertex (drop l.i l.walk)
