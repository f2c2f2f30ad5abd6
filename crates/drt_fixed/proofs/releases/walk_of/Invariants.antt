-- Nothing is to last from turn to turn.
use Rattle.drt_fixed.proofs.releases.walk_of.Given as goal

abbrev pub invariant-loop-place : goal.invariant-loop-place
invariant-loop-place l = Unit {0}
