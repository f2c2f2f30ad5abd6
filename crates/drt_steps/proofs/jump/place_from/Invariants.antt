use Rattle.std.proofs.Common.{◌-◌, length}
use Rattle.drt_steps.specs.Jumps.{IsPlaceReached}
use Rattle.drt_steps.proofs.jump.place_from.Given as goal

abbrev pub invariant-loop-place : goal.invariant-loop-place
invariant-loop-place l = IsPlaceReached l.jumps l.t l.place

abbrev pub decreases-loop-place : goal.decreases-loop-place
decreases-loop-place l = length l.jumps - l.place
