-- What is left beside what the places so far ask for.
use Rattle.std.proofs.Common.{◌≡◌, ◌+◌, drop}
use Rattle.drt_states.specs.States.{asked_from}
use Rattle.drt_check_states.proofs.passing.fits.Given as goal

abbrev pub invariant-loop-i : goal.invariant-loop-i
invariant-loop-i l = asked_from 0 l.tails l.entries l.t + l.left ≡ l.room + asked_from l.i (drop l.i l.tails) l.entries l.t
