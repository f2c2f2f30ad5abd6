-- What the worker has not given yet stands at its places, and the rest where it goes.
use Rattle.drt_wave.specs.Openers.{HasLanes}
use Rattle.drt_wave.proofs.opening.put_in.Given as goal

abbrev pub invariant-places : goal.invariant-places
invariant-places l = record {
  given : HasLanes l.plan l.places.items;
  left : HasLanes l.plan l.opener.places.items;
}
