-- What was asked for so far was taken.
use Rattle.drt_claims.specs.Sorting.{sorted_graphs}
use Rattle.drt_check_proofs.specs.Points.{AreRooms, points}
use Rattle.drt_check_proofs.proofs.passing.take_places.Given as goal

abbrev pub invariant-places : goal.invariant-places
invariant-places l = AreRooms (sorted_graphs l.set.tasks l.trees) l.trees l.i (points l.set.tasks l.trees l.proofs) l.rooms
