-- What is left decides, and what was added so far and what is left to add are the rooms before and all of the proofs.
use Rattle.std.proofs.Common.{◌≡◌, ◌++◌, drop, map}
use Rattle.std.specs.Prelude.{◌↔◌}
use Rattle.std.specs.List.{AllByRecursion}
use Rattle.drt_check_proofs.specs.Points.{IsTimely, marks, room}
use Rattle.drt_check_proofs.proofs.rooms.add_rooms.Given as goal

abbrev pub invariant-proofs : goal.invariant-proofs
invariant-proofs l =
    (AllByRecursion IsTimely (marks l.tasks l.proofs) ↔ AllByRecursion IsTimely (marks l.tasks (drop l.proof-index l.proofs)))
    × (l.rooms.items ++ map room (marks l.tasks (drop l.proof-index l.proofs)) ≡ l.initial.rooms.items ++ map room (marks l.tasks l.proofs))
