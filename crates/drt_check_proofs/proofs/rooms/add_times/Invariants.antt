-- What is left decides, and what was added so far and what is left to add are the rooms before and all of the items.
use Rattle.std.proofs.Common.{◌≡◌, ◌++◌, drop, map}
use Rattle.std.specs.Prelude.{◌↔◌}
use Rattle.std.specs.List.{AllByRecursion}
use Rattle.drt_check_proofs.specs.Passing.{passing_times}
use Rattle.drt_check_proofs.specs.Points.{IsTimely, make_mark, room}
use Rattle.drt_check_proofs.proofs.rooms.add_times.Given as goal

abbrev pub invariant-items : goal.invariant-items
invariant-items l =
    (AllByRecursion IsTimely (map (make_mark l.wcet l.deadline) (passing_times l.items)) ↔ AllByRecursion IsTimely (map (make_mark l.wcet l.deadline) (passing_times (drop l.item-index l.items))))
    × (l.rooms.items ++ map room (map (make_mark l.wcet l.deadline) (passing_times (drop l.item-index l.items))) ≡ l.initial.rooms.items ++ map room
    (map (make_mark l.wcet l.deadline) (passing_times l.items)))
