use Rattle.std.proofs.Common.{ℕ, ◌+◌, ◌++◌, ◌∷◌, [], drop, map, refl, ap, ◌∙◌}
use Rattle.std.proofs.lemmas.Bool.{both_ways, false≢true}
use Rattle.std.proofs.lemmas.List.{map-append}
use Rattle.std.specs.List.{AllByRecursion}
use Rattle.drt_check_proofs.specs.Passing.{passing_times}
use Rattle.drt_check_proofs.specs.Points.{IsTimely, Mark, make_mark, room}
use Rattle.drt_check_proofs.proofs.Rest.{added_all, added_more, left_fails, left_more, left_none, times_ended, times_turned}
use Rattle.drt_check_proofs.proofs.Turns.{item_at}
use Rattle.drt_check_proofs.proofs.rooms.add_times.Goals as goal

pub returns-then-not-branch-clause-timely : goal.returns-then-not-branch-clause-timely
returns-then-not-branch-clause-timely c =
    let items = c.args.items.now in
    let k = c.items.item-index in
    let make : ℕ → Mark = make_mark c.args.wcet c.args.deadline in (
      λ e. absurd (false≢true e),
      λ all. absurd (left_fails IsTimely (AllByRecursion IsTimely (map make (passing_times items))) (map make (passing_times (drop k items)))
          (map make (passing_times (item_at items k ∷ []))) (map make (passing_times (drop (k + 1) items)))
          (times_turned make items k c.items-test.true) (λ is. both_ways c.in_ok-add_time.field-0 c.if-not-branch.true (c.in_ok-add_time.ensures.timely.1 is)) c.items.invariant.0 all),
    )

pub items-preserved : goal.items-preserved
items-preserved c =
    let items = c.args.items.now in
    let k = c.items.item-index in
    let make : ℕ → Mark = make_mark c.args.wcet c.args.deadline in
    let split = times_turned make items k c.items-test.true in
    let step = map make (passing_times (item_at items k ∷ [])) in
    let rest = map make (passing_times (drop (k + 1) items)) in
    let left = map make (passing_times (drop k items)) in
    let yes = c.if-not-branch.false in (
      left_more IsTimely (AllByRecursion IsTimely (map make (passing_times items))) left step rest split (c.in_ok-add_time.ensures.timely.0 yes) c.items.invariant.0,
      added_more c.items.rooms.items c.add_time.new.rooms.items (map room step) (map room rest) (map room left) (c.args.rooms.now.items ++ map room (map make (passing_times items)))
          (ap (map room) split ∙ map-append room step rest) (c.in_ok-add_time.ensures.rooms yes) c.items.invariant.1,
    )

pub returns-clause-timely : goal.returns-clause-timely
returns-clause-timely c =
    let items = c.args.items.now in
    let make : ℕ → Mark = make_mark c.args.wcet c.args.deadline in (
      λ e. left_none IsTimely (AllByRecursion IsTimely (map make (passing_times items))) (map make (passing_times (drop c.items.item-index items)))
          (times_ended make items c.items.item-index c.items-test.false) c.items.invariant.0,
      λ all. refl,
    )

pub returns-clause-rooms : goal.returns-clause-rooms
returns-clause-rooms c e =
    let items = c.args.items.now in
    let make : ℕ → Mark = make_mark c.args.wcet c.args.deadline in
    added_all c.items.rooms.items (map room (map make (passing_times (drop c.items.item-index items)))) (c.args.rooms.now.items ++ map room (map make (passing_times items)))
    (ap (map room) (times_ended make items c.items.item-index c.items-test.false)) c.items.invariant.1
