use Rattle.std.proofs.Common.{◌+◌, ◌++◌, drop, map, ap, ◌∙◌}
use Rattle.std.proofs.lemmas.Bool.{both_ways, false≢true}
use Rattle.std.proofs.lemmas.List.{map-append}
use Rattle.std.specs.List.{AllByRecursion}
use Rattle.drt_check_proofs.specs.Points.{IsTimely, marks, marks_of, room}
use Rattle.drt_check_proofs.proofs.Rest.{added_more, flat_turned, left_fails, left_more}
use Rattle.drt_check_proofs.proofs.rooms.add_rooms.Goals as goal

pub returns-then-not-branch-clause-timely : goal.returns-then-not-branch-clause-timely
returns-then-not-branch-clause-timely c =
    let tasks = c.args.tasks.now in
    let proofs = c.args.proofs.now in
    let k = c.proofs.proof-index in (
      λ e. absurd (false≢true e),
      λ all. absurd (left_fails IsTimely (AllByRecursion IsTimely (marks tasks proofs)) (marks tasks (drop k proofs)) (marks_of tasks c.proof-item.result) (marks tasks (drop (k + 1) proofs))
          (flat_turned (marks_of tasks) proofs k c.proof-item.result c.proofs-test.true c.proof-item.is)
          (λ is. both_ways c.in_ok-add_proof.field-0 c.if-not-branch.true (c.in_ok-add_proof.ensures.timely.1 is))
          c.proofs.invariant.0 all),
    )

pub proofs-preserved : goal.proofs-preserved
proofs-preserved c =
    let tasks = c.args.tasks.now in
    let proofs = c.args.proofs.now in
    let k = c.proofs.proof-index in
    let split = flat_turned (marks_of tasks) proofs k c.proof-item.result c.proofs-test.true c.proof-item.is in
    let step = marks_of tasks c.proof-item.result in
    let rest = marks tasks (drop (k + 1) proofs) in
    let left = marks tasks (drop k proofs) in
    let yes = c.if-not-branch.false in (
      left_more IsTimely (AllByRecursion IsTimely (marks tasks proofs)) left step rest split (c.in_ok-add_proof.ensures.timely.0 yes) c.proofs.invariant.0,
      added_more c.proofs.rooms.items c.add_proof.new.rooms.items (map room step) (map room rest) (map room left) (c.args.rooms.now.items ++ map room (marks tasks proofs))
          (ap (map room) split ∙ map-append room step rest) (c.in_ok-add_proof.ensures.rooms yes) c.proofs.invariant.1,
    )
