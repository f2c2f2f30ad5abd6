use Rattle.std.proofs.Common.{◌≡◌, ◌++◌, List, map, sym, ap, subst, ◌∙◌}
use Rattle.std.specs.Prelude.{◌↔◌, IsTrue, All}
use Rattle.std.specs.List.{AllByRecursion}
use Rattle.std.proofs.lemmas.Bool.{both_ways, false≢true}
use Rattle.std.proofs.lemmas.List.Elements.{All-from_recursion, recursion_from_All}
use Rattle.drt_model.specs.declared.tasks.Task.{Task}
use Rattle.drt_claims.specs.Proofs.{HasPassingTimes}
use Rattle.drt_claims.specs.Sorting.{sorted_graphs}
use Rattle.drt_check_proofs.specs.Points.{IsPoint, IsTimely, marks, points, room}
use Rattle.drt_check_proofs.proofs.Asking.{ok_then, ready_is}
use Rattle.drt_check_proofs.proofs.PointLaws.{marks_points, passing_points}
use Rattle.drt_check_proofs.proofs.RoomLaws.{rooms_first, timely_from}
use Rattle.drt_check_proofs.proofs.passing.have_passing_times.Goals as goal

pub returns-then-not-branch : goal.returns-then-not-branch
returns-then-not-branch c =
    let tasks = c.args.set.now.tasks in
    let trees = c.args.trees.now in
    let proofs = c.args.proofs.now in
    let graphs = sorted_graphs tasks trees in (
      λ e. absurd (false≢true e),
      λ all. (
          let passing = (passing_points tasks graphs trees proofs).0 (recursion_from_All (HasPassingTimes tasks graphs trees) proofs all) in
          let timely : AllByRecursion IsTimely (marks tasks proofs) = rw (marks_points tasks trees proofs c.requires.proofs) (timely_from graphs trees (points tasks trees proofs) passing) in
          let here = subst (λ (ts : List Task). AllByRecursion IsTimely (marks ts proofs)) (sym c.tasks.ensures.tasks) timely in
          absurd (both_ways c.in_ok-add_rooms.field-0 c.if-not-branch.true (c.in_ok-add_rooms.ensures.timely.1 here))),
    )

pub take_places-requires-clause-rooms : goal.take_places-requires-clause-rooms
take_places-requires-clause-rooms c =
    let tasks = c.args.set.now.tasks in
    let trees = c.args.trees.now in
    let proofs = c.args.proofs.now in
    let yes = c.if-not-branch.false in
    let timely = subst (λ (ts : List Task). AllByRecursion IsTimely (marks ts proofs)) c.tasks.ensures.tasks (c.in_ok-add_rooms.ensures.timely.0 yes) in
    let ready = ready_is c.args.set.now.version tasks trees proofs c.requires.proofs c.tasks.ensures.limits.each timely in
    let made : c.add_rooms.new.rooms.items ≡ map room (marks c.tasks.result.now proofs) =
    c.in_ok-add_rooms.ensures.rooms yes ∙ ap (λ xs. xs ++ map room (marks c.tasks.result.now proofs)) c.in_ok-rooms.ensures.items in
    rooms_first (sorted_graphs tasks trees) trees (points tasks trees proofs) c.as_mut_slice.result.now ready
    (c.as_mut_slice.ensures.value ∙ (made ∙ (ap (λ (ts : List Task). map room (marks ts proofs)) c.tasks.ensures.tasks ∙ ap (map room) (marks_points tasks trees proofs c.requires.proofs))))

pub returns : goal.returns
returns c =
    let tasks = c.args.set.now.tasks in
    let trees = c.args.trees.now in
    let proofs = c.args.proofs.now in
    let graphs = sorted_graphs tasks trees in
    let both = passing_points tasks graphs trees proofs in
    ok_then c.take_places.result (λ have. IsTrue have ↔ AllByRecursion (IsPoint graphs trees) (points tasks trees proofs)) (λ have. IsTrue have ↔ All (HasPassingTimes tasks graphs trees) proofs)
    (λ have decides. (
      λ e. All-from_recursion (HasPassingTimes tasks graphs trees) proofs (both.1 (decides.0 e)),
      λ all. decides.1 (both.0 (recursion_from_All (HasPassingTimes tasks graphs trees) proofs all)),
    )) c.take_places.ensures
