use Rattle.std.proofs.Common.{arith}
use Rattle.std.proofs.lemmas.Option.{slice_get_within}
use Rattle.drt_sp_task.specs.Trees.{IsSpentAtPlace}
use Rattle.drt_sp_task.proofs.Above.{none_yet, spent_above, task_place}
use Rattle.drt_sp_task.proofs.trees.grow_trees.Goals as goal

pub place_of-end-requires : goal.place_of-end-requires
place_of-end-requires g c = task_place c.args.given c.requires.order c.args.task c.requires.task

pub places-init : goal.places-init
places-init g c = none_yet c.args.given c.requires.order (record { forest = c.empty.result; roots = c.new.result }) c.empty.ensures.nodes c.empty.ensures.pool c.new.ensures.items

pub add_tree-requires-clause-here : goal.add_tree-requires-clause-here
add_tree-requires-clause-here g c κs within =
    omega (arith, slice_get_within c.args.given.order.now c.place_of-end.result c.args.task c.place_of-end.ensures, c.places-test.true)

pub returns-in-Some : goal.returns-in-Some
returns-in-Some g c =
    let spent : IsSpentAtPlace c.args.given c.args.crew.now.effort.budget c.places.place c.in-Some.trail = rw c.in-Some.is at c.in_ok-trail.ensures in
    spent_above c.args.given c.requires.order c.args.crew.now.effort.budget c.args.task c.places.place c.place_of-end.result c.places-test.true c.place_of-end.ensures
    c.in-Some.trail spent
