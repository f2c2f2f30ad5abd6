use Rattle.std.proofs.Common.{◌≡◌, length, refl, sym, subst, ◌∙◌, arith}
use Rattle.std.specs.Prelude.{Some, slice_get}
use Rattle.std.proofs.lemmas.Bool.{both_ways, false≢true}
use Rattle.std.proofs.lemmas.Option.{slice_get_read}
use Rattle.drt_claims.specs.Trees.{HasShortWalks, greatest_deadline}
use Rattle.drt_claims.specs.Sorting.{sorted_graphs}
use Rattle.drt_check_proofs.specs.Points.{points}
use Rattle.drt_check_proofs.proofs.Asking.{as_many, asked_is, graphs_few, ready_is, tree_is}
use Rattle.drt_check_proofs.proofs.RoomLaws.{each_at, rooms_last, rooms_more, values_fit}
use Rattle.drt_check_proofs.proofs.Withins.{queries_within}
use Rattle.drt_check_proofs.proofs.passing.take_places.Goals as goal

pub take_values-requires-clause-short : goal.take_values-requires-clause-short
take_values-requires-clause-short c =
    let tasks = c.args.set.now.tasks in
    let trees = c.args.trees.now in
    let tree = c.index-trees-i.result in
    let g = c.tree_graph-graph.result.now in
    let at : slice_get trees c.places.i ≡ Some tree = slice_get_read trees (length trees) c.places.i tree refl c.places-test.true c.index-trees-i.is in
    let short = each_at (HasShortWalks (greatest_deadline tasks)) (sorted_graphs tasks trees) trees c.places.i g tree c.requires.walks c.tree_graph-graph.ensures.graph at in
    subst (λ b. HasShortWalks b g tree) (sym c.greatest_deadline-bound.ensures.value) short

pub take_values-requires-clause-nodes : goal.take_values-requires-clause-nodes
take_values-requires-clause-nodes c =
    let tree = c.index-trees-i.result in
    let is = tree_is c.args.trees.now c.places.i tree c.requires.trees c.places-test.true c.index-trees-i.is in
    queries_within c.tasks-tasks.result.now tree c.places.i c.args.proofs.now c.as_slice.result.now is (c.as_slice.ensures.value ∙ c.in_ok-place_queries.ensures)

pub take_values-requires-clause-count : goal.take_values-requires-clause-count
take_values-requires-clause-count c =
    let tasks = c.args.set.now.tasks in
    let trees = c.args.trees.now in
    let proofs = c.args.proofs.now in
    let tree = c.index-trees-i.result in
    let at : slice_get trees c.places.i ≡ Some tree = slice_get_read trees (length trees) c.places.i tree refl c.places-test.true c.index-trees-i.is in
    let asked = asked_is tasks c.tasks-tasks.result.now trees c.places.i tree proofs c.as_slice.result.now c.place_queries.new.queries.items c.as_slice.ensures.value c.in_ok-place_queries.ensures
    c.tasks-tasks.ensures.tasks at c.requires.proofs in
    omega (arith, as_many c.places.i (points tasks trees proofs) c.as_slice.result.now asked, c.places.invariant.count)

pub returns-then-not-branch : goal.returns-then-not-branch
returns-then-not-branch c =
    let tasks = c.args.set.now.tasks in
    let trees = c.args.trees.now in
    let proofs = c.args.proofs.now in
    let tree = c.index-trees-i.result in
    let g = c.tree_graph-graph.result.now in
    let at : slice_get trees c.places.i ≡ Some tree = slice_get_read trees (length trees) c.places.i tree refl c.places-test.true c.index-trees-i.is in
    let asked = asked_is tasks c.tasks-tasks.result.now trees c.places.i tree proofs c.as_slice.result.now c.place_queries.new.queries.items c.as_slice.ensures.value c.in_ok-place_queries.ensures
    c.tasks-tasks.ensures.tasks at c.requires.proofs in
    let is = tree_is trees c.places.i tree c.requires.trees c.places-test.true c.index-trees-i.is in
    let ready = ready_is c.args.set.now.version tasks trees proofs c.requires.proofs c.tasks-tasks.ensures.limits.each c.requires.timely in
    let fit = values_fit (sorted_graphs tasks trees) trees c.places.i g tree (points tasks trees proofs) c.as_slice.result.now c.places.rooms
    c.tree_graph-graph.ensures.graph at is ready asked c.places.invariant in
    (λ e. absurd (false≢true e), λ all. absurd (both_ways c.in_ok-take_values.field-0 c.if-not-branch.true (c.in_ok-take_values.ensures.fits.1 (fit all))))

pub places-preserved : goal.places-preserved
places-preserved c =
    let tasks = c.args.set.now.tasks in
    let trees = c.args.trees.now in
    let proofs = c.args.proofs.now in
    let tree = c.index-trees-i.result in
    let g = c.tree_graph-graph.result.now in
    let at : slice_get trees c.places.i ≡ Some tree = slice_get_read trees (length trees) c.places.i tree refl c.places-test.true c.index-trees-i.is in
    let asked = asked_is tasks c.tasks-tasks.result.now trees c.places.i tree proofs c.as_slice.result.now c.place_queries.new.queries.items c.as_slice.ensures.value c.in_ok-place_queries.ensures
    c.tasks-tasks.ensures.tasks at c.requires.proofs in
    let is = tree_is trees c.places.i tree c.requires.trees c.places-test.true c.index-trees-i.is in
    let ready = ready_is c.args.set.now.version tasks trees proofs c.requires.proofs c.tasks-tasks.ensures.limits.each c.requires.timely in
    rooms_more (sorted_graphs tasks trees) trees c.places.i g tree (points tasks trees proofs) c.as_slice.result.now c.places.rooms c.take_values.new.rooms
    c.tree_graph-graph.ensures.graph at is ready asked c.places.invariant c.take_values.ensures.count (c.in_ok-take_values.ensures.left c.if-not-branch.false)

pub returns : goal.returns
returns c =
    let tasks = c.args.set.now.tasks in
    let trees = c.args.trees.now in
    let proofs = c.args.proofs.now in
    let ready = ready_is c.args.set.now.version tasks trees proofs c.requires.proofs c.tasks-tasks.ensures.limits.each c.requires.timely in
    let few = graphs_few tasks trees c.places.i c.places-test.false in
    (λ e. rooms_last (sorted_graphs tasks trees) trees c.places.i (points tasks trees proofs) c.places.rooms few ready c.places.invariant, λ all. refl)
