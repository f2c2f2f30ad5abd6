use Rattle.std.proofs.Common.{◌≡◌, ℕ, ◌<◌, Some, List, length, get_or, ap, ◌∙◌, arith}
use Rattle.std.specs.Prelude.{slice_get}
use Rattle.drt_model.specs.Contents.{Contents}
use Rattle.drt_model.specs.declared.tasks.Task.{Task}
use Rattle.drt_busy.specs.Choice.{graph_at}
use Rattle.drt_claims.specs.Trees.{greatest_deadline}
use Rattle.drt_sp.specs.TaskTrees.{IsTaskTree}
use Rattle.drt_sp.specs.TreeClaims.{IsSpentWalkSearch}
use Rattle.drt_sp.proofs.Enough.{search_below}
use Rattle.drt_sp.proofs.Orders.{order_below}
use Rattle.drt_sp.proofs.Passing.{at_place}
use Rattle.drt_sp_task.specs.declared.given.Given.{Given}
use Rattle.drt_sp_task.proofs.Above.{graph_here, graph_within, one_more, room_more}
use Rattle.drt_sp_task.proofs.trees.add_tree.Goals as goal

pub graph-requires : goal.graph-requires
graph-requires g c =
    let given : Given = c.args.given in
    graph_within given c.requires.order c.graphs-graphs.ensures.graphs (get_or given.order.now c.args.place 0)
    (order_below given.set.now.tasks given.order.now c.requires.order c.args.place c.requires.here)

pub search_tree-requires-clause-room : goal.search_tree-requires-clause-room
search_tree-requires-clause-room g c =
    omega (arith, room_more c.args.given c.requires.order c.keep_limits.ensures.limits c.args.place c.args.trees.now c.requires.here c.requires.before)

pub returns-in_ok-push-in-Tree : goal.returns-in_ok-push-in-Tree
returns-in_ok-push-in-Tree g c =
    let given : Given = c.args.given in
    let tasks : List Task = given.set.now.tasks in
    let order : List ℕ = given.order.now in
    let place = c.args.place in
    let k = get_or order place 0 in
    let at : slice_get order place ≡ Some k = at_place tasks order c.requires.order place c.requires.here in
    let below : k < length tasks = order_below tasks order c.requires.order place c.requires.here in
    let graph : c.graph.result.now ≡ graph_at tasks k = graph_here given c.requires.order c.graphs-graphs.ensures.graphs k below c.graph.ensures.graph in
    let latest : c.from.result ≡ greatest_deadline tasks
    = c.from.ensures ∙ (c.greatest_deadline.ensures.value ∙ ap (λ (s : Contents). greatest_deadline s.tasks) c.set.ensures.set) in
    let t : IsTaskTree (graph_at tasks k) (greatest_deadline tasks) c.args.trees.now.forest c.search_tree.new.forest c.in-Tree.tree
    = rw (c.in-Tree.is, graph, latest) at c.in_ok-tree.ensures in
    one_more given c.requires.order c.keep_limits.ensures.limits place k at c.args.trees.now _ c.in-Tree.tree
    c.show_sound.ensures c.requires.before t c.in_ok-push-in-Tree.ensures.items

pub returns-in-Spent : goal.returns-in-Spent
returns-in-Spent g c =
    let given : Given = c.args.given in
    let tasks : List Task = given.set.now.tasks in
    let order : List ℕ = given.order.now in
    let place = c.args.place in
    let k = get_or order place 0 in
    let at : slice_get order place ≡ Some k = at_place tasks order c.requires.order place c.requires.here in
    let below : k < length tasks = order_below tasks order c.requires.order place c.requires.here in
    let graph : c.graph.result.now ≡ graph_at tasks k = graph_here given c.requires.order c.graphs-graphs.ensures.graphs k below c.graph.ensures.graph in
    let latest : c.from.result ≡ greatest_deadline tasks
    = c.from.ensures ∙ (c.greatest_deadline.ensures.value ∙ ap (λ (s : Contents). greatest_deadline s.tasks) c.set.ensures.set) in
    let spent : IsSpentWalkSearch (graph_at tasks k) (greatest_deadline tasks) c.args.crew.now.effort.budget c.in-Spent.log
    = rw (c.in-Spent.is, graph, latest) at c.in_ok-tree.ensures in
    let laws = c.over_every_interleaving.ensures in (
      at,
      spent,
      search_below laws.short laws.slots given.set.now.version tasks c.keep_limits.ensures.limits k below c.args.crew.now.effort.budget c.in-Spent.log spent,
    )
