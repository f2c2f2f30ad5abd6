use Rattle.std.proofs.Common.{◌≡◌, ℕ, ◌+◌, ◌<◌, Some, List, length, get_or, ap, arith, ◌∙◌}
use Rattle.std.specs.Prelude.{slice_get}
use Rattle.std.proofs.lemmas.List.{length-map}
use Rattle.drt_model.specs.Contents.{Contents}
use Rattle.drt_model.specs.declared.tasks.Task.{Task}
use Rattle.drt_model.specs.Digraph.{digraph_of}
use Rattle.drt_model.specs.Limits.{IsTaskSet}
use Rattle.drt_graph.specs.Graphs.{graph_of}
use Rattle.drt_busy.specs.Choice.{graph_at}
use Rattle.drt_tree.specs.Tree.{Plain}
use Rattle.drt_sp.specs.Choices.{FirstPass}
use Rattle.drt_check_trees.specs.Order.{IsOrder}
use Rattle.drt_claims.specs.declared.evidence.TreeClaim.{TreeClaim}
use Rattle.drt_releases.proofs.Walks.{graph_same}
use Rattle.drt_claims.specs.Trees.{greatest_deadline}
use Rattle.drt_sp.specs.TaskTrees.{IsTaskTree}
use Rattle.drt_sp.specs.TreeClaims.{IsSpentWalkSearch}
use Rattle.drt_sp.proofs.Enough.{search_below}
use Rattle.drt_sp.proofs.Growth.{grown_more, proved_kept, trees_count}
use Rattle.drt_sp.proofs.Orders.{order_below, order_count, order_rises}
use Rattle.drt_sp.proofs.Passing.{at_place, first_meet, higher_meet}
use Rattle.drt_sp.proofs.Yes.{few_tasks}
use Rattle.drt_sp.proofs.progress.Progress.add_tree.Goals as goal

pub graph-graph-requires : goal.graph-graph-requires
graph-graph-requires g c =
    let tasks : List Task = c.args.given.now.set.now.tasks in
    let order : List ℕ = c.args.given.now.order.now in
    omega (arith, order_below tasks order c.requires.order c.args.place (omega (arith, c.requires.here)), ap length c.graphs-graphs.ensures.graphs, length-map tasks digraph_of)

pub plant_tree-requires-clause-room : goal.plant_tree-requires-clause-room
plant_tree-requires-clause-room g c =
    let set = c.args.given.now.set.now in
    let tasks : List Task = set.tasks in
    let order : List ℕ = c.args.given.now.order.now in
    let place = c.args.place in
    let k = get_or order place 0 in
    let is : IsOrder tasks order = c.requires.order in
    let f : Plain = c.args.self.now.forest in
    let roots : List ℕ = c.args.self.now.roots.items in
    let trees : List TreeClaim = c.args.self.now.trees.items in
    let limits : IsTaskSet set.version tasks = c.keep_limits.ensures.limits in
    omega (arith, c.requires.grown.few, c.requires.here, order_count tasks order is, few_tasks set.version tasks limits)

pub plant_tree-requires-clause-found : goal.plant_tree-requires-clause-found
plant_tree-requires-clause-found g c =
    let until : c.from-bound.result ≡ greatest_deadline c.args.given.now.set.now.tasks
    = c.from-bound.ensures ∙ (c.greatest_deadline.ensures.value ∙ ap (λ (s : Contents). greatest_deadline s.tasks) c.set.ensures.set) in
    rw (c.graph-graph.ensures.graph, c.graphs-graphs.ensures.graphs, until) c.requires.found

pub returns-in_ok-push-in-Tree-2-clause-grown : goal.returns-in_ok-push-in-Tree-2-clause-grown
returns-in_ok-push-in-Tree-2-clause-grown g c =
    let set = c.args.given.now.set.now in
    let tasks : List Task = set.tasks in
    let order : List ℕ = c.args.given.now.order.now in
    let place = c.args.place in
    let k = get_or order place 0 in
    let is : IsOrder tasks order = c.requires.order in
    let f : Plain = c.args.self.now.forest in
    let roots : List ℕ = c.args.self.now.roots.items in
    let trees : List TreeClaim = c.args.self.now.trees.items in
    let limits : IsTaskSet set.version tasks = c.keep_limits.ensures.limits in
    let l : place < length order = omega (arith, c.requires.here) in
    let at : slice_get order place ≡ Some k = at_place tasks order is place l in
    let below : k < length tasks = order_below tasks order is place l in
    let graph : c.graph-graph.result.now ≡ graph_at tasks k = c.graph-graph.ensures.graph ∙ (ap (λ gs. graph_of gs k) c.graphs-graphs.ensures.graphs ∙ graph_same tasks k below) in
    let until : c.from-bound.result ≡ greatest_deadline tasks = c.from-bound.ensures ∙ (c.greatest_deadline.ensures.value ∙ ap (λ (s : Contents). greatest_deadline s.tasks) c.set.ensures.set) in
    let t : IsTaskTree (graph_at tasks k) (greatest_deadline tasks) f c.plant_tree.new.forest c.in-Tree.tree
    = rw (c.in-Tree.is, graph, until) at c.in_ok-tree.ensures in
    rw (c.in_ok-push-in-Tree.ensures.items, c.in_ok-push-in-Tree-2.ensures.items)
    (grown_more tasks order place k at f c.plant_tree.new.forest roots trees c.requires.grown c.show_sound.ensures t.grows t.functions t.room
    c.in-Tree.tree.low c.in-Tree.tree.top c.in-Tree.tree.claim t.begins t.ends t.stands t.count t.claim t.rules t.range)

pub returns-in_ok-push-in-Tree-2-clause-proved : goal.returns-in_ok-push-in-Tree-2-clause-proved
returns-in_ok-push-in-Tree-2-clause-proved g c =
    let set = c.args.given.now.set.now in
    let tasks : List Task = set.tasks in
    let order : List ℕ = c.args.given.now.order.now in
    let place = c.args.place in
    let k = get_or order place 0 in
    let is : IsOrder tasks order = c.requires.order in
    let f : Plain = c.args.self.now.forest in
    let roots : List ℕ = c.args.self.now.roots.items in
    let trees : List TreeClaim = c.args.self.now.trees.items in
    let limits : IsTaskSet set.version tasks = c.keep_limits.ensures.limits in
    let l : place < length order = omega (arith, c.requires.here) in
    let count : length trees ≡ place = trees_count tasks order place (omega arith) f roots trees c.requires.grown in
    rw c.in_ok-push-in-Tree-2.ensures.items (proved_kept tasks order (place + 1) trees c.in-Tree.tree.claim c.args.self.now.proofs.items (omega (arith, count)) c.requires.proved)

pub returns-in-Spent-clause-grown : goal.returns-in-Spent-clause-grown
returns-in-Spent-clause-grown g c =
    let set = c.args.given.now.set.now in
    let tasks : List Task = set.tasks in
    let order : List ℕ = c.args.given.now.order.now in
    let place = c.args.place in
    let k = get_or order place 0 in
    let is : IsOrder tasks order = c.requires.order in
    let f : Plain = c.args.self.now.forest in
    let roots : List ℕ = c.args.self.now.roots.items in
    let trees : List TreeClaim = c.args.self.now.trees.items in
    let limits : IsTaskSet set.version tasks = c.keep_limits.ensures.limits in
    let l : place < length order = omega (arith, c.requires.here) in
    let at : slice_get order place ≡ Some k = at_place tasks order is place l in
    let below : k < length tasks = order_below tasks order is place l in
    let graph : c.graph-graph.result.now ≡ graph_at tasks k = c.graph-graph.ensures.graph ∙ (ap (λ gs. graph_of gs k) c.graphs-graphs.ensures.graphs ∙ graph_same tasks k below) in
    let until : c.from-bound.result ≡ greatest_deadline tasks = c.from-bound.ensures ∙ (c.greatest_deadline.ensures.value ∙ ap (λ (s : Contents). greatest_deadline s.tasks) c.set.ensures.set) in
    let spent : IsSpentWalkSearch (graph_at tasks k) (greatest_deadline tasks) c.args.crew.now.effort.budget c.in-Spent.log = rw (c.in-Spent.is, graph, until) at c.in_ok-tree.ensures in
    let first : FirstPass tasks order place = λ i j v m here w. c.requires.proved.passed i j v (omega (arith, m)) here w in
    record {
      task = below;
      lower = (get_or order (place + 1) 0, order_below tasks order is (place + 1) c.requires.here, order_rises tasks order is place (place + 1) (omega arith) c.requires.here);
      search = spent;
      short = search_below c.over_every_interleaving.ensures.short c.over_every_interleaving.ensures.slots set.version tasks limits k below c.args.crew.now.effort.budget c.in-Spent.log spent;
      meets = first_meet tasks order is set.version c.times_suffice_for_task.ensures limits c.graphs-graphs.ensures.constrained (place + 1) place k c.requires.proved.passed (omega arith) at;
      higher = higher_meet tasks order is set.version c.times_suffice_for_task.ensures limits c.graphs-graphs.ensures.constrained place k first at;
    }
