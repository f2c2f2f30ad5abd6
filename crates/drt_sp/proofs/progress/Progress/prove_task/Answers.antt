use Rattle.std.proofs.Common.{◌≡◌, ℕ, ◌+◌, ◌<◌, Some, List, length, get_or, ap, arith, ◌∙◌}
use Rattle.std.specs.Prelude.{slice_get}
use Rattle.std.proofs.lemmas.List.{length-map}
use Rattle.drt_model.specs.declared.tasks.Task.{Task}
use Rattle.drt_model.specs.Digraph.{digraph_of, vertex_count}
use Rattle.drt_model.specs.Limits.{IsTaskSet}
use Rattle.drt_model.specs.Walk.{deadline, wcet}
use Rattle.drt_graph.specs.Graphs.{graph_of}
use Rattle.drt_busy.specs.Choice.{graph_at}
use Rattle.drt_tree.specs.Tree.{Plain}
use Rattle.drt_sp.specs.Choices.{FirstPass}
use Rattle.drt_check_trees.specs.Order.{IsOrder}
use Rattle.drt_claims.specs.declared.evidence.TreeClaim.{TreeClaim}
use Rattle.drt_releases.proofs.Walks.{graph_same}
use Rattle.drt_sp.specs.Items.{IsFailure, IsSpentRefinement}
use Rattle.drt_sp.specs.Vertices.{AreVertexProofs, IsStop}
use Rattle.drt_sp.proofs.Enough.{refinement_below}
use Rattle.drt_sp.proofs.FirstVertices.{}
use Rattle.drt_sp.proofs.Growth.{proved_more}
use Rattle.drt_sp.proofs.Orders.{order_below, order_count}
use Rattle.drt_sp.proofs.Passing.{at_place, chosen_at, first_more, proofs_pass, reached_at, vertex_passes}
use Rattle.drt_sp.proofs.Yes.{few_tasks}
use Rattle.drt_sp.proofs.progress.Progress.prove_task.Goals as goal

pub graph-graph-requires : goal.graph-graph-requires
graph-graph-requires g c =
    let tasks : List Task = c.args.given.now.set.now.tasks in
    let order : List ℕ = c.args.given.now.order.now in
    omega (arith, order_below tasks order c.requires.order c.args.place c.requires.here, ap length c.graphs-graphs.ensures.graphs, length-map tasks digraph_of)

pub prove_vertices-requires-clause-few : goal.prove_vertices-requires-clause-few
prove_vertices-requires-clause-few g c =
    let set = c.args.given.now.set.now in
    let tasks : List Task = set.tasks in
    let order : List ℕ = c.args.given.now.order.now in
    let place = c.args.place in
    let k = get_or order place 0 in
    let is : IsOrder tasks order = c.requires.order in
    let f : Plain = c.args.self.now.forest in
    let roots : List ℕ = c.args.self.now.roots.items in
    let trees : List TreeClaim = c.args.self.now.trees.items in
    let limits : IsTaskSet set.version tasks = c.keep_limits.ensures.limits in
    let l : place < length order = c.requires.here in
    omega (arith, ap length c.as_slice.ensures.value, c.requires.grown.count, l, order_count tasks order is, few_tasks set.version tasks limits)

pub prove_vertices-requires-clause-roots : goal.prove_vertices-requires-clause-roots
prove_vertices-requires-clause-roots g c κs within =
    let set = c.args.given.now.set.now in
    let tasks : List Task = set.tasks in
    let order : List ℕ = c.args.given.now.order.now in
    let place = c.args.place in
    let k = get_or order place 0 in
    let is : IsOrder tasks order = c.requires.order in
    let f : Plain = c.args.self.now.forest in
    let roots : List ℕ = c.args.self.now.roots.items in
    let trees : List TreeClaim = c.args.self.now.trees.items in
    let limits : IsTaskSet set.version tasks = c.keep_limits.ensures.limits in
    let l : place < length order = c.requires.here in
    let at : slice_get order place ≡ Some k = at_place tasks order is place l in
    let below : k < length tasks = order_below tasks order is place l in
    let graph : c.graph-graph.result.now ≡ graph_at tasks k = c.graph-graph.ensures.graph ∙ (ap (λ gs. graph_of gs k) c.graphs-graphs.ensures.graphs ∙ graph_same tasks k below) in
    rw (graph, c.as_slice.ensures.value) (chosen_at tasks order is set.version place k limits at f roots trees c.requires.grown c.show_sound.ensures)

pub refusal-requires : goal.refusal-requires
refusal-requires g c =
    let set = c.args.given.now.set.now in
    let tasks : List Task = set.tasks in
    let order : List ℕ = c.args.given.now.order.now in
    let place = c.args.place in
    let k = get_or order place 0 in
    let is : IsOrder tasks order = c.requires.order in
    let f : Plain = c.args.self.now.forest in
    let roots : List ℕ = c.args.self.now.roots.items in
    let trees : List TreeClaim = c.args.self.now.trees.items in
    let limits : IsTaskSet set.version tasks = c.keep_limits.ensures.limits in
    let l : place < length order = c.requires.here in
    let at : slice_get order place ≡ Some k = at_place tasks order is place l in
    let below : k < length tasks = order_below tasks order is place l in
    let graph : c.graph-graph.result.now ≡ graph_at tasks k = c.graph-graph.ensures.graph ∙ (ap (λ gs. graph_of gs k) c.graphs-graphs.ensures.graphs ∙ graph_same tasks k below) in
    let v = c.in-Failed.vertex in
    let came : IsStop f roots (graph_at tasks k) v × IsFailure f (wcet (graph_at tasks k) v) (deadline (graph_at tasks k) v) roots c.in-Failed.tuple
    = rw (c.in-Failed.is, graph, c.as_slice.ensures.value) at c.in_ok-proofs.ensures in
    record {
      roots = roots;
      reached =
          reached_at set order is limits c.graphs-graphs.ensures.constrained c.times_suffice_for_task.ensures c.leaves_pass.ensures place k v at f roots trees
          c.show_sound.ensures c.requires.grown c.requires.proved.passed came.0.vertex came.0.earlier;
      failure = came.1;
    }

pub returns-in-Passed-clause-decided : goal.returns-in-Passed-clause-decided
returns-in-Passed-clause-decided g c =
    let set = c.args.given.now.set.now in
    let tasks : List Task = set.tasks in
    let order : List ℕ = c.args.given.now.order.now in
    let place = c.args.place in
    let k = get_or order place 0 in
    let is : IsOrder tasks order = c.requires.order in
    let f : Plain = c.args.self.now.forest in
    let roots : List ℕ = c.args.self.now.roots.items in
    let trees : List TreeClaim = c.args.self.now.trees.items in
    let limits : IsTaskSet set.version tasks = c.keep_limits.ensures.limits in
    let l : place < length order = c.requires.here in
    let at : slice_get order place ≡ Some k = at_place tasks order is place l in
    let below : k < length tasks = order_below tasks order is place l in
    let graph : c.graph-graph.result.now ≡ graph_at tasks k = c.graph-graph.ensures.graph ∙ (ap (λ gs. graph_of gs k) c.graphs-graphs.ensures.graphs ∙ graph_same tasks k below) in
    let came : AreVertexProofs f roots (graph_at tasks k) k (vertex_count (graph_at tasks k)) c.in-Passed.proofs
    = rw (c.in-Passed.is, graph, c.as_slice.ensures.value) at c.in_ok-proofs.ensures in
    let first : FirstPass tasks order (place + 1) = first_more tasks order is place k at c.requires.proved.passed (λ v w.
    vertex_passes tasks order is set.version place k limits at f roots trees c.requires.grown c.leaves_pass.ensures v w
    (proofs_pass f roots (graph_at tasks k) k (vertex_count (graph_at tasks k)) c.in-Passed.proofs came v w)) in
    proved_more tasks order is place k at f roots trees c.show_sound.ensures c.requires.grown c.args.self.now.proofs.items c.requires.proved first c.in-Passed.proofs came

pub returns-in-Spent-clause-decided : goal.returns-in-Spent-clause-decided
returns-in-Spent-clause-decided g c =
    let set = c.args.given.now.set.now in
    let tasks : List Task = set.tasks in
    let order : List ℕ = c.args.given.now.order.now in
    let place = c.args.place in
    let k = get_or order place 0 in
    let is : IsOrder tasks order = c.requires.order in
    let f : Plain = c.args.self.now.forest in
    let roots : List ℕ = c.args.self.now.roots.items in
    let trees : List TreeClaim = c.args.self.now.trees.items in
    let limits : IsTaskSet set.version tasks = c.keep_limits.ensures.limits in
    let l : place < length order = c.requires.here in
    let at : slice_get order place ≡ Some k = at_place tasks order is place l in
    let below : k < length tasks = order_below tasks order is place l in
    let graph : c.graph-graph.result.now ≡ graph_at tasks k = c.graph-graph.ensures.graph ∙ (ap (λ gs. graph_of gs k) c.graphs-graphs.ensures.graphs ∙ graph_same tasks k below) in
    let v = c.in-Spent.vertex in
    let came : IsStop f roots (graph_at tasks k) v × IsSpentRefinement f (wcet (graph_at tasks k) v) (deadline (graph_at tasks k) v) roots c.args.crew.now.effort.budget c.in-Spent.log
    = rw (c.in-Spent.is, graph, c.as_slice.ensures.value) at c.in_ok-proofs.ensures in
    record {
      order = order;
      forest = f;
      roots = roots;
      reached =
          reached_at set order is limits c.graphs-graphs.ensures.constrained c.times_suffice_for_task.ensures c.leaves_pass.ensures place k v at f roots trees
          c.show_sound.ensures c.requires.grown c.requires.proved.passed came.0.vertex came.0.earlier;
      refinement = came.1;
      short =
          refinement_below tasks order is f roots c.requires.grown.few_leaves k (ap (slice_get order) c.requires.grown.count ∙ at)
          c.over_every_interleaving.ensures.short c.show_sound.ensures _ _ c.args.crew.now.effort.budget c.in-Spent.log came.1;
    }
