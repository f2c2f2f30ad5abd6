use Rattle.std.proofs.Common.{◌≡◌, ℕ, List, Some, length, take, refl, sym, ap, ◌∙◌, arith}
use Rattle.std.specs.Prelude.{slice_get}
use Rattle.drt_model.specs.Digraph.{vertex_of}
use Rattle.drt_model.specs.Walk.{deadline, wcet}
use Rattle.drt_model.specs.declared.tasks.Task.{Task}
use Rattle.drt_graph.specs.Graphs.{graph_of}
use Rattle.drt_busy.specs.Choice.{graph_at}
use Rattle.drt_sp.specs.ChoiceLaws.{leaf_releases}
use Rattle.drt_releases.proofs.Walks.{graph_same}
use Rattle.drt_sp.specs.declared.grown.ProvedTrees.{ProvedTrees}
use Rattle.drt_sp.proofs.Orders.{order_place}
use Rattle.drt_sp.proofs.Passing.{at_place}
use Rattle.drt_worst.specs.Splitting.{IsGreatest, Search, search_for}
use Rattle.drt_worst.specs.Spent.{IsSpent}
use Rattle.drt_responses.specs.declared.response.Response.{Response}
use Rattle.drt_response.proofs.Enough.{response_below}
use Rattle.drt_response.proofs.Posed.{at_most_31, chosen, few_first, reached, response, tuple_for, tuples_pass}
use Rattle.drt_response.proofs.vertex.respond_vertex.Goals as goal

pub place_of-requires : goal.place_of-requires
place_of-requires g c =
    let tasks : List Task = c.args.set.now.tasks in
    let order : List ℕ = c.args.trees.now.order in
    let (p, l, here) = order_place tasks order c.requires.trees.order_is c.args.at.task c.requires.task in
    rw c.as_slice-order.ensures (p, at_place tasks order c.requires.trees.order_is p l ∙ ap Some here)

pub first_roots-higher-requires : goal.first_roots-higher-requires
first_roots-higher-requires g c =
    let set = c.args.set.now in
    let trees : ProvedTrees = c.args.trees.now in
    let tasks : List Task = set.tasks in
    let m = c.place_of.result in
    let k = c.args.at.task in
    let v = c.args.at.vertex in
    let order : c.as_slice-order.result.now ≡ trees.order = c.as_slice-order.ensures in
    let at : slice_get trees.order m ≡ Some k = ap (λ (xs : List ℕ). slice_get xs m) (sym order) ∙ c.place_of.ensures in
    omega (arith, few_first set trees c.requires.trees m k at, ap length c.as_slice.ensures)

pub worst-requires-clause-few : goal.worst-requires-clause-few
worst-requires-clause-few g c κs within =
    let set = c.args.set.now in
    let trees : ProvedTrees = c.args.trees.now in
    let tasks : List Task = set.tasks in
    let m = c.place_of.result in
    let k = c.args.at.task in
    let v = c.args.at.vertex in
    let order : c.as_slice-order.result.now ≡ trees.order = c.as_slice-order.ensures in
    let at : slice_get trees.order m ≡ Some k = ap (λ (xs : List ℕ). slice_get xs m) (sym order) ∙ c.place_of.ensures in
    let roots : c.first_roots-higher.result.now ≡ take m trees.roots = c.first_roots-higher.ensures ∙ ap (λ (xs : List ℕ). take m xs) c.as_slice.ensures in
    let graph : c.graph.result.now ≡ graph_at tasks k = c.graph.ensures.graph ∙ (ap (λ gs. graph_of gs k) c.graphs-graphs.ensures.graphs ∙ graph_same tasks k c.requires.task) in
    let subject : c.vertex-subject.result.now ≡ vertex_of (graph_at tasks k) v = c.vertex-subject.ensures ∙ ap (λ g. vertex_of g v) graph in
    omega (arith, ap length roots, at_most_31 set trees c.requires.trees m k at)

pub worst-requires-clause-roots : goal.worst-requires-clause-roots
worst-requires-clause-roots g c κs within =
    let set = c.args.set.now in
    let trees : ProvedTrees = c.args.trees.now in
    let tasks : List Task = set.tasks in
    let m = c.place_of.result in
    let k = c.args.at.task in
    let v = c.args.at.vertex in
    let order : c.as_slice-order.result.now ≡ trees.order = c.as_slice-order.ensures in
    let at : slice_get trees.order m ≡ Some k = ap (λ (xs : List ℕ). slice_get xs m) (sym order) ∙ c.place_of.ensures in
    let roots : c.first_roots-higher.result.now ≡ take m trees.roots = c.first_roots-higher.ensures ∙ ap (λ (xs : List ℕ). take m xs) c.as_slice.ensures in
    let graph : c.graph.result.now ≡ graph_at tasks k = c.graph.ensures.graph ∙ (ap (λ gs. graph_of gs k) c.graphs-graphs.ensures.graphs ∙ graph_same tasks k c.requires.task) in
    let subject : c.vertex-subject.result.now ≡ vertex_of (graph_at tasks k) v = c.vertex-subject.ensures ∙ ap (λ g. vertex_of g v) graph in
    rw (roots, subject) (chosen set trees c.requires.trees m k at v c.requires.vertex)

pub worst-requires-clause-passes : goal.worst-requires-clause-passes
worst-requires-clause-passes g c κs within =
    let set = c.args.set.now in
    let trees : ProvedTrees = c.args.trees.now in
    let tasks : List Task = set.tasks in
    let m = c.place_of.result in
    let k = c.args.at.task in
    let v = c.args.at.vertex in
    let order : c.as_slice-order.result.now ≡ trees.order = c.as_slice-order.ensures in
    let at : slice_get trees.order m ≡ Some k = ap (λ (xs : List ℕ). slice_get xs m) (sym order) ∙ c.place_of.ensures in
    let roots : c.first_roots-higher.result.now ≡ take m trees.roots = c.first_roots-higher.ensures ∙ ap (λ (xs : List ℕ). take m xs) c.as_slice.ensures in
    let graph : c.graph.result.now ≡ graph_at tasks k = c.graph.ensures.graph ∙ (ap (λ gs. graph_of gs k) c.graphs-graphs.ensures.graphs ∙ graph_same tasks k c.requires.task) in
    let subject : c.vertex-subject.result.now ≡ vertex_of (graph_at tasks k) v = c.vertex-subject.ensures ∙ ap (λ g. vertex_of g v) graph in
    rw (roots, subject) (tuples_pass set trees c.requires.trees m k at v c.requires.vertex c.walks_pass.ensures)

pub leaf_releases-requires-clause-tuple : goal.leaf_releases-requires-clause-tuple
leaf_releases-requires-clause-tuple g c =
    let set = c.args.set.now in
    let trees : ProvedTrees = c.args.trees.now in
    let tasks : List Task = set.tasks in
    let m = c.place_of.result in
    let k = c.args.at.task in
    let v = c.args.at.vertex in
    let order : c.as_slice-order.result.now ≡ trees.order = c.as_slice-order.ensures in
    let at : slice_get trees.order m ≡ Some k = ap (λ (xs : List ℕ). slice_get xs m) (sym order) ∙ c.place_of.ensures in
    let roots : c.first_roots-higher.result.now ≡ take m trees.roots = c.first_roots-higher.ensures ∙ ap (λ (xs : List ℕ). take m xs) c.as_slice.ensures in
    let graph : c.graph.result.now ≡ graph_at tasks k = c.graph.ensures.graph ∙ (ap (λ gs. graph_of gs k) c.graphs-graphs.ensures.graphs ∙ graph_same tasks k c.requires.task) in
    let subject : c.vertex-subject.result.now ≡ vertex_of (graph_at tasks k) v = c.vertex-subject.ensures ∙ ap (λ g. vertex_of g v) graph in
    let s : Search = search_for trees.forest (wcet (graph_at tasks k) v) (deadline (graph_at tasks k) v) in
    let came : IsGreatest s (take m trees.roots) c.in-Reached.ticks c.in-Reached.leaves = rw (c.in-Reached.is, roots, subject) at c.in_ok-taken.ensures in
    rw order (tuple_for set trees c.requires.trees m k at v c.requires.vertex c.in-Reached.leaves came.reached.below)

pub returns-in-Spent : goal.returns-in-Spent
returns-in-Spent g c =
    let set = c.args.set.now in
    let trees : ProvedTrees = c.args.trees.now in
    let tasks : List Task = set.tasks in
    let m = c.place_of.result in
    let k = c.args.at.task in
    let v = c.args.at.vertex in
    let order : c.as_slice-order.result.now ≡ trees.order = c.as_slice-order.ensures in
    let at : slice_get trees.order m ≡ Some k = ap (λ (xs : List ℕ). slice_get xs m) (sym order) ∙ c.place_of.ensures in
    let roots : c.first_roots-higher.result.now ≡ take m trees.roots = c.first_roots-higher.ensures ∙ ap (λ (xs : List ℕ). take m xs) c.as_slice.ensures in
    let graph : c.graph.result.now ≡ graph_at tasks k = c.graph.ensures.graph ∙ (ap (λ gs. graph_of gs k) c.graphs-graphs.ensures.graphs ∙ graph_same tasks k c.requires.task) in
    let subject : c.vertex-subject.result.now ≡ vertex_of (graph_at tasks k) v = c.vertex-subject.ensures ∙ ap (λ g. vertex_of g v) graph in
    let s : Search = search_for trees.forest (wcet (graph_at tasks k) v) (deadline (graph_at tasks k) v) in
    let spent : IsSpent s (take m trees.roots) c.args.crew.now.effort.budget c.in-Spent.taken = rw (c.in-Spent.is, roots, subject) at c.in_ok-taken.ensures in
    let here = reached set trees c.requires.trees m k at v c.requires.vertex c.graphs-graphs.ensures.constrained c.times_suffice_for_task.ensures in
    record {
      order = trees.order;
      forest = trees.forest;
      roots = take m trees.roots;
      reached = here;
      spent = spent;
      short = response_below set c.args.crew.now.effort.budget trees.order trees.forest (take m trees.roots) k v here spent.short;
    }

pub returns-in_ok-releases-in-Reached : goal.returns-in_ok-releases-in-Reached
returns-in_ok-releases-in-Reached g c =
    let set = c.args.set.now in
    let trees : ProvedTrees = c.args.trees.now in
    let tasks : List Task = set.tasks in
    let m = c.place_of.result in
    let k = c.args.at.task in
    let v = c.args.at.vertex in
    let order : c.as_slice-order.result.now ≡ trees.order = c.as_slice-order.ensures in
    let at : slice_get trees.order m ≡ Some k = ap (λ (xs : List ℕ). slice_get xs m) (sym order) ∙ c.place_of.ensures in
    let roots : c.first_roots-higher.result.now ≡ take m trees.roots = c.first_roots-higher.ensures ∙ ap (λ (xs : List ℕ). take m xs) c.as_slice.ensures in
    let graph : c.graph.result.now ≡ graph_at tasks k = c.graph.ensures.graph ∙ (ap (λ gs. graph_of gs k) c.graphs-graphs.ensures.graphs ∙ graph_same tasks k c.requires.task) in
    let subject : c.vertex-subject.result.now ≡ vertex_of (graph_at tasks k) v = c.vertex-subject.ensures ∙ ap (λ g. vertex_of g v) graph in
    let s : Search = search_for trees.forest (wcet (graph_at tasks k) v) (deadline (graph_at tasks k) v) in
    let came : IsGreatest s (take m trees.roots) c.in-Reached.ticks c.in-Reached.leaves = rw (c.in-Reached.is, roots, subject) at c.in_ok-taken.ensures in
    let releases : c.in_ok-releases-in-Reached.releases ≡ leaf_releases tasks trees.forest trees.order c.in-Reached.leaves k v c.in-Reached.ticks
    = c.in_ok-releases-in-Reached.ensures.releases ∙ ap (λ (xs : List ℕ). leaf_releases tasks trees.forest xs c.in-Reached.leaves k v c.in-Reached.ticks) order in
    let r : Response = record { task = k; vertex = v; ticks = c.in-Reached.ticks; releases = c.in_ok-releases-in-Reached.releases } in (
      refl,
      refl,
      response set trees c.requires.trees m k at v c.requires.vertex c.graphs-graphs.ensures.constrained c.leaves_respond.ensures c.in-Reached.ticks
          c.in-Reached.leaves came r refl refl refl releases,
    )
