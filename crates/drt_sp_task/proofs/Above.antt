-- What the trees of the tasks of higher priority say of the task: where its analysis stands at a vertex, and what ends it.
use Rattle.std.proofs.Common.{◌≡◌, ℕ, map, ◌+◌, ◌<◌, ◌≤◌, List, [], ◌∷◌, ◌++◌, length, refl, sym, ap, ◌∙◌, subst, arith}
use Rattle.std.specs.Prelude.{Some, slice_get}
use Rattle.std.proofs.lemmas.List.{length-map}
use Rattle.std.proofs.lemmas.Option.{get_or_from_slice_get, slice_get_within}
use Rattle.drt_model.specs.Constrained.{AreConstrained}
use Rattle.drt_model.specs.Digraph.{Digraph, digraph_of, vertex_count}
use Rattle.drt_model.specs.Limits.{IsTaskSet}
use Rattle.drt_model.specs.Walk.{deadline, wcet}
use Rattle.drt_busy.specs.Choice.{graph_at, task_at}
use Rattle.drt_busy.specs.Decide.{TimesSufficeForTask}
use Rattle.drt_graph.specs.Graphs.{graph_of}
use Rattle.drt_tree.specs.Tree.{IsForest}
use Rattle.drt_steps.specs.Time.{AreChosen}
use Rattle.drt_refine.specs.Below.{AreNodes}
use Rattle.drt_refine.specs.declared.step.FrontierEntry.{FrontierEntry}
use Rattle.drt_sp.specs.ChoiceLaws.{IsPosed, LeavesPass}
use Rattle.drt_sp.specs.Choices.{VertexPasses}
use Rattle.drt_check_trees.specs.Order.{IsOrder}
use Rattle.drt_claims.specs.Trees.{greatest_deadline}
use Rattle.drt_claims.specs.declared.evidence.ProofClaim.{ProofClaim}
use Rattle.drt_releases.proofs.Walks.{graph_same}
use Rattle.drt_trails.specs.declared.FixedTrail.{FixedTrail}
use Rattle.drt_trails.specs.declared.FixedTrail.TheVariants.{Table, Refine}
use Rattle.drt_sp.specs.Claims.{begins}
use Rattle.drt_sp.specs.Items.{IsFailure, IsSpentRefinement}
use Rattle.drt_sp.specs.Progress.{AreTreesGrown}
use Rattle.drt_sp.specs.TaskTrees.{IsTaskTree}
use Rattle.drt_sp.specs.Vertices.{AreVertexProofs, IsStop, TuplesPass}
use Rattle.drt_sp.specs.declared.trees.TaskTree.{TaskTree}
use Rattle.drt_sp.proofs.Enough.{RefinementsAreShort, refinement_below}
use Rattle.drt_sp.proofs.ExactTrees.{grown_exact}
use Rattle.drt_sp.proofs.Growth.{grown_more, none_grown}
use Rattle.drt_sp.proofs.Orders.{order_count, order_place, order_rises}
use Rattle.drt_sp.proofs.Passing.{at_place, chosen_at, claimed_nodes, posed_at, proofs_pass, task_below, vertex_passes}
use Rattle.drt_sp.proofs.Yes.{few_tasks}
use Rattle.drt_sp_task.specs.Task.{IsMeeting, IsSpentTask, IsUndecidedTask, TaskPasses}
use Rattle.drt_sp_task.specs.Trees.{AreHigherTrees, AreTreesUpTo, IsFailing, IsSpentAtPlace}
use Rattle.drt_sp_task.specs.declared.given.Given.{Given}
use Rattle.drt_sp_task.specs.declared.trees.HigherTrees.{HigherTrees}

module _ (g : Given) (order_is : IsOrder g.set.now.tasks g.order.now) where
  -- The graph of a task among those of the set.
  pub graph_here : {graphs : List Digraph} {graph : Digraph} → graphs ≡ map digraph_of g.set.now.tasks → (k : ℕ) → k < length g.set.now.tasks → graph ≡ graph_of graphs k
      → graph ≡ graph_at g.set.now.tasks k
  graph_here own k l at = at ∙ (ap (λ gs. graph_of gs k) own ∙ graph_same g.set.now.tasks k l)

  pub graph_within : {graphs : List Digraph} → graphs ≡ map digraph_of g.set.now.tasks → (k : ℕ) → k < length g.set.now.tasks → k < length graphs
  graph_within own k l = omega (arith, l, ap length own, length-map g.set.now.tasks digraph_of)

  -- Each task has its place.
  pub task_place : (k : ℕ) → k < length g.set.now.tasks → (i : ℕ) × (slice_get g.order.now i ≡ Some k)
  task_place k l = let p = order_place g.set.now.tasks g.order.now order_is k l in (p.0, at_place g.set.now.tasks g.order.now order_is p.0 p.1 ∙ ap Some p.2)

  -- A search of the walks of a task at an earlier place spent its budget.
  pub spent_above : (budget k place m : ℕ) → place < m → slice_get g.order.now m ≡ Some k → (trail : FixedTrail) → IsSpentAtPlace g budget place trail
      → IsUndecidedTask g.set.now budget k trail
  spent_above budget k place m l at (Table task log) spent =
      let tasks = g.set.now.tasks in
      let order = g.order.now in
      let a = ap (λ j. (task_at tasks j).priority) (get_or_from_slice_get order place task 0 spent.0) in
      let b = ap (λ j. (task_at tasks j).priority) (get_or_from_slice_get order m k 0 at) in
      let rises = order_rises tasks order order_is place m l (slice_get_within order m k at) in
      (task_below tasks order order_is place task spent.0, omega (arith, rises, a, b), spent.1, spent.2)
  spent_above budget k place m l at (Refine task v log) spent = absurd spent

  -- No tree stands for no tasks.
  pub none_yet : (trees : HigherTrees) → trees.forest.nodes ≡ [] → trees.forest.pool ≡ [] → trees.roots.items ≡ [] → AreTreesUpTo g 0 trees
  none_yet trees nodes pool roots = record { claims = []; grown = none_grown g.set.now.tasks g.order.now trees.forest trees.roots.items [] nodes pool roots refl }

  module _ (limits : IsTaskSet g.set.now.version g.set.now.tasks) where
    -- There is room for one more tree.
    pub room_more : (place : ℕ) (trees : HigherTrees) → place < length g.order.now → AreTreesUpTo g place trees → length trees.forest.nodes + 2000192 ≤ 4294967295
    room_more place trees l before =
        omega (arith, before.grown.few, l, order_count g.set.now.tasks g.order.now order_is, few_tasks g.set.now.version g.set.now.tasks limits)

    -- One more tree.
    pub one_more : (place k : ℕ) → slice_get g.order.now place ≡ Some k → (old new : HigherTrees) (tree : TaskTree) → IsForest old.forest → AreTreesUpTo g place old
        → IsTaskTree (graph_at g.set.now.tasks k) (greatest_deadline g.set.now.tasks) old.forest new.forest tree → new.roots.items ≡ old.roots.items ++ tree.top ∷ []
        → AreTreesUpTo g (place + 1) new
    one_more place k at old new tree forest before added roots =
        let tasks = g.set.now.tasks in
        let claims = before.claims ++ tree.claim ∷ [] in
        let grown = grown_more tasks g.order.now place k at old.forest new.forest old.roots.items before.claims before.grown forest added.grows added.functions added.room
        tree.low tree.top tree.claim added.begins added.ends added.stands added.count added.claim added.rules added.range in
        record { claims = claims; grown = subst (λ rs. AreTreesGrown tasks g.order.now (place + 1) new.forest rs claims) (sym roots) grown }

    module _ (k : ℕ) (trees : HigherTrees) (above : AreHigherTrees g k trees) (forest : IsForest trees.forest) where
      -- There are fewer trees than tasks.
      pub few_roots : length trees.roots.items ≤ 31
      few_roots =
          let l = slice_get_within g.order.now above.place k above.at in
          omega (arith, above.stand.grown.count, l, order_count g.set.now.tasks g.order.now order_is, few_tasks g.set.now.version g.set.now.tasks limits)

      pub chosen_here : (v : ℕ) → v < vertex_count (graph_at g.set.now.tasks k) → AreChosen (deadline (graph_at g.set.now.tasks k) v) trees.forest.pool trees.roots.items
      chosen_here = chosen_at g.set.now.tasks g.order.now order_is g.set.now.version above.place k limits above.at
          trees.forest trees.roots.items above.stand.claims above.stand.grown forest

      nodes_here : AreNodes trees.forest trees.roots.items
      nodes_here = claimed_nodes (greatest_deadline g.set.now.tasks) trees.forest _ (begins 0 trees.roots.items) trees.roots.items above.stand.claims above.stand.grown.claimed

      posed_here : (v : ℕ) → v < vertex_count (graph_at g.set.now.tasks k)
          → IsPosed g.set.now.version g.set.now.tasks g.order.now (greatest_deadline g.set.now.tasks) trees.forest trees.roots.items k v
      posed_here = posed_at g.set.now.tasks g.order.now order_is g.set.now.version above.place k limits above.at
          trees.forest trees.roots.items above.stand.claims above.stand.grown

      passes_here : LeavesPass → (v : ℕ) → v < vertex_count (graph_at g.set.now.tasks k) → TuplesPass trees.forest trees.roots.items (graph_at g.set.now.tasks k) v
          → VertexPasses g.set.now.tasks k v
      passes_here = vertex_passes g.set.now.tasks g.order.now order_is g.set.now.version above.place k limits above.at
          trees.forest trees.roots.items above.stand.claims above.stand.grown

      -- Proofs of all vertices are a yes.
      pub meeting : LeavesPass → TimesSufficeForTask → AreConstrained g.set.now.tasks → (proofs : List ProofClaim)
          → AreVertexProofs trees.forest trees.roots.items (graph_at g.set.now.tasks k) k (vertex_count (graph_at g.set.now.tasks k)) proofs → IsMeeting g.set.now.tasks k
      meeting law suffice constrained proofs are =
          let tasks = g.set.now.tasks in
          let graph = graph_at tasks k in
          let passes : TaskPasses tasks k = λ v l. passes_here law v l (proofs_pass trees.forest trees.roots.items graph k (vertex_count graph) proofs are v l) in
          record { meets = λ rs legal j here of. suffice g.set.now.version tasks limits constrained k passes rs legal j here of; passes = passes }

      -- The tuple of a vertex that fails.
      pub failing : (v : ℕ) (tuple : List ℕ) → v < vertex_count (graph_at g.set.now.tasks k)
          → IsFailure trees.forest (wcet (graph_at g.set.now.tasks k) v) (deadline (graph_at g.set.now.tasks k) v) trees.roots.items tuple
          → IsFailing g trees.forest (record { task = k; vertex = v; tuple = tuple })
      failing v tuple l failure = record {
        tuple = record {
          roots = trees.roots.items;
          task = task_below g.set.now.tasks g.order.now order_is above.place k above.at;
          nodes = nodes_here;
          posed = posed_here v l;
          below = failure.below;
        };
        none = failure.hopeless;
      }

      -- A refinement that spent its budget.
      pub spent_here : LeavesPass → RefinementsAreShort → (budget v : ℕ) (log : List FrontierEntry) → IsStop trees.forest trees.roots.items (graph_at g.set.now.tasks k) v
          → IsSpentRefinement trees.forest (wcet (graph_at g.set.now.tasks k) v) (deadline (graph_at g.set.now.tasks k) v) trees.roots.items budget log
          → IsSpentTask g.set.now budget k v log
      spent_here law short budget v log stop spent = record {
        order = g.order.now;
        forest = trees.forest;
        roots = trees.roots.items;
        nodes = nodes_here;
        posed = posed_here v stop.vertex;
        earlier = λ u less. passes_here law u (omega (arith, less, stop.vertex)) (stop.earlier u less);
        forest_is = forest;
        few = above.stand.grown.few_leaves;
        exact = grown_exact g.set.now.tasks g.order.now above.place trees.forest trees.roots.items above.stand.claims above.stand.grown;
        refinement = spent;
        short =
            refinement_below g.set.now.tasks g.order.now order_is trees.forest trees.roots.items above.stand.grown.few_leaves k
            (ap (slice_get g.order.now) above.stand.grown.count ∙ above.at) short forest _ _ budget log spent;
      }
