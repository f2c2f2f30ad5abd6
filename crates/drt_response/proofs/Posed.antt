-- A vertex of a proved set, and the trees of the tasks of higher priority.
use Rattle.std.proofs.Common.{◌≡◌, ℕ, ◌<◌, ◌≤◌, Some, List, length, take, refl, ap, ◌∙◌, sym, arith}
use Rattle.std.specs.Prelude.{slice_get}
use Rattle.std.proofs.lemmas.Option.{slice_get_within}
use Rattle.drt_model.specs.Contents.{Contents}
use Rattle.drt_model.specs.Constrained.{AreConstrained}
use Rattle.drt_model.specs.Digraph.{vertex_count}
use Rattle.drt_model.specs.Walk.{deadline, wcet}
use Rattle.drt_busy.specs.Choice.{graph_at}
use Rattle.drt_busy.specs.Decide.{TimesSufficeForTask}
use Rattle.drt_steps.specs.Time.{AreChosen, Passes}
use Rattle.drt_refine.specs.Below.{AreBelow}
use Rattle.drt_sp.specs.Choices.{VertexPasses, chosen as chosen_of}
use Rattle.drt_sp.proofs.ChosenLeaves.{chosen_walks}
use Rattle.drt_sp.specs.ChoiceLaws.{IsGreatestTime, IsPosed, LeavesRespond, WalksPass, leaf_releases}
use Rattle.drt_claims.specs.Trees.{greatest_deadline}
use Rattle.drt_sp.specs.Answers.{IsVertexReached, IsTupleFor}
use Rattle.drt_sp.specs.Grown.{AreProvedTrees}
use Rattle.drt_sp.specs.declared.grown.ProvedTrees.{ProvedTrees}
use Rattle.drt_sp.proofs.ExactTrees.{exact_first}
use Rattle.drt_sp.proofs.GreatestDeadline.{deadline_near}
use Rattle.drt_sp.proofs.Orders.{order_count}
use Rattle.drt_sp.proofs.Passing.{higher_meet, nodes_chosen, task_below}
use Rattle.drt_sp.proofs.Yes.{few_tasks}
use Rattle.drt_worst.specs.Splitting.{IsGreatest, search_for}
use Rattle.drt_response.specs.Answers.{IsResponseOf}
use Rattle.drt_responses.specs.declared.response.Response.{Response}
use Rattle.drt_sp.proofs.Responses.{reaching_leaves}
use Rattle.drt_response.proofs.Firsts.{get_first, length_first, nodes_first, trees_first}

module _ (set : Contents) (trees : ProvedTrees) (are : AreProvedTrees set trees) (m k : ℕ) (at : slice_get trees.order m ≡ Some k) where
  within : m < length trees.order
  within = slice_get_within trees.order m k at

  pub few_first : m ≤ length trees.roots
  few_first = omega (arith, within, are.count)

  long : length (take m trees.roots) ≡ m
  long = length_first trees.roots m few_first

  pub at_most_31 : length (take m trees.roots) ≤ 31
  at_most_31 = omega (arith, long, within, order_count set.tasks trees.order are.order_is, few_tasks set.version set.tasks are.limits)

  task : k < length set.tasks
  task = task_below set.tasks trees.order are.order_is m k at

  pub pass : (v : ℕ) → v < vertex_count (graph_at set.tasks k) → VertexPasses set.tasks k v
  pass v l = are.passed m k v within at l

  module _ (v : ℕ) (vertex : v < vertex_count (graph_at set.tasks k)) where
    pub chosen : AreChosen (deadline (graph_at set.tasks k) v) trees.forest.pool (take m trees.roots)
    chosen = nodes_chosen (greatest_deadline set.tasks) (deadline (graph_at set.tasks k) v) trees.forest (take m trees.roots) are.forest.same are.one_bound (deadline_near set.tasks k v task vertex)
        (nodes_first trees.forest trees.roots m are.nodes)

    pub posed : IsPosed set.version set.tasks trees.order (greatest_deadline set.tasks) trees.forest (take m trees.roots) k v
    posed = record {
      limits = are.limits;
      order_is = are.order_is;
      trees = trees_first set.tasks (greatest_deadline set.tasks) trees.forest trees.order trees.roots m are.stand;
      subject = record { at = ap (slice_get trees.order) long ∙ at; vertex = vertex; near = deadline_near set.tasks k v task vertex };
    }

    pub tuples_pass : WalksPass → (tuple : List ℕ) → AreBelow trees.forest tuple (take m trees.roots)
        → (t : ℕ) × Passes (wcet (graph_at set.tasks k) v) (deadline (graph_at set.tasks k) v) trees.forest.pool tuple t
    tuples_pass law tuple below = law set.version set.tasks trees.order (greatest_deadline set.tasks) trees.forest (take m trees.roots) k v posed (pass v vertex) tuple below

    pub reached : AreConstrained set.tasks → TimesSufficeForTask → IsVertexReached set trees.order trees.forest (take m trees.roots) k v
    reached constrained suffice = record {
      task = task;
      nodes = nodes_first trees.forest trees.roots m are.nodes;
      posed = posed;
      passed = λ i j u l here w. are.passed i j u (omega (arith, l, long, within)) here w;
      higher = higher_meet set.tasks trees.order are.order_is set.version suffice are.limits constrained m k (λ i j u l here w. are.passed i j u (omega (arith, l, within)) here w) at;
      earlier = λ u less. pass u (omega (arith, less, vertex));
      forest = are.forest;
      few = λ i j root n here there most. are.few i j root n here (get_first trees.roots m i root there) most;
      exact = exact_first set.tasks trees.order trees.forest trees.roots m few_first are.exact;
    }

    pub tuple_for : (tuple : List ℕ) → AreBelow trees.forest tuple (take m trees.roots) → IsTupleFor set trees.order trees.forest k v tuple
    tuple_for tuple below = record { roots = take m trees.roots; task = task; nodes = nodes_first trees.forest trees.roots m are.nodes; posed = posed; below = below }

    pub response : AreConstrained set.tasks → LeavesRespond → (ticks : ℕ) (tuple : List ℕ)
        → IsGreatest (search_for trees.forest (wcet (graph_at set.tasks k) v) (deadline (graph_at set.tasks k) v)) (take m trees.roots) ticks tuple
        → (r : Response) → r.task ≡ k → r.vertex ≡ v → r.ticks ≡ ticks → r.releases ≡ leaf_releases set.tasks trees.forest trees.order tuple k v ticks → IsResponseOf set r
    response constrained law ticks tuple is r task_is vertex_is ticks_are releases_are =
        let greatest : IsGreatestTime set.tasks trees.forest (take m trees.roots) tuple k v ticks = record {
          below = is.reached.below;
          least = is.reached.least;
          most = λ other below. (let (t, least, le) = is.most other below in (t, least.passes, le));
        } in
        let (shown, reaching) = law set.version set.tasks trees.order (greatest_deadline set.tasks) trees.forest (take m trees.roots) k v posed constrained pass tuple ticks greatest in
        let made : IsResponseOf set (record { task = k; vertex = v; ticks = ticks; releases = leaf_releases set.tasks trees.forest trees.order tuple k v ticks }) = record {
          greatest = shown;
          reaching = reaching;
          walks = chosen_of set.tasks trees.forest ticks trees.order tuple;
          are = chosen_walks set.tasks trees.forest ticks (greatest_deadline set.tasks) trees.order (take m trees.roots) tuple posed.trees is.reached.below;
          releases_are = sym (reaching_leaves set.tasks trees.forest trees.order tuple k v ticks);
        } in
        rw (task_is, vertex_is, ticks_are, releases_are) made
