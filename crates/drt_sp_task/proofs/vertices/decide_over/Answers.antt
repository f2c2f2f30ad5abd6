use Rattle.std.proofs.Common.{◌≡◌, List, length, refl, ap, arith}
use Rattle.drt_model.specs.declared.tasks.Task.{Task}
use Rattle.drt_model.specs.Digraph.{vertex_count}
use Rattle.drt_model.specs.Walk.{deadline, wcet}
use Rattle.drt_busy.specs.Choice.{graph_at}
use Rattle.drt_sp.specs.Items.{IsFailure, IsSpentRefinement}
use Rattle.drt_sp.specs.Vertices.{AreVertexProofs, IsStop}
use Rattle.drt_sp_task.specs.declared.given.Given.{Given}
use Rattle.drt_sp_task.specs.declared.trees.HigherTrees.{HigherTrees}
use Rattle.drt_sp_task.proofs.Above.{chosen_here, failing, few_roots, graph_here, meeting, spent_here}
use Rattle.drt_sp_task.proofs.vertices.decide_over.Goals as goal

pub prove_vertices-requires-clause-few : goal.prove_vertices-requires-clause-few
prove_vertices-requires-clause-few g c κs within =
    omega (
      arith,
      few_roots c.args.given c.requires.order c.keep_limits.ensures.limits c.args.task c.args.trees.now c.requires.trees c.show_sound.ensures,
      ap length c.as_slice-roots.ensures.value,
    )

pub prove_vertices-requires-clause-roots : goal.prove_vertices-requires-clause-roots
prove_vertices-requires-clause-roots g c κs within =
    let given : Given = c.args.given in
    let k = c.args.task in
    let graph : c.graph.result.now ≡ graph_at given.set.now.tasks k = graph_here given c.requires.order c.graphs-graphs.ensures.graphs k c.requires.task c.graph.ensures.graph in
    rw (graph, c.as_slice-roots.ensures.value) (chosen_here given c.requires.order c.keep_limits.ensures.limits k c.args.trees.now c.requires.trees c.show_sound.ensures)

pub returns-in-Passed : goal.returns-in-Passed
returns-in-Passed g c =
    let given : Given = c.args.given in
    let tasks : List Task = given.set.now.tasks in
    let k = c.args.task in
    let trees : HigherTrees = c.args.trees.now in
    let graph : c.graph.result.now ≡ graph_at tasks k = graph_here given c.requires.order c.graphs-graphs.ensures.graphs k c.requires.task c.graph.ensures.graph in
    let came : AreVertexProofs trees.forest trees.roots.items (graph_at tasks k) k (vertex_count (graph_at tasks k)) c.in-Passed._proofs
    = rw (c.in-Passed.is, graph, c.as_slice-roots.ensures.value) at c.in_ok-_proofs.ensures in
    meeting given c.requires.order c.keep_limits.ensures.limits k trees c.requires.trees c.show_sound.ensures c.leaves_pass.ensures c.times_suffice_for_task.ensures c.keep_limits.ensures.constrained
    c.in-Passed._proofs came

pub find_miss-requires-clause-failed : goal.find_miss-requires-clause-failed
find_miss-requires-clause-failed g c =
    let given : Given = c.args.given in
    let tasks : List Task = given.set.now.tasks in
    let k = c.args.task in
    let v = c.in-Failed.vertex in
    let trees : HigherTrees = c.args.trees.now in
    let graph : c.graph.result.now ≡ graph_at tasks k = graph_here given c.requires.order c.graphs-graphs.ensures.graphs k c.requires.task c.graph.ensures.graph in
    let came : IsStop trees.forest trees.roots.items (graph_at tasks k) v
    × IsFailure trees.forest (wcet (graph_at tasks k) v) (deadline (graph_at tasks k) v) trees.roots.items c.in-Failed.tuple
    = rw (c.in-Failed.is, graph, c.as_slice-roots.ensures.value) at c.in_ok-_proofs.ensures in
    failing given c.requires.order c.keep_limits.ensures.limits k trees c.requires.trees c.show_sound.ensures v c.in-Failed.tuple came.0.vertex came.1

pub returns-in-Spent : goal.returns-in-Spent
returns-in-Spent g c =
    let given : Given = c.args.given in
    let tasks : List Task = given.set.now.tasks in
    let k = c.args.task in
    let v = c.in-Spent.vertex in
    let budget = c.args.crew.now.effort.budget in
    let trees : HigherTrees = c.args.trees.now in
    let graph : c.graph.result.now ≡ graph_at tasks k = graph_here given c.requires.order c.graphs-graphs.ensures.graphs k c.requires.task c.graph.ensures.graph in
    let came : IsStop trees.forest trees.roots.items (graph_at tasks k) v
    × IsSpentRefinement trees.forest (wcet (graph_at tasks k) v) (deadline (graph_at tasks k) v) trees.roots.items budget c.in-Spent.log
    = rw (c.in-Spent.is, graph, c.as_slice-roots.ensures.value) at c.in_ok-_proofs.ensures in (
      refl,
      spent_here given c.requires.order c.keep_limits.ensures.limits k trees c.requires.trees c.show_sound.ensures c.leaves_pass.ensures
          c.over_every_interleaving.ensures.short budget v c.in-Spent.log came.0 came.1,
    )
