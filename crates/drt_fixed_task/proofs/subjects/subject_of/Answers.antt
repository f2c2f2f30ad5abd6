-- The subject is that of the vertex.
use Rattle.std.proofs.Common.{◌≡◌, ◌<◌, ℕ, List, length, refl, ap, ◌∙◌, arith}
use Rattle.drt_model.specs.declared.tasks.Task.{Task}
use Rattle.drt_model.specs.Digraph.{vertex_count, vertex_of}
use Rattle.drt_graph.specs.Graphs.{graph_of}
use Rattle.drt_busy.specs.Choice.{graph_at, task_at}
use Rattle.drt_claims.specs.Claims.{graphs_of}
use Rattle.drt_check_states.specs.Places.{graphs_at}
use Rattle.drt_releases.proofs.Walks.{graph_same}
use Rattle.drt_fixed_task.proofs.Placed.{higher_graphs}
use Rattle.drt_fixed_task.proofs.Vertices.{higher_counted, higher_most, tails_rise}
use Rattle.drt_fixed_task.proofs.subjects.subject_of.Goals as goal

pub returns-clause-subject : goal.returns-clause-subject
returns-clause-subject c =
    let given = c.requires.given in
    let tasks : List Task = c.args.given.set.now.tasks in
    let k = c.args.given.task in
    let graph : c.graph.result.now ≡ graph_at tasks k = c.graph.ensures.graph ∙ (ap (λ gs. graph_of gs k) c.graphs-graphs.ensures.graphs ∙ graph_same tasks k given.task) in
    let within : c.args.vertex < vertex_count c.graph.result.now = omega (arith, c.requires.vertex, ap (λ g. vertex_count g) graph) in
    let wcet = c.graph.ensures.sound.wcet c.args.vertex within in
    let deadline = c.graph.ensures.sound.deadline c.args.vertex within in
    let job = c.vertex-job.ensures in
    record {
      order = higher_counted tasks k c.graphs-graphs.result.now c.args.given.higher.now c.graphs-graphs.ensures.graphs given.higher;
      tails = tails_rise c.args.given.bound (graphs_at (graphs_of tasks) c.args.given.higher.now) c.args.given.tails.now given.tails;
      crests = given.crests;
      few = omega (arith, ap length given.higher, higher_most c.args.given.set.now.version tasks c.keep_limits.ensures.limits k given.task);
      wcet = omega (arith, wcet.1, ap (λ x. x.wcet) job);
      some = omega (arith, deadline.0, ap (λ x. x.deadline) job);
      most = omega (arith, deadline.1, ap (λ x. x.deadline) job);
    }

pub returns-clause-is : goal.returns-clause-is
returns-clause-is c =
    let given = c.requires.given in
    let tasks : List Task = c.args.given.set.now.tasks in
    let k = c.args.given.task in
    let graph : c.graph.result.now ≡ graph_at tasks k = c.graph.ensures.graph ∙ (ap (λ gs. graph_of gs k) c.graphs-graphs.ensures.graphs ∙ graph_same tasks k given.task) in
    let job : c.vertex-job.result.now ≡ vertex_of (graph_at tasks k) c.args.vertex = c.vertex-job.ensures ∙ ap (λ g. vertex_of g c.args.vertex) graph in
    record {
      graphs = ap (λ (xs : List ℕ). graphs_at c.graphs-graphs.result.now xs) given.higher ∙ higher_graphs tasks (task_at tasks k).priority c.graphs-graphs.result.now c.graphs-graphs.ensures.graphs;
      tails = refl;
      wcet = ap (λ x. x.wcet) job;
      deadline = ap (λ x. x.deadline) job;
    }
