-- The subject is that of the vertex: the tasks of higher priority are the first ones in order.
use Rattle.std.proofs.Common.{◌≡◌, ◌<◌, ◌≤◌, ℕ, List, length, get_or, sym, ap, ◌∙◌, arith, take}
use Rattle.std.proofs.lemmas.List.{get_or_default, length-take-le}
use Rattle.std.proofs.lemmas.List.Elements.{All-take}
use Rattle.drt_model.specs.declared.tasks.Task.{Task}
use Rattle.drt_model.specs.Digraph.{vertex_count, vertex_of}
use Rattle.drt_graph.specs.Graphs.{graph_of}
use Rattle.drt_busy.specs.Choice.{graph_at, no_task, task_at}
use Rattle.drt_releases.proofs.Walks.{graph_same}
use Rattle.drt_claims.specs.Trees.{higher_count}
use Rattle.drt_fixed.proofs.Prefixes.{zip_take}
use Rattle.drt_check_states.specs.Crests.{IsCrest}
use Rattle.drt_check_states.specs.Curves.{HasRisingCurves}
use Rattle.drt_check_states.specs.Places.{graphs_at}
use Rattle.drt_response.proofs.Orders.{few_higher, first_tasks, higher_graphs, higher_most, order_long, tails_long, zip_long}
use Rattle.drt_response.proofs.Rises.{tails_rise}
use Rattle.drt_response.proofs.subjects.subject_of.Goals as goal

pub slice_bounds-result-end : goal.slice_bounds-result-end
slice_bounds-result-end c =
    let tasks : List Task = c.args.given.set.now.tasks in
    let k = c.args.at.task in
    let t : Task = c.index-tasks-at.result in
    let e : c.tasks-tasks.result.now ≡ tasks = c.tasks-tasks.ensures.tasks in
    let here : get_or c.tasks-tasks.result.now k t ≡ task_at tasks k = ap (λ (ts : List Task). get_or ts k t) e ∙ get_or_default tasks k t no_task c.requires.task in
    let count : c.higher_count-count.result ≡ higher_count tasks (task_at tasks k).priority
    = c.higher_count-count.ensures ∙ (ap (λ (x : Task). higher_count c.tasks-tasks.result.now x.priority) here ∙ ap (λ (ts : List Task). higher_count ts (task_at tasks k).priority) e) in
    let few = few_higher tasks k c.requires.task in
    sym (length-take-le c.higher_count-count.result c.args.given.order.now (omega (arith, count, few, order_long tasks c.args.given.order.now c.requires.given.order)))

pub slice_bounds-result-end-2 : goal.slice_bounds-result-end-2
slice_bounds-result-end-2 c =
    let tasks : List Task = c.args.given.set.now.tasks in
    let k = c.args.at.task in
    let t : Task = c.index-tasks-at.result in
    let e : c.tasks-tasks.result.now ≡ tasks = c.tasks-tasks.ensures.tasks in
    let here : get_or c.tasks-tasks.result.now k t ≡ task_at tasks k = ap (λ (ts : List Task). get_or ts k t) e ∙ get_or_default tasks k t no_task c.requires.task in
    let count : c.higher_count-count.result ≡ higher_count tasks (task_at tasks k).priority
    = c.higher_count-count.ensures ∙ (ap (λ (x : Task). higher_count c.tasks-tasks.result.now x.priority) here ∙ ap (λ (ts : List Task). higher_count ts (task_at tasks k).priority) e) in
    let few = few_higher tasks k c.requires.task in
    sym (length-take-le c.higher_count-count.result c.args.given.tails.now (omega (arith, count, few, tails_long tasks c.args.given.tails.now c.requires.given.tails)))

pub slice_bounds-result-end-3 : goal.slice_bounds-result-end-3
slice_bounds-result-end-3 c =
    let tasks : List Task = c.args.given.set.now.tasks in
    let k = c.args.at.task in
    let t : Task = c.index-tasks-at.result in
    let e : c.tasks-tasks.result.now ≡ tasks = c.tasks-tasks.ensures.tasks in
    let here : get_or c.tasks-tasks.result.now k t ≡ task_at tasks k = ap (λ (ts : List Task). get_or ts k t) e ∙ get_or_default tasks k t no_task c.requires.task in
    let count : c.higher_count-count.result ≡ higher_count tasks (task_at tasks k).priority
    = c.higher_count-count.ensures ∙ (ap (λ (x : Task). higher_count c.tasks-tasks.result.now x.priority) here ∙ ap (λ (ts : List Task). higher_count ts (task_at tasks k).priority) e) in
    let few = few_higher tasks k c.requires.task in
    let side = zip_long IsCrest c.args.given.tails.now c.args.given.crests.now c.requires.given.crests in
    sym (length-take-le c.higher_count-count.result c.args.given.crests.now (omega (arith, count, few, side, tails_long tasks c.args.given.tails.now c.requires.given.tails)))

pub returns-clause-subject : goal.returns-clause-subject
returns-clause-subject c =
    let tasks : List Task = c.args.given.set.now.tasks in
    let k = c.args.at.task in
    let t : Task = c.index-tasks-at.result in
    let e : c.tasks-tasks.result.now ≡ tasks = c.tasks-tasks.ensures.tasks in
    let here : get_or c.tasks-tasks.result.now k t ≡ task_at tasks k = ap (λ (ts : List Task). get_or ts k t) e ∙ get_or_default tasks k t no_task c.requires.task in
    let count : c.higher_count-count.result ≡ higher_count tasks (task_at tasks k).priority
    = c.higher_count-count.ensures ∙ (ap (λ (x : Task). higher_count c.tasks-tasks.result.now x.priority) here ∙ ap (λ (ts : List Task). higher_count ts (task_at tasks k).priority) e) in
    let m : ℕ = c.higher_count-count.result in
    let few = few_higher tasks k c.requires.task in
    let long = length-take-le m c.args.given.order.now (omega (arith, count, few, order_long tasks c.args.given.order.now c.requires.given.order)) in
    let graph : c.graph.result.now ≡ graph_at tasks k = c.graph.ensures.graph ∙ (ap (λ gs. graph_of gs k) c.graphs-graphs.ensures.graphs ∙ graph_same tasks k c.requires.task) in
    let within : c.args.at.vertex < vertex_count c.graph.result.now = omega (arith, c.requires.vertex, ap (λ g. vertex_count g) graph) in
    let wcet = c.graph.ensures.sound.wcet c.args.at.vertex within in
    let deadline = c.graph.ensures.sound.deadline c.args.at.vertex within in
    let job = c.vertex-job.ensures in
    record {
      order = first_tasks tasks c.args.given.order.now c.requires.given.order c.graphs-graphs.result.now c.graphs-graphs.ensures.graphs m;
      tails = All-take HasRisingCurves m c.args.given.tails.now (tails_rise tasks c.args.given.tails.now c.requires.given.tails);
      crests = zip_take IsCrest m c.args.given.tails.now c.args.given.crests.now c.requires.given.crests;
      few = omega (arith, long, count, higher_most c.args.given.set.now.version tasks c.tasks-tasks.ensures.limits k c.requires.task);
      wcet = omega (arith, wcet.1, ap (λ x. x.wcet) job);
      some = omega (arith, deadline.0, ap (λ x. x.deadline) job);
      most = omega (arith, deadline.1, ap (λ x. x.deadline) job);
    }

pub returns-clause-is : goal.returns-clause-is
returns-clause-is c =
    let tasks : List Task = c.args.given.set.now.tasks in
    let k = c.args.at.task in
    let t : Task = c.index-tasks-at.result in
    let e : c.tasks-tasks.result.now ≡ tasks = c.tasks-tasks.ensures.tasks in
    let here : get_or c.tasks-tasks.result.now k t ≡ task_at tasks k = ap (λ (ts : List Task). get_or ts k t) e ∙ get_or_default tasks k t no_task c.requires.task in
    let count : c.higher_count-count.result ≡ higher_count tasks (task_at tasks k).priority
    = c.higher_count-count.ensures ∙ (ap (λ (x : Task). higher_count c.tasks-tasks.result.now x.priority) here ∙ ap (λ (ts : List Task). higher_count ts (task_at tasks k).priority) e) in
    let graph : c.graph.result.now ≡ graph_at tasks k = c.graph.ensures.graph ∙ (ap (λ gs. graph_of gs k) c.graphs-graphs.ensures.graphs ∙ graph_same tasks k c.requires.task) in
    let job : c.vertex-job.result.now ≡ vertex_of (graph_at tasks k) c.args.at.vertex = c.vertex-job.ensures ∙ ap (λ g. vertex_of g c.args.at.vertex) graph in
    record {
      graphs = ap (λ (m : ℕ). graphs_at c.graphs-graphs.result.now (take m c.args.given.order.now)) count
          ∙ higher_graphs tasks c.args.given.order.now c.requires.given.order c.graphs-graphs.result.now c.graphs-graphs.ensures.graphs k c.requires.task;
      tails = ap (λ (m : ℕ). take m c.args.given.tails.now) count;
      wcet = ap (λ x. x.wcet) job;
      deadline = ap (λ x. x.deadline) job;
    }
