-- The walk of a task beside a vertex.
use Rattle.std.proofs.Common.{◌≡◌, ◌<◌, ◌≤◌, List, [], ◌∷◌, ◌++◌, ℕ, get_or, length, sym, ap, subst, arith, ◌∙◌}
use Rattle.std.proofs.lemmas.List.{get_or_default}
use Rattle.std.proofs.lemmas.Result.{IfOk-weaker}
use Rattle.drt_model.specs.declared.tasks.Task.{Task}
use Rattle.drt_model.specs.Digraph.{IsSoundGraph, vertex_count}
use Rattle.drt_graph.specs.Graphs.{graph_of}
use Rattle.drt_busy.specs.Choice.{graph_at, no_task, task_at}
use Rattle.drt_releases.proofs.Walks.{graph_same}
use Rattle.drt_busy.specs.Response.{cut}
use Rattle.drt_fixed.specs.Searching.{IsBeside, graphs_given}
use Rattle.drt_fixed.proofs.Beside.{beside_higher, beside_none, beside_own}
use Rattle.drt_fixed.proofs.releases.job_walk.Goals.{then-k-at+in_ok-push, else-k-at}
use Rattle.drt_fixed.proofs.releases.job_walk.Goals as goal
use Rattle.drt_model.specs.Walk.{IsWalk}

pub cut_walk-requires : goal.cut_walk-requires
cut_walk-requires c = record {
  walk = subst (λ g. IsWalk g c.walk_of.result.now) (sym (c.graph-graph.ensures.graph ∙ ap (λ gs. graph_of gs c.args.k) c.graphs-graphs.ensures.graphs))
      (c.walk_of.ensures (graphs_given c.args.given) c.requires.walks);
}

pub returns-then-tasks-k : goal.returns-then-tasks-k
returns-then-tasks-k c =
    let tasks : List Task = c.args.given.set.now.tasks in
    let j = c.args.vertex.at.task in
    let v = c.args.vertex.at.vertex in
    let k = c.args.k in
    let e : c.tasks-tasks.result.now ≡ tasks = c.tasks-tasks.ensures.tasks in
    let t : Task = c.index-tasks-k.result in
    let u : Task = c.index-tasks-at.result in
    let here : j < length tasks = c.requires.vertex.task in
    let a : get_or c.tasks-tasks.result.now k t ≡ task_at tasks k = ap (λ (ts : List Task). get_or ts k t) e ∙ get_or_default tasks k t no_task c.requires.here in
    let b : get_or c.tasks-tasks.result.now j u ≡ task_at tasks j = ap (λ (ts : List Task). get_or ts j u) e ∙ get_or_default tasks j u no_task here in
    let less : (task_at tasks k).priority < (task_at tasks j).priority = omega (arith, c.if-tasks-k.true, ap (λ (x : Task). x.priority) a, ap (λ (x : Task). x.priority) b) in
    let graph : c.graph-graph.result.now ≡ graph_at tasks k = c.graph-graph.ensures.graph ∙ (ap (λ gs. graph_of gs k) c.graphs-graphs.ensures.graphs ∙ graph_same tasks k c.requires.here) in
    let sound : IsSoundGraph (graph_at tasks k) = subst IsSoundGraph graph c.graph-graph.ensures.sound in
    let w : List ℕ = c.walk_of.result.now in
    let same : graph_of (graphs_given c.args.given) k ≡ graph_at tasks k = graph_same tasks k c.requires.here in
    let is : IsWalk (graph_at tasks k) w = subst (λ g. IsWalk g w) same (c.walk_of.ensures (graphs_given c.args.given) c.requires.walks) in
    IfOk-weaker c.cut_walk.result _ _ (λ row cuts.
    subst (IsBeside tasks j v k) (sym (cuts ∙ ap (λ g. cut g c.args.vertex.at.deadline w) graph)) (beside_higher tasks j v k sound less c.args.vertex.at.deadline c.requires.vertex.near w is)
    ) c.cut_walk.ensures

pub returns : goal.returns
returns c =
    let tasks : List Task = c.args.given.set.now.tasks in
    let j = c.args.vertex.at.task in
    let v = c.args.vertex.at.vertex in
    let k = c.args.k in
    let e : c.tasks-tasks.result.now ≡ tasks = c.tasks-tasks.ensures.tasks in
    let t : Task = c.index-tasks-k.result in
    let u : Task = c.index-tasks-at.result in
    let here : j < length tasks = c.requires.vertex.task in
    let a : get_or c.tasks-tasks.result.now k t ≡ task_at tasks k = ap (λ (ts : List Task). get_or ts k t) e ∙ get_or_default tasks k t no_task c.requires.here in
    let b : get_or c.tasks-tasks.result.now j u ≡ task_at tasks j = ap (λ (ts : List Task). get_or ts j u) e ∙ get_or_default tasks j u no_task here in
    let le : (task_at tasks j).priority ≤ (task_at tasks k).priority = omega (arith, c.if-tasks-k.false, ap (λ (x : Task). x.priority) a, ap (λ (x : Task). x.priority) b) in
    let graph : c.graph-graph.result.now ≡ graph_at tasks k = c.graph-graph.ensures.graph ∙ (ap (λ gs. graph_of gs k) c.graphs-graphs.ensures.graphs ∙ graph_same tasks k c.requires.here) in
    let same : graph_of (graphs_given c.args.given) k ≡ graph_at tasks k = graph_same tasks k c.requires.here in
    let sound : IsSoundGraph (graph_at tasks k) = subst IsSoundGraph graph c.graph-graph.ensures.sound in
    elim c.if-k-at.branch [
      | then-k-at+in_ok-push w ↦ (
          let row : c.from_vec.result ≡ v ∷ [] = c.from_vec.ensures ∙ (ap (λ x. x.items) w.walk-is ∙ (w.in_ok-push.ensures.items ∙ ap (λ (xs : List ℕ). xs ++ v ∷ []) c.new-walk.ensures.items)) in
          let own : v < vertex_count (graph_at tasks k) = subst (λ g. v < vertex_count g) same
          (subst (λ (m : ℕ). v < vertex_count (graph_of (graphs_given c.args.given) m)) (sym w.if-k-at.true) c.requires.vertex.vertex) in
          subst (IsBeside tasks j v k) (sym row) (beside_own tasks j v k le sound w.if-k-at.true own)
          )
      | else-k-at w ↦ (
          let row : c.from_vec.result ≡ [] = c.from_vec.ensures ∙ (ap (λ x. x.items) w.walk-is ∙ c.new-walk.ensures.items) in
          subst (IsBeside tasks j v k) (sym row) (beside_none tasks j v k le w.if-k-at.false)
          )
    ]
