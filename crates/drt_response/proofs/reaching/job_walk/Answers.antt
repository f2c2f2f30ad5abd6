-- The walk of a task beside the job.
use Rattle.std.proofs.Common.{◌≡◌, ◌<◌, ◌≤◌, List, [], ◌∷◌, ◌++◌, ℕ, get_or, sym, ap, arith, ◌∙◌}
use Rattle.std.proofs.lemmas.List.{get_or_default}
use Rattle.drt_model.specs.declared.tasks.Task.{Task}
use Rattle.drt_graph.specs.Graphs.{graph_of}
use Rattle.drt_busy.specs.Choice.{graph_at, no_task, task_at}
use Rattle.drt_claims.specs.Trees.{higher_count}
use Rattle.drt_releases.specs.Walks.{walk_at}
use Rattle.drt_releases.proofs.Walks.{graph_same}
use Rattle.drt_tree.proofs.Trees.{if_ok_more}
use Rattle.drt_busy.specs.Response.{cut}
use Rattle.drt_response.specs.Placed.{walk_in_priority_order}
use Rattle.drt_response.proofs.Due.{walk_here, walk_higher, walk_nowhere}
use Rattle.drt_response.proofs.reaching.job_walk.Goals.{then-k-job+in_ok-push, else-k-job}
use Rattle.drt_response.proofs.reaching.job_walk.Goals as goal

pub cut_walk-requires : goal.cut_walk-requires
cut_walk-requires c =
    let tasks : List Task = c.args.set.now.tasks in
    let j = c.args.job.at.task in
    let v = c.args.job.at.vertex in
    let n = c.args.job.finish in
    let k = c.args.k in
    let walks : List (List ℕ) = c.args.walks.now in
    let e : c.tasks-tasks.result.now ≡ tasks = c.tasks-tasks.ensures.tasks in
    let t : Task = c.index-tasks-k.result in
    let u : Task = c.index-tasks-job.result in
    let a : get_or c.tasks-tasks.result.now k t ≡ task_at tasks k = ap (λ (ts : List Task). get_or ts k t) e ∙ get_or_default tasks k t no_task c.requires.here in
    let b : get_or c.tasks-tasks.result.now j u ≡ task_at tasks j = ap (λ (ts : List Task). get_or ts j u) e ∙ get_or_default tasks j u no_task c.requires.task in
    let place : c.higher_count.result ≡ higher_count tasks (task_at tasks k).priority
    = c.higher_count.ensures ∙ (ap (λ (x : Task). higher_count c.tasks-tasks.result.now x.priority) a ∙ ap (λ (ts : List Task). higher_count ts (task_at tasks k).priority) e) in
    let walk : c.walk_of-walk.result.now ≡ walk_in_priority_order tasks walks k = c.walk_of-walk.ensures ∙ ap (λ (i : ℕ). walk_at walks i) place in
    let graph : c.graph.result.now ≡ graph_at tasks k = c.graph.ensures.graph ∙ (ap (λ gs. graph_of gs k) c.graphs-graphs.ensures.graphs ∙ graph_same tasks k c.requires.here) in
    record { walk = rw (graph, walk) (c.requires.walks k c.requires.here) }

pub returns-then-priority-tasks : goal.returns-then-priority-tasks
returns-then-priority-tasks c =
    let tasks : List Task = c.args.set.now.tasks in
    let j = c.args.job.at.task in
    let v = c.args.job.at.vertex in
    let n = c.args.job.finish in
    let k = c.args.k in
    let walks : List (List ℕ) = c.args.walks.now in
    let e : c.tasks-tasks.result.now ≡ tasks = c.tasks-tasks.ensures.tasks in
    let t : Task = c.index-tasks-k.result in
    let u : Task = c.index-tasks-job.result in
    let a : get_or c.tasks-tasks.result.now k t ≡ task_at tasks k = ap (λ (ts : List Task). get_or ts k t) e ∙ get_or_default tasks k t no_task c.requires.here in
    let b : get_or c.tasks-tasks.result.now j u ≡ task_at tasks j = ap (λ (ts : List Task). get_or ts j u) e ∙ get_or_default tasks j u no_task c.requires.task in
    let place : c.higher_count.result ≡ higher_count tasks (task_at tasks k).priority
    = c.higher_count.ensures ∙ (ap (λ (x : Task). higher_count c.tasks-tasks.result.now x.priority) a ∙ ap (λ (ts : List Task). higher_count ts (task_at tasks k).priority) e) in
    let walk : c.walk_of-walk.result.now ≡ walk_in_priority_order tasks walks k = c.walk_of-walk.ensures ∙ ap (λ (i : ℕ). walk_at walks i) place in
    let graph : c.graph.result.now ≡ graph_at tasks k = c.graph.ensures.graph ∙ (ap (λ gs. graph_of gs k) c.graphs-graphs.ensures.graphs ∙ graph_same tasks k c.requires.here) in
    let less : (task_at tasks k).priority < (task_at tasks j).priority = omega (arith, c.if-priority-tasks.true, ap (λ (x : Task). x.priority) a, ap (λ (x : Task). x.priority) b) in
    let same = ap (λ g. cut g n c.walk_of-walk.result.now) graph ∙ ap (λ (w : List ℕ). cut (graph_at tasks k) n w) walk in
    if_ok_more _ _ c.cut_walk.result (λ row is. is ∙ (same ∙ sym (walk_higher tasks walks j v n k less))) c.cut_walk.ensures

pub returns : goal.returns
returns c =
    let tasks : List Task = c.args.set.now.tasks in
    let j = c.args.job.at.task in
    let v = c.args.job.at.vertex in
    let n = c.args.job.finish in
    let k = c.args.k in
    let walks : List (List ℕ) = c.args.walks.now in
    let e : c.tasks-tasks.result.now ≡ tasks = c.tasks-tasks.ensures.tasks in
    let t : Task = c.index-tasks-k.result in
    let u : Task = c.index-tasks-job.result in
    let a : get_or c.tasks-tasks.result.now k t ≡ task_at tasks k = ap (λ (ts : List Task). get_or ts k t) e ∙ get_or_default tasks k t no_task c.requires.here in
    let b : get_or c.tasks-tasks.result.now j u ≡ task_at tasks j = ap (λ (ts : List Task). get_or ts j u) e ∙ get_or_default tasks j u no_task c.requires.task in
    let le : (task_at tasks j).priority ≤ (task_at tasks k).priority = omega (arith, c.if-priority-tasks.false, ap (λ (x : Task). x.priority) a, ap (λ (x : Task). x.priority) b) in
    elim c.if-k-job.branch [
      | then-k-job+in_ok-push w ↦
          c.from_vec.ensures ∙ (ap (λ x. x.items) w.walk-is ∙ (w.in_ok-push.ensures.items ∙ (ap (λ (xs : List ℕ). xs ++ v ∷ []) c.new-walk.ensures.items
          ∙ sym (walk_here tasks walks j v n k le w.if-k-job.true))))
      | else-k-job w ↦ c.from_vec.ensures ∙ (ap (λ x. x.items) w.walk-is ∙ (c.new-walk.ensures.items ∙ sym (walk_nowhere tasks walks j v n k le w.if-k-job.false)))
    ]
