-- The releases of the walks are a no.
use Rattle.std.proofs.Common.{◌≡◌, ◌<◌, ◌≤◌, List, ℕ, length, ap, arith, ◌∙◌}
use Rattle.drt_model.specs.Numbers.{most_time}
use Rattle.drt_model.specs.Contents.{Contents}
use Rattle.drt_model.specs.declared.tasks.Task.{Task}
use Rattle.drt_model.specs.Digraph.{vertex_count, vertex_of}
use Rattle.drt_model.specs.Walk.{deadline}
use Rattle.drt_graph.specs.Graphs.{graph_of}
use Rattle.drt_busy.specs.Choice.{graph_at, task_at}
use Rattle.drt_busy.specs.WalkReleases.{with_job}
use Rattle.drt_busy.proofs.Cuts.{cut_walks}
use Rattle.drt_releases.specs.Walks.{walk_at}
use Rattle.drt_releases.proofs.Walks.{graph_same}
use Rattle.drt_fixed_task.specs.Higher.{job_walk_in_file_order, walk_in_file_order}
use Rattle.drt_fixed_task.proofs.Due.{due_walks}
use Rattle.drt_fixed_task.proofs.Refused.{refusal_is, same_releases}
use Rattle.drt_fixed_task.proofs.refusal.refuse.Goals as goal

pub all_releases-requires-clause-walks : goal.all_releases-requires-clause-walks
all_releases-requires-clause-walks c =
    let set : Contents = c.args.given.set.now in
    let given = c.requires.given in
    let k : ℕ = c.args.given.task in
    let v : ℕ = c.args.vertex in
    let n : ℕ = c.vertex.result.now.deadline in
    let graph : c.graph.result.now ≡ graph_at set.tasks k = c.graph.ensures.graph ∙ (ap (λ gs. graph_of gs k) c.graphs-graphs.ensures.graphs ∙ graph_same set.tasks k given.task) in
    let within : v < vertex_count c.graph.result.now = omega (arith, c.requires.vertex, ap (λ g. vertex_count g) graph) in
    let near = c.graph.ensures.sound.deadline v within in
    let small : n ≤ most_time = omega (arith, near.1, ap (λ x. x.deadline) c.vertex.ensures) in
    let walks : ℕ → List ℕ = walk_at c.as_slice.result.now in
    let same : (i : ℕ) → i < length set.tasks → walks i ≡ job_walk_in_file_order set.tasks c.args.walks.now k v n i
    = λ i l. ap (λ (ws : List (List ℕ)). walk_at ws i) c.as_slice.ensures.value ∙ c.in_ok-chosen.ensures.each i l in
    due_walks set.tasks c.args.walks.now k v n set.version c.keep_limits.ensures.limits c.requires.walks.are given.task c.requires.vertex small walks same c.graphs-graphs.result.now
    c.graphs-graphs.ensures.graphs

pub returns : goal.returns
returns c =
    let set : Contents = c.args.given.set.now in
    let tasks : List Task = set.tasks in
    let given = c.requires.given in
    let k : ℕ = c.args.given.task in
    let v : ℕ = c.args.vertex in
    let n : ℕ = c.vertex.result.now.deadline in
    let d : ℕ = deadline (graph_at tasks k) v in
    let graph : c.graph.result.now ≡ graph_at tasks k = c.graph.ensures.graph ∙ (ap (λ gs. graph_of gs k) c.graphs-graphs.ensures.graphs ∙ graph_same tasks k given.task) in
    let vertex : c.vertex.result.now ≡ vertex_of (graph_at tasks k) v = c.vertex.ensures ∙ ap (λ g. vertex_of g v) graph in
    let due : n ≡ d = ap (λ x. x.deadline) vertex in
    let walks : ℕ → List ℕ = walk_at c.as_slice.result.now in
    let placed : ℕ → List ℕ = walk_in_file_order tasks (task_at tasks k).priority c.args.walks.now in
    let same : (i : ℕ) → i < length tasks → walks i ≡ with_job tasks (cut_walks tasks placed d) k v i
    = λ i l. ap (λ (ws : List (List ℕ)). walk_at ws i) c.as_slice.ensures.value ∙ (c.in_ok-chosen.ensures.each i l ∙ ap (λ (m : ℕ). job_walk_in_file_order tasks c.args.walks.now k v m i) due) in
    let are = c.from_vec.ensures ∙ (c.in_ok-releases.ensures tasks c.graphs-graphs.ensures.graphs ∙ same_releases tasks walks (with_job tasks (cut_walks tasks placed d) k v) (length tasks) same) in
    refusal_is set.version tasks c.keep_limits.ensures.limits k v given.task c.requires.vertex placed c.requires.walks c.requests_miss.ensures c.from.result c.from_vec.result
    (c.from.ensures ∙ due) are
