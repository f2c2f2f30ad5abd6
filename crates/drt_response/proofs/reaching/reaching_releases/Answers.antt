use Rattle.std.proofs.Common.{◌≡◌, ◌<◌, List, ℕ, length, sym, ap, subst, ◌∙◌}
use Rattle.drt_model.specs.declared.tasks.Task.{Task}
use Rattle.drt_graph.specs.Graphs.{AreGraphs}
use Rattle.drt_claims.specs.Claims.{graphs_of}
use Rattle.drt_releases.specs.Walks.{walk_at}
use Rattle.drt_sp.proofs.Refused.{all_same}
use Rattle.drt_response.specs.Placed.{job_walk_in_priority_order}
use Rattle.drt_response.proofs.Due.{due_walks}
use Rattle.drt_response.proofs.reaching.reaching_releases.Goals as goal

pub all_releases-requires-clause-walks : goal.all_releases-requires-clause-walks
all_releases-requires-clause-walks c =
    let tasks : List Task = c.args.set.now.tasks in
    let k = c.args.job.at.task in
    let v = c.args.job.at.vertex in
    let n = c.args.job.finish in
    let kept : AreGraphs (graphs_of tasks) = subst AreGraphs c.graphs-graphs.ensures.graphs c.keep_limits.ensures in
    let walks : ℕ → List ℕ = walk_at c.as_slice.result.now in
    let same : (i : ℕ) → i < length tasks → walks i ≡ job_walk_in_priority_order tasks c.args.walks.now k v n i = λ i l. ap (λ (ws : List (List ℕ)). walk_at ws i)
    c.as_slice.ensures.value ∙ c.in_ok-chosen.ensures.each i l in
    due_walks tasks c.args.walks.now k v n kept c.requires.walks c.requires.task c.requires.vertex c.requires.finish walks same c.graphs-graphs.result.now c.graphs-graphs.ensures.graphs

pub returns : goal.returns
returns c =
    let tasks : List Task = c.args.set.now.tasks in
    let k = c.args.job.at.task in
    let v = c.args.job.at.vertex in
    let n = c.args.job.finish in
    let walks : ℕ → List ℕ = walk_at c.as_slice.result.now in
    let same : (i : ℕ) → i < length tasks → walks i ≡ job_walk_in_priority_order tasks c.args.walks.now k v n i = λ i l. ap (λ (ws : List (List ℕ)). walk_at ws i)
    c.as_slice.ensures.value ∙ c.in_ok-chosen.ensures.each i l in
    c.from_vec.ensures ∙ (c.in_ok-releases.ensures tasks c.graphs-graphs.ensures.graphs ∙ all_same tasks walks (job_walk_in_priority_order tasks c.args.walks.now k v n) (length tasks) same)
