-- The releases of a no are those of walks.
use Rattle.std.proofs.Common.{◌≡◌, ◌<◌, List, ℕ, length, sym, ap, subst, ◌∙◌}
use Rattle.drt_model.specs.declared.jobs.Miss.{Miss}
use Rattle.drt_model.specs.declared.tasks.Task.{Task}
use Rattle.drt_model.specs.Digraph.{vertex_count}
use Rattle.drt_model.specs.Walk.{deadline}
use Rattle.drt_graph.specs.Graphs.{graph_of}
use Rattle.drt_busy.specs.Choice.{graph_at}
use Rattle.drt_releases.proofs.Walks.{due_walks, graph_same}
use Rattle.drt_releases.specs.Walks.{walk_at}
use Rattle.drt_fixed.specs.Searching.{IsBeside, graphs_given}
use Rattle.drt_fixed.proofs.Beside.{beside_releases}
use Rattle.drt_fixed.proofs.releases.refusal.Goals as goal

pub all_releases-requires-clause-walks : goal.all_releases-requires-clause-walks
all_releases-requires-clause-walks c =
    let tasks : List Task = c.args.given.set.now.tasks in
    let j = c.args.vertex.at.task in
    let v = c.args.vertex.at.vertex in
    let each : (k : ℕ) → k < length tasks → IsBeside tasks j v k (walk_at c.as_slice.result.now k)
    = λ k l. subst (λ (ws : List (List ℕ)). IsBeside tasks j v k (walk_at ws k)) (sym c.as_slice.ensures.value) (c.in_ok-chosen.ensures k l) in
    due_walks tasks c.graphs-graphs.result.now (walk_at c.as_slice.result.now) 2000000 c.graphs-graphs.ensures.graphs (λ k l. (each k l).is) (λ k l. (each k l).due)

pub returns : goal.returns
returns c =
    let tasks : List Task = c.args.given.set.now.tasks in
    let j = c.args.vertex.at.task in
    let v = c.args.vertex.at.vertex in
    let each : (k : ℕ) → k < length tasks → IsBeside tasks j v k (walk_at c.as_slice.result.now k)
    = λ k l. subst (λ (ws : List (List ℕ)). IsBeside tasks j v k (walk_at ws k)) (sym c.as_slice.ensures.value) (c.in_ok-chosen.ensures k l) in
    let here : j < length tasks = c.requires.vertex.task in
    let graph : graph_of (graphs_given c.args.given) j ≡ graph_at tasks j = graph_same tasks j here in
    let name : ℕ → Miss = λ (d : ℕ). record { task = j; index = 0; deadline = d } in
    record {
      walks = walk_at c.as_slice.result.now;
      are = λ k l. (each k l).is;
      task = here;
      vertex = v;
      within = subst (λ g. v < vertex_count g) graph c.requires.vertex.vertex;
      releases_are = c.from_vec.ensures ∙ (c.in_ok-releases.ensures tasks c.graphs-graphs.ensures.graphs ∙ beside_releases tasks j v (walk_at c.as_slice.result.now) each);
      miss_is = ap name (c.from.ensures ∙ (c.requires.vertex.deadline ∙ ap (λ g. deadline g v) graph));
    }
