use Rattle.std.proofs.Common.{◌≡◌, List, ℕ, sym, ap, subst, arith, ◌∙◌}
use Rattle.std.proofs.lemmas.List.{length-map}
use Rattle.drt_model.specs.declared.jobs.Miss.{Miss}
use Rattle.drt_model.specs.declared.tasks.Task.{Task}
use Rattle.drt_model.specs.Digraph.{IsSoundGraph, digraph_of}
use Rattle.drt_model.specs.Walk.{deadline}
use Rattle.drt_graph.specs.Graphs.{AreGraphs, graph_of, no_graph}
use Rattle.drt_busy.specs.Choice.{graph_at}
use Rattle.drt_tree.specs.Tree.{Plain}
use Rattle.drt_sp.specs.ChoiceLaws.{leaf_releases, no_releases}
use Rattle.drt_claims.specs.Claims.{graphs_of}
use Rattle.drt_claims.specs.Ranges.{AreInRangeReleases}
use Rattle.drt_releases.proofs.Walks.{graph_same}
use Rattle.drt_sp.specs.Answers.{IsFailedVertex}
use Rattle.drt_sp.proofs.Refused.{failed_tuple, missed, no_in_range}
use Rattle.drt_sp.proofs.Yes.{few_tasks}
use Rattle.drt_sp.proofs.refusal.refusal.Goals as goal

pub leaf_releases-requires-clause-tuple : goal.leaf_releases-requires-clause-tuple
leaf_releases-requires-clause-tuple c =
    failed_tuple c.args.given.now.set.now c.args.given.now.order.now c.args.forest.now c.args.failed.now.task c.args.failed.now.vertex c.args.failed.now.tuple c.requires

pub leaf_releases-requires-clause-end : goal.leaf_releases-requires-clause-end
leaf_releases-requires-clause-end c =
    let set = c.args.given.now.set.now in
    let tasks : List Task = set.tasks in
    let order : List ℕ = c.args.given.now.order.now in
    let f : Plain = c.args.forest.now in
    let j = c.args.failed.now.task in
    let v = c.args.failed.now.vertex in
    let tuple : List ℕ = c.args.failed.now.tuple in
    let failed : IsFailedVertex set order f j v tuple = c.requires in
    let graph : c.graph.result.now ≡ graph_at tasks j = c.graph.ensures.graph ∙ (ap (λ gs. graph_of gs j) c.graphs-graphs.ensures.graphs ∙ graph_same tasks j failed.reached.task) in
    let end : c.vertex.result.now.deadline ≡ deadline (graph_at tasks j) v = ap (λ x. x.deadline) c.vertex.ensures ∙ ap (λ g. deadline g v) graph in
    let kept : AreGraphs (graphs_of tasks) = subst AreGraphs c.graphs-graphs.ensures.graphs c.keep_limits.ensures in
    let sound : IsSoundGraph (graph_at tasks j) = subst IsSoundGraph (graph_same tasks j failed.reached.task)
    (kept.sound j no_graph (omega (arith, failed.reached.task, length-map tasks digraph_of))) in
    omega (arith, (sound.deadline v failed.reached.posed.subject.vertex).1, end)

pub returns-clause-verdict : goal.returns-clause-verdict
returns-clause-verdict c =
    let set = c.args.given.now.set.now in
    let tasks : List Task = set.tasks in
    let order : List ℕ = c.args.given.now.order.now in
    let f : Plain = c.args.forest.now in
    let j = c.args.failed.now.task in
    let v = c.args.failed.now.vertex in
    let tuple : List ℕ = c.args.failed.now.tuple in
    let failed : IsFailedVertex set order f j v tuple = c.requires in
    let graph : c.graph.result.now ≡ graph_at tasks j = c.graph.ensures.graph ∙ (ap (λ gs. graph_of gs j) c.graphs-graphs.ensures.graphs ∙ graph_same tasks j failed.reached.task) in
    let end : c.vertex.result.now.deadline ≡ deadline (graph_at tasks j) v = ap (λ x. x.deadline) c.vertex.ensures ∙ ap (λ g. deadline g v) graph in
    let kept : AreGraphs (graphs_of tasks) = subst AreGraphs c.graphs-graphs.ensures.graphs c.keep_limits.ensures in
    let sound : IsSoundGraph (graph_at tasks j) = subst IsSoundGraph (graph_same tasks j failed.reached.task)
    (kept.sound j no_graph (omega (arith, failed.reached.task, length-map tasks digraph_of))) in
    let releases : c.in_ok-releases.releases ≡ no_releases tasks f order tuple j v = c.in_ok-releases.ensures.releases ∙ ap (λ (d : ℕ). leaf_releases tasks f order tuple j v d) end in
    let due : c.from.result ≡ deadline (graph_at tasks j) v = c.from.ensures ∙ end in
    let name : ℕ → Miss = λ (d : ℕ). record { task = j; index = 0; deadline = d } in
    missed set order f j v tuple c.graphs-graphs.ensures.constrained c.leaves_miss.ensures c.show_sound.ensures kept failed c.in_ok-releases.releases (name c.from.result) releases (ap name due)

pub returns-clause-range : goal.returns-clause-range
returns-clause-range c =
    let set = c.args.given.now.set.now in
    let tasks : List Task = set.tasks in
    let order : List ℕ = c.args.given.now.order.now in
    let f : Plain = c.args.forest.now in
    let j = c.args.failed.now.task in
    let v = c.args.failed.now.vertex in
    let tuple : List ℕ = c.args.failed.now.tuple in
    let failed : IsFailedVertex set order f j v tuple = c.requires in
    let graph : c.graph.result.now ≡ graph_at tasks j = c.graph.ensures.graph ∙ (ap (λ gs. graph_of gs j) c.graphs-graphs.ensures.graphs ∙ graph_same tasks j failed.reached.task) in
    let end : c.vertex.result.now.deadline ≡ deadline (graph_at tasks j) v = ap (λ x. x.deadline) c.vertex.ensures ∙ ap (λ g. deadline g v) graph in
    let kept : AreGraphs (graphs_of tasks) = subst AreGraphs c.graphs-graphs.ensures.graphs c.keep_limits.ensures in
    let sound : IsSoundGraph (graph_at tasks j) = subst IsSoundGraph (graph_same tasks j failed.reached.task)
    (kept.sound j no_graph (omega (arith, failed.reached.task, length-map tasks digraph_of))) in
    let due : c.from.result ≡ deadline (graph_at tasks j) v = c.from.ensures ∙ end in
    let name : ℕ → Miss = λ (d : ℕ). record { task = j; index = 0; deadline = d } in
    subst (λ (d : ℕ). AreInRangeReleases c.in_ok-releases.releases (name d)) (sym due)
    (no_in_range tasks c.in_ok-releases.releases j v c.in_ok-releases.ensures.range c.in_ok-releases.ensures.counted failed.reached.task
    (few_tasks set.version tasks failed.reached.posed.limits) sound failed.reached.posed.subject.vertex)
