use Rattle.std.proofs.Common.{◌≡◌, ℕ, List, ap, ◌∙◌}
use Rattle.drt_model.specs.declared.jobs.Miss.{Miss}
use Rattle.drt_model.specs.declared.tasks.Task.{Task}
use Rattle.drt_model.specs.Walk.{deadline}
use Rattle.drt_busy.specs.Choice.{graph_at}
use Rattle.drt_sp.specs.ChoiceLaws.{leaf_releases, no_releases}
use Rattle.drt_sp.specs.declared.walks.VertexTuple.{VertexTuple}
use Rattle.drt_sp_task.specs.Trees.{IsFailing}
use Rattle.drt_sp_task.specs.declared.given.Given.{Given}
use Rattle.drt_sp_task.proofs.Above.{graph_here}
use Rattle.drt_sp_task.proofs.Missed.{first_miss, missed}
use Rattle.drt_sp_task.proofs.missing.find_miss.Goals as goal

pub returns : goal.returns
returns c =
    let given : Given = c.args.given in
    let tasks : List Task = given.set.now.tasks in
    let failed : VertexTuple = c.args.failed.now in
    let k = failed.task in
    let v = failed.vertex in
    let f = c.args.forest.now in
    let failing : IsFailing given f failed = c.requires.failed in
    let graph : c.graph.result.now ≡ graph_at tasks k = graph_here given c.requires.order c.graphs-graphs.ensures.graphs k failing.tuple.task c.graph.ensures.graph in
    let end : c.vertex.result.now.deadline ≡ deadline (graph_at tasks k) v = ap (λ x. x.deadline) c.vertex.ensures ∙ ap (λ g. deadline g v) graph in
    let same : c.in_ok-releases.releases ≡ no_releases tasks f given.order.now failed.tuple k v
    = c.in_ok-releases.ensures.releases
    ∙ ap (λ (d : ℕ). leaf_releases tasks f given.order.now failed.tuple k v d) end in
    let due : c.from.result ≡ deadline (graph_at tasks k) v = c.from.ensures ∙ end in
    let name : ℕ → Miss = λ (d : ℕ). first_miss k d in
    missed given c.requires.order f failed failing c.requests_miss.ensures c.times_suffice_for_task.ensures c.keep_limits.ensures.constrained
    c.in_ok-releases.releases (name c.from.result) same (ap name due)
