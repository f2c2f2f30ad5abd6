use Rattle.std.proofs.Common.{◌≡◌, ◌<◌, length, sym, ap, arith, ◌∙◌}
use Rattle.std.proofs.lemmas.List.{length-map}
use Rattle.drt_model.specs.Digraph.{digraph_of}
use Rattle.drt_graph.specs.Graphs.{graph_of}
use Rattle.drt_busy.specs.Choice.{graph_at}
use Rattle.drt_releases.specs.Walks.{walk_at}
use Rattle.drt_releases.proofs.Walks.{all_none, all_more, graph_same}
use Rattle.drt_releases.proofs.releases.all_releases.Goals as goal

pub tasks-init : goal.tasks-init
tasks-init c tasks same = c.in_ok-releases.ensures.items ∙ sym (all_none tasks (walk_at c.args.walks.now))

pub tasks-preserved : goal.tasks-preserved
tasks-preserved c tasks same =
    let i = c.tasks.i in
    let l : i < length tasks = omega (arith, c.tasks-test.true, c.count-i-end.ensures.count, ap length same, length-map tasks digraph_of) in
    let g : c.graph.result.now ≡ graph_at tasks i = c.graph.ensures.graph ∙ (ap (λ gs. graph_of gs i) same ∙ graph_same tasks i l) in
    let e = rw (g, c.walk_of.ensures, c.tasks.invariant tasks same) at c.in_ok-add_releases.ensures in
    e ∙ sym (all_more tasks (walk_at c.args.walks.now) i)
