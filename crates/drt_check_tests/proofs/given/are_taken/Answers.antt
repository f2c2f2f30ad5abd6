use Rattle.std.proofs.Common.{List, ap, sym, subst, ◌∙◌}
use Rattle.drt_model.specs.Digraph.{Digraph}
use Rattle.drt_graph.specs.Graphs.{graph_of}
use Rattle.drt_claims.specs.declared.evidence.TreeClaim.{TreeClaim}
use Rattle.drt_claims.specs.Trees.{HasShortWalks}
use Rattle.drt_check_tests.specs.Worked.{task_graph, tree}
use Rattle.drt_check_tests.proofs.Claims.{is_short}
use Rattle.drt_check_tests.proofs.given.are_taken.Goals as goal

pub take_values-requires-clause-short : goal.take_values-requires-clause-short
take_values-requires-clause-short c =
    let same = c.graph-graph.ensures.graph ∙ ap (λ (gs : List Digraph). graph_of gs 0) c.in_ok-graphs.ensures in
    let on_graph = subst (λ (g : Digraph). HasShortWalks 5 g tree) (sym same) is_short in
    subst (λ (t : TreeClaim). HasShortWalks 5 c.graph-graph.result.now t) (sym c.in_ok-tree.ensures) on_graph
