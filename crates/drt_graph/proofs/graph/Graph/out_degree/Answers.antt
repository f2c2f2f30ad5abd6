use Rattle.std.proofs.Common.{◌<◌, length, arith, subst, sym}
use Rattle.std.proofs.lemmas.Grind.{common_steps}
use Rattle.drt_model.specs.Digraph.{Digraph, vertex_count}
use Rattle.drt_graph.proofs.graph.Graph.out_degree.Goals as goal

pub overflow_cast-result : goal.overflow_cast-result
overflow_cast-result c =
    let within : c.args.v < length c.self.inside.vertices.items = subst (λ (x : Digraph). c.args.v < vertex_count x) (sym c.self.view_is) c.requires in
    grind (arith, common_steps, c.self.invariant.degree c.args.v within)
