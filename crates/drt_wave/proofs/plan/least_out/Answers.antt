use Rattle.std.proofs.Common.{rules, ◌≡◌, ap, ◌∙◌, arith}
use Rattle.drt_model.specs.Digraph.{edge_of}
use Rattle.drt_wave.proofs.plan.least_out.Goals as goal

pub edges-preserved : goal.edges-preserved
edges-preserved c =
    let sep : c.from.result ≡ (edge_of c.args.graph.now c.args.v c.edges.k).sep = c.from.ensures ∙ ap (λ e. e.sep) c.out_edge.ensures in (
      search rules,
      search rules,
      search rules,
      λ n few below.
          let before = c.edges.invariant.3 n few (λ j lt. below j (omega (arith, lt))) in
          let this = below c.edges.k (omega arith) in
          omega (arith, before, this, sep, c.min-least.ensures),
    )
