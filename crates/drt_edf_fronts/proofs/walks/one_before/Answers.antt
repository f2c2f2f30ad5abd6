use Rattle.std.proofs.Common.{◌≡◌, Some, refl, ap, sym, ◌∙◌, arith}
use Rattle.drt_model.specs.Walk.{sep, wcet}
use Rattle.drt_graph.proofs.Edges.{gap_of}
use Rattle.drt_edf_fronts.proofs.walks.one_before.Goals as goal

pub returns : goal.returns
returns c =
    let g = c.args.graph.now in
    let e : sep g c.args.u c.args.entry.vertex ≡ Some c.in-Some.sep = sym c.separation.ensures ∙ c.in-Some.is in
    let q = gap_of g c.args.u c.args.entry.vertex c.in-Some.sep e in
    let cost : c.from-wcet.result ≡ wcet g c.args.entry.vertex = c.from-wcet.ensures ∙ ap (λ v. v.wcet) c.vertex.ensures in (
      refl,
      record {
        edge = q.1;
        offset = omega (arith, q.0, c.from-gap.ensures, c.if-entry-gap.false);
        work = omega (arith, cost, c.if-entry-wcet.false);
      },
    )
