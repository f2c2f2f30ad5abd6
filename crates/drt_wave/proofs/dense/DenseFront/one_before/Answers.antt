use Rattle.std.proofs.Common.{◌≡◌, Some, ap, sym, ◌∙◌, arith}
use Rattle.drt_model.specs.Walk.{sep, wcet}
use Rattle.drt_graph.proofs.Edges.{gap_of}
use Rattle.drt_wave.proofs.dense.DenseFront.one_before.Goals as goal

pub returns : goal.returns
returns c =
    let d = c.args.self.now in let g = d.plan.graph in
    let e : sep g c.args.u c.args.vertex ≡ Some c.in-Some.sep = ap (λ h. sep h c.args.u c.args.vertex) (sym c.graph.ensures) ∙ (sym c.separation.ensures ∙ c.in-Some.is) in
    let q = gap_of g c.args.u c.args.vertex c.in-Some.sep e in
    let cost : c.from-wcet.result ≡ wcet g c.args.vertex = c.from-wcet.ensures ∙ (ap (λ v. v.wcet) c.vertex.ensures ∙ ap (λ h. wcet h c.args.vertex) c.graph-2.ensures) in
    let was = c.cell-before.ensures in let is = c.cell-work.ensures in
    record {
      edge = q.1;
      offset = omega (arith, q.0, c.from-gap.ensures, c.if-offset-gap.false);
      works = omega (arith, cost, was, is, c.if-work-wcet.false, c.if-before-work.false);
      some = omega (arith, was, c.if-before-eq0.false);
    }
