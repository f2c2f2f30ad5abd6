use Rattle.std.proofs.Common.{rules, ◌≤◌, ◌≡◌, sym, subst, arith}
use Rattle.std.specs.Prelude.{max}
use mathlib.Core.Logic.{dite}
use native.Mathlib.Decide.{dec_lt}
use Rattle.drt_model.specs.Digraph.{out_degree}
use Rattle.drt_edf_fronts.proofs.Bounded.{most_row_of, most_of}
use Rattle.drt_edf_fronts.proofs.waves.greatest_degree.Goals as goal

pub vertices-preserved : goal.vertices-preserved
vertices-preserved c =
    let g = c.args.graph.now in let inv = c.vertices.invariant in
    let here = most_row_of g c.vertices.v in
    let is = c.out_degree.ensures in let wide = c.from.ensures in let most : c.max-most.result ≡ max c.vertices.most c.from.result = search rules in (
      omega (arith, inv.0, here, is, wide, most),
      λ u lt. dite (dec_lt u c.vertices.v)
          (λ l. let old = inv.1 u l in omega (arith, old, most))
          (λ nl. let same : u ≡ c.vertices.v = omega arith in subst (λ w. out_degree g w ≤ c.max-most.result) (sym same) (omega (arith, is, wide, most))),
    )

pub returns : goal.returns
returns c =
    let g = c.args.graph.now in let inv = c.vertices.invariant in
    let all = most_of g c.vertices.most c.vertex_count-count.ensures.sound.rows (λ u lt. inv.1 u (omega (arith, lt, c.vertices-test.false, c.vertex_count-count.ensures.count))) in
    omega (arith, inv.0, all)
