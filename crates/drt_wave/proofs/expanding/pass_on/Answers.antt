use Rattle.std.proofs.Common.{rules, refl, arith}
use Rattle.drt_wave.specs.Cells.{net_of}
use Rattle.drt_wave.proofs.Working.{bound_small}
use Rattle.drt_wave.proofs.Going.{kept_refl, kept_more, kept_some, passed_more}
use Rattle.drt_wave.proofs.Following.{way_vertex, way_within, way_reaches, way_fits, way_passed}
use Rattle.drt_wave.proofs.expanding.pass_on.Goals as goal

pub edges-init : goal.edges-init
edges-init c = (c.requires.seat, kept_refl _, λ k lt due. absurd (omega arith))

pub pass_one-requires-clause-parts : goal.pass_one-requires-clause-parts
pass_one-requires-clause-parts c = kept_some _ _ c.edges.invariant.1 c.requires.parts

pub pass_one-requires-clause-vertex : goal.pass_one-requires-clause-vertex
pass_one-requires-clause-vertex c =
    let t = c.args.table.now in
    let row = c.ways_from-ways.ensures in
    way_vertex t.plan t.planned c.args.vertex c.edges.k _ c.requires.vertex (omega (arith, row.count, c.edges-test.true)) (row.each c.edges.k (search rules))

pub pass_one-requires-clause-within : goal.pass_one-requires-clause-within
pass_one-requires-clause-within c = λ lt. way_within c.args.table.now.plan _ _ c.args.offset (c.ways_from-ways.ensures.each c.edges.k (search rules)) lt

pub pass_one-requires-clause-reached : goal.pass_one-requires-clause-reached
pass_one-requires-clause-reached c = λ lt.
    let row = c.ways_from-ways.ensures in
    way_reaches c.args.table.now.plan c.args.vertex c.edges.k c.args.offset c.args.value _ c.requires.vertex c.requires.offset (omega (arith, row.count, c.edges-test.true))
    (row.each c.edges.k (search rules)) c.requires.value lt

pub pass_one-requires-clause-small : goal.pass_one-requires-clause-small
pass_one-requires-clause-small c = let t = c.args.table.now in bound_small t.plan t.planned (net_of t.plan).cells t.planned.small refl

pub pass_one-requires-clause-fits : goal.pass_one-requires-clause-fits
pass_one-requires-clause-fits c =
    let t = c.args.table.now in
    let row = c.ways_from-ways.ensures in
    way_fits t.plan t.planned c.args.vertex c.edges.k c.args.offset c.args.value _ c.requires.vertex c.requires.offset (omega (arith, row.count, c.edges-test.true))
    (row.each c.edges.k (search rules)) c.requires.value

pub edges-preserved : goal.edges-preserved
edges-preserved c =
    let p = c.args.table.now.plan in let inv = c.edges.invariant in (
      c.pass_one.ensures.seat,
      kept_more _ _ _ inv.1 c.pass_one.ensures.kept,
      passed_more p _ _ c.args.vertex c.args.offset c.args.value c.edges.k c.pass_one.ensures.kept inv.2
          (way_passed p c.pass_one.new.seat c.args.vertex c.edges.k c.args.offset c.args.value _ (c.ways_from-ways.ensures.each c.edges.k (search rules)) c.pass_one.ensures.passed),
    )

pub returns-clause-passed : goal.returns-clause-passed
returns-clause-passed c = λ k lt due.
    let row = c.ways_from-ways.ensures in
    c.edges.invariant.2 k (omega (arith, row.count, c.edges-test.false, lt)) due
