use Rattle.std.proofs.Common.{rules, refl, arith, subst, ◌≡◌, ◌<◌, ◌≤◌, ◌*◌, length}
use Rattle.drt_wave.specs.Cells.{net_of}
use Rattle.drt_wave.specs.Rows.{ExpandedBut}
use Rattle.drt_wave.proofs.Working.{size_small}
use Rattle.drt_wave.proofs.Going.{turned_refl, turned_more, turned_some, past_drawn}
use Rattle.drt_wave.proofs.Rows.{but_none, but_past, but_more, within_more}
use Rattle.drt_wave.proofs.drawing.draw_row.Goals as goal

pub draws-init : goal.draws-init
draws-init c = (c.requires.seat, turned_refl _, but_none c.args.table.now.plan c.args.seat.now c.args.wave c.args.row.now c.requires.all, λ i lt. absurd (omega arith))

pub draw-block-requires-clause-parts : goal.draw-block-requires-clause-parts
draw-block-requires-clause-parts c = turned_some _ _ c.draws.invariant.1 c.requires.parts

pub returns-then-block-blocks-clause-turned : goal.returns-then-block-blocks-clause-turned
returns-then-block-blocks-clause-turned c = let d = c.draw-block.ensures in turned_more _ _ _ c.draws.invariant.1 d.turned

pub returns-then-block-blocks-clause-others : goal.returns-then-block-blocks-clause-others
returns-then-block-blocks-clause-others c =
    let p = c.args.table.now.plan in let d = c.draw-block.ensures in
    let past : (net_of p).size c.args.wave ≤ c.draw-block.result * 64 = omega (arith, c.block_count-blocks.ensures.covers, c.if-block-blocks.true) in
    but_past p _ _ c.args.wave c.draw-block.result c.draws.k c.draws.row d.claimed d.turned past c.draws.invariant.2

pub returns-then-block-blocks-clause-past : goal.returns-then-block-blocks-clause-past
returns-then-block-blocks-clause-past c = λ _.
    let g = net_of c.args.table.now.plan in
    let past : g.size c.args.wave ≤ c.draw-block.result * 64 = omega (arith, c.block_count-blocks.ensures.covers, c.if-block-blocks.true) in
    past_drawn g _ _ c.args.wave c.draw-block.result c.draw-block.ensures.claimed past

pub draws-preserved : goal.draws-preserved
draws-preserved c =
    let t = c.args.table.now in let p = t.plan in let inv = c.draws.invariant in let d = c.draw-block.ensures in
    let room : c.draws.k < length c.draws.row = omega (arith, c.draws-test.true) in (
      d.seat,
      turned_more _ _ _ inv.1 d.turned,
      but_more p _ _ c.args.wave c.draw-block.result c.draws.k c.draws.row d.claimed d.turned
          (size_small p t.planned (net_of p).cells c.args.wave t.planned.small refl) room inv.2,
      within_more c.draws.row c.draws.k c.draw-block.result _ room inv.3 (c.block_count-blocks.ensures.begins c.draw-block.result (omega (arith, c.if-block-blocks.false))),
    )

pub returns-clause-others : goal.returns-clause-others
returns-clause-others c =
    let full : c.draws.k ≡ 8 = search rules in
    subst (λ n. ExpandedBut c.args.table.now.plan c.args.wave c.draws.row n c.draws.seat) full c.draws.invariant.2
