use Rattle.std.proofs.Common.{arith}
use Rattle.drt_wave.proofs.Going.{kept_refl, kept_more, kept_some}
use Rattle.drt_wave.proofs.Rows.{row_more}
use Rattle.drt_wave.proofs.drawing.expand_row.Goals as goal

pub drawn-init : goal.drawn-init
drawn-init c = (c.requires.seat, kept_refl _, λ i n lt few is. absurd (omega arith))

pub expand_block-requires-clause-parts : goal.expand_block-requires-clause-parts
expand_block-requires-clause-parts c = kept_some _ _ c.drawn.invariant.1 c.requires.parts

pub expand_block-requires-clause-known : goal.expand_block-requires-clause-known
expand_block-requires-clause-known c = c.drawn.invariant.1.known c.args.wave c.requires.known

pub drawn-preserved : goal.drawn-preserved
drawn-preserved c =
    let inv = c.drawn.invariant in (
      c.expand_block.ensures.seat,
      kept_more _ _ _ inv.1 c.expand_block.ensures.kept,
      row_more c.args.table.now.plan _ _ c.args.wave c.drawn.k c.args.row.now c.expand_block.ensures.kept inv.2 c.expand_block.ensures.expanded,
    )
