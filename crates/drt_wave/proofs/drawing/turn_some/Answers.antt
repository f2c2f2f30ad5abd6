use Rattle.std.proofs.Common.{◌≢◌, arith, sym, subst}
use Rattle.std.proofs.lemmas.Bool.{eqb-false}
use Rattle.drt_wave.specs.Net.{Among}
use Rattle.drt_wave.proofs.Going.{turned_more, turned_kept, turned_some}
use Rattle.drt_wave.proofs.Rows.{but_all}
use Rattle.drt_wave.proofs.drawing.turn_some.Goals as goal

pub expand_row-requires-clause-parts : goal.expand_row-requires-clause-parts
expand_row-requires-clause-parts c = turned_some _ _ c.draw_row-count.ensures.turned c.requires.parts

pub expand_row-requires-clause-known : goal.expand_row-requires-clause-known
expand_row-requires-clause-known c = c.draw_row-count.ensures.turned.known c.args.wave c.requires.known

pub returns-clause-turned : goal.returns-clause-turned
returns-clause-turned c = turned_more _ _ _ c.draw_row-count.ensures.turned (turned_kept _ _ c.expand_row.ensures.kept)

pub returns-clause-all : goal.returns-clause-all
returns-clause-all c = but_all
    c.args.table.now.plan _ _ c.args.wave c.draw_row-count.result _ c.draw_row-count.ensures.others c.expand_row.ensures.kept c.expand_row.ensures.expanded

pub returns-clause-past : goal.returns-clause-past
returns-clause-past c = λ no.
    let short : c.draw_row-count.result ≢ 8 = eqb-false c.draw_row-count.result 8 no in
    let past = c.draw_row-count.ensures.past (omega (arith, c.draw_row-count.ensures.count, short)) in
    (past.0, subst (λ l. Among (c.args.wave, past.0) l) (sym c.expand_row.ensures.kept.draws) past.1, past.2)
