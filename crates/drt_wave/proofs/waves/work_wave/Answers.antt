use Rattle.std.proofs.Common.{◌+◌}
use Rattle.drt_wave.specs.Cells.{net_of}
use Rattle.drt_wave.proofs.Going.{waves_more, expanded_to, all_on, below_on}
use Rattle.drt_wave.proofs.waves.work_wave.Goals as goal

pub returns-then-not-draw_wave-clause-all : goal.returns-then-not-draw_wave-clause-all
returns-then-not-draw_wave-clause-all c = let k = c.look_along.ensures.kept in all_on c.args.table.now.plan c.draw_wave.new.seat c.look_along.new.seat k.draws k.raised c.draw_wave.ensures.all

pub returns-then-not-draw_wave-clause-drawn : goal.returns-then-not-draw_wave-clause-drawn
returns-then-not-draw_wave-clause-drawn c =
    let t = c.args.table.now in let d = c.draw_wave.ensures in
    below_on (net_of t.plan) c.draw_wave.new.seat c.look_along.new.seat (c.args.wave + 1) c.look_along.ensures.kept.draws (waves_more t _ _ c.args.wave d.turned c.requires.drawn d.worked)

pub returns-then-not-draw_wave-clause-known : goal.returns-then-not-draw_wave-clause-known
returns-then-not-draw_wave-clause-known c =
    let t = c.args.table.now in let d = c.draw_wave.ensures in
    c.look_along.ensures.known (expanded_to t.plan t.planned c.draw_wave.new.seat c.args.wave d.all (waves_more t _ _ c.args.wave d.turned c.requires.drawn d.worked))

pub returns-else-not-draw_wave-clause-drawn : goal.returns-else-not-draw_wave-clause-drawn
returns-else-not-draw_wave-clause-drawn c = let d = c.draw_wave.ensures in waves_more c.args.table.now _ _ c.args.wave d.turned c.requires.drawn d.worked
