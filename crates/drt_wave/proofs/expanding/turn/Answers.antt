use Rattle.std.proofs.Common.{refl, sym, subst, arith, ◌<◌, ◌≤◌, ◌*◌}
use Rattle.drt_wave.specs.Net.{Among}
use Rattle.drt_wave.specs.Cells.{net_of}
use Rattle.drt_wave.specs.Seats.{Turned}
use Rattle.drt_wave.proofs.Working.{size_small}
use Rattle.drt_wave.proofs.Going.{turned_more, turned_kept, all_past, past_drawn, all_drawn, drawn_more, worked_past, past_expanded}
use Rattle.drt_wave.proofs.expanding.turn.Goals as goal

pub returns-then-block-blocks-clause-turned : goal.returns-then-block-blocks-clause-turned
returns-then-block-blocks-clause-turned c = let d = c.claim-block.ensures in d.turned

pub returns-then-block-blocks-clause-all : goal.returns-then-block-blocks-clause-all
returns-then-block-blocks-clause-all c =
    let p = c.args.table.now.plan in let d = c.claim-block.ensures in
    let past : (net_of p).size c.args.wave ≤ c.claim-block.result * 64 = omega (arith, c.block_count-blocks.ensures.covers, c.if-block-blocks.true) in
    all_past p _ _ c.args.wave c.claim-block.result d.claimed d.turned c.requires.all past

pub returns-then-block-blocks-clause-past : goal.returns-then-block-blocks-clause-past
returns-then-block-blocks-clause-past c = λ _.
    let g = net_of c.args.table.now.plan in
    let past : g.size c.args.wave ≤ c.claim-block.result * 64 = omega (arith, c.block_count-blocks.ensures.covers, c.if-block-blocks.true) in
    past_drawn g _ _ c.args.wave c.claim-block.result c.claim-block.ensures.claimed past

pub returns-then-block-blocks-clause-drawn : goal.returns-then-block-blocks-clause-drawn
returns-then-block-blocks-clause-drawn c = λ b whole has.
    let d = c.claim-block.ensures in drawn_more _ _ c.args.wave _ b d.claimed d.turned whole has

pub returns-then-block-blocks-clause-worked : goal.returns-then-block-blocks-clause-worked
returns-then-block-blocks-clause-worked c = λ _ whole.
    let t = c.args.table.now in let d = c.claim-block.ensures in
    let past : (net_of t.plan).size c.args.wave ≤ c.claim-block.result * 64 = omega (arith, c.block_count-blocks.ensures.covers, c.if-block-blocks.true) in
    worked_past t _ _ c.args.wave c.claim-block.result d.claimed d.turned whole past

pub returns-then-block-blocks-clause-known : goal.returns-then-block-blocks-clause-known
returns-then-block-blocks-clause-known c = λ _ whole before.
    let t = c.args.table.now in let d = c.claim-block.ensures in
    let past : (net_of t.plan).size c.args.wave ≤ c.claim-block.result * 64 = omega (arith, c.block_count-blocks.ensures.covers, c.if-block-blocks.true) in
    d.known past (past_expanded t _ _ c.args.wave c.claim-block.result d.claimed whole past c.requires.all before)

pub expand_block-requires-clause-parts : goal.expand_block-requires-clause-parts
expand_block-requires-clause-parts c = subst (λ n. 0 < n) (sym c.claim-block.ensures.turned.parts) c.requires.parts

pub expand_block-requires-clause-known : goal.expand_block-requires-clause-known
expand_block-requires-clause-known c =
    let d = c.claim-block.ensures in
    let t : Turned c.args.seat.now c.claim-block.new.seat = d.turned in
    t.known c.args.wave c.requires.known

pub expand_block-requires-clause-block : goal.expand_block-requires-clause-block
expand_block-requires-clause-block c = c.block_count-blocks.ensures.begins c.claim-block.result (omega (arith, c.if-block-blocks.false))

pub returns-clause-turned : goal.returns-clause-turned
returns-clause-turned c = let d = c.claim-block.ensures in turned_more _ _ _ d.turned (turned_kept _ _ c.expand_block.ensures.kept)

pub returns-clause-all : goal.returns-clause-all
returns-clause-all c =
    let t = c.args.table.now in let p = t.plan in let d = c.claim-block.ensures in
    all_drawn p _ _ _ c.args.wave c.claim-block.result d.claimed d.turned c.requires.all
    (size_small p t.planned (net_of p).cells c.args.wave t.planned.small refl) c.expand_block.ensures.kept c.expand_block.ensures.expanded

pub returns-clause-drawn : goal.returns-clause-drawn
returns-clause-drawn c = λ b whole has k lt.
    let d = c.claim-block.ensures in
    subst (λ l. Among (c.args.wave, k) l) (sym c.expand_block.ensures.kept.draws) (drawn_more _ _ c.args.wave _ b d.claimed d.turned whole has k lt)
