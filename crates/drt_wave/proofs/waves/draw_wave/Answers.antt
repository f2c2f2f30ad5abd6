use Rattle.std.proofs.Common.{rules, ◌∙◌, ◌+◌, ◌<◌, sym, subst, arith}
use Rattle.drt_wave.specs.Cells.{net_of}
use Rattle.drt_wave.proofs.Going.{turned_refl, turned_more, turned_some, below_turned}
use Rattle.drt_wave.proofs.waves.draw_wave.Goals as goal

pub turns-init : goal.turns-init
turns-init c = (c.requires.seat, turned_refl _, c.requires.all, λ k lt. absurd (omega arith))

pub turn-requires-clause-parts : goal.turn-requires-clause-parts
turn-requires-clause-parts c = turned_some _ _ c.turns.invariant.1 (subst (λ n. 0 < n) (sym c.requires.whole) (omega arith))

pub turn-requires-clause-known : goal.turn-requires-clause-known
turn-requires-clause-known c = c.turns.invariant.1.known c.args.wave c.requires.known

pub turns-preserved : goal.turns-preserved
turns-preserved c = (
  c.turn.ensures.seat,
  turned_more _ _ _ c.turns.invariant.1 c.turn.ensures.turned,
  c.turn.ensures.all,
  c.turn.ensures.drawn c.turns._block (c.turns.invariant.1.parts ∙ c.requires.whole) c.turns.invariant.3,
)

pub turn-requires-2-clause-parts : goal.turn-requires-2-clause-parts
turn-requires-2-clause-parts c = turned_some _ _ c.turns.invariant.1 (subst (λ n. 0 < n) (sym c.requires.whole) (omega arith))

pub turn-requires-2-clause-known : goal.turn-requires-2-clause-known
turn-requires-2-clause-known c = c.turns.invariant.1.known c.args.wave c.requires.known

pub returns-clause-turned : goal.returns-clause-turned
returns-clause-turned c = turned_more _ _ _ c.turns.invariant.1 c.turn-2.ensures.turned

pub returns-clause-worked : goal.returns-clause-worked
returns-clause-worked c = record {
  blocks = c.turns._block + 1;
  drawn = c.turn-2.ensures.drawn c.turns._block (c.turns.invariant.1.parts ∙ c.requires.whole) c.turns.invariant.3;
  ended = omega (arith, c.block_count-blocks.ensures.covers, c.turns-test.false);
}

pub returns-then-not-turn-clause-turned : goal.returns-then-not-turn-clause-turned
returns-then-not-turn-clause-turned c = turned_more _ _ _ c.turns.invariant.1 c.turn.ensures.turned

pub returns-then-not-turn-clause-worked : goal.returns-then-not-turn-clause-worked
returns-then-not-turn-clause-worked c = c.turn.ensures.worked (search rules) (c.turns.invariant.1.parts ∙ c.requires.whole)

pub returns-then-not-turn-clause-known : goal.returns-then-not-turn-clause-known
returns-then-not-turn-clause-known c = λ _.
    let t = c.args.table.now in let i = c.turns.invariant in
    c.turn.ensures.known (search rules) (i.1.parts ∙ c.requires.whole) (below_turned (net_of t.plan) _ _ c.args.wave i.1 c.requires.drawn)

pub returns-clause-known : goal.returns-clause-known
returns-clause-known c = λ told.
    let t = c.args.table.now in let i = c.turns.invariant in
    c.turn-2.ensures.known (search (rules, told)) (i.1.parts ∙ c.requires.whole) (below_turned (net_of t.plan) _ _ c.args.wave i.1 c.requires.drawn)
