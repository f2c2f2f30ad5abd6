use Rattle.std.proofs.Common.{◌<◌, length, arith}
use Rattle.std.proofs.lemmas.List.{drop_more, take_more}
use Rattle.drt_horizon.specs.CycleTurns.{no_cycle_turn}
use Rattle.drt_horizon.proofs.Multiples.{next_less, next_more}
use Rattle.drt_horizon.proofs.cycle_turns.next_step.Goals as goal
use Rattle.drt_horizon.proofs.cycle_turns.next_step.Goals.{then-other-next, else-other-next}

pub cycle_turns-preserved : goal.cycle_turns-preserved
cycle_turns-preserved c =
    let l : c.cycle_turns.i < length c.args.cycle_turns.now = omega arith in
    let f = drop_more c.args.cycle_turns.now c.cycle_turns.i no_cycle_turn l in
    let e = take_more c.args.cycle_turns.now c.cycle_turns.i no_cycle_turn l in
    let cycle_turns = rw f at c.cycle_turns.invariant.cycle_turns in
    elim c.if-other-next.branch [
      | then-other-next w ↦ rw (w.next-is, e)
          (record {
            cycle_turns = cycle_turns.3;
            next = next_less _ _ _ _ _ c.cycle_turns.invariant.next c.next_of-other.ensures.next w.if-other-next.true;
            near = c.next_of-other.ensures.near;
          })
      | else-other-next w ↦ rw (w.next-is, e)
          (record {
            cycle_turns = cycle_turns.3;
            next = next_more _ _ _ _ _ c.cycle_turns.invariant.next c.next_of-other.ensures.next w.if-other-next.false;
            near = c.cycle_turns.invariant.near;
          })
    ]
