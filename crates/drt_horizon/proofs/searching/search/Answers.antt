use Rattle.std.proofs.Common.{arith}
use Rattle.drt_horizon.proofs.Multiples.{count_none, count_more, clear_to, clear_more}
use Rattle.drt_horizon.proofs.searching.search.Goals as goal

pub steps-init : goal.steps-init
steps-init c = record { count = count_none c.args.cycle_turns.now; clear = λ s l step. (let some = step.0 in absurd (omega arith)); step = λ h. absurd (omega arith); near = omega arith }

pub returns-then-work_within-next : goal.returns-then-work_within-next
returns-then-work_within-next c =
    let is = c.next_step-next.ensures.next in (
      (omega (arith, is.after), is.step),
      omega (arith, c.work_within.ensures),
      clear_to c.args.cycle_turns.now c.steps.t c.next_step-next.result is
          c.steps.invariant.clear,
      omega (arith, count_more c.args.cycle_turns.now c.steps.t c.next_step-next.result is, c.steps.invariant.count),
    )

pub steps-preserved : goal.steps-preserved
steps-preserved c =
    let is = c.next_step-next.ensures.next in
    record {
      count = omega (arith, count_more c.args.cycle_turns.now c.steps.t c.next_step-next.result is, c.steps.invariant.count);
      clear = clear_more c.args.cycle_turns.now c.steps.t c.next_step-next.result is c.steps.invariant.clear (omega (arith, c.work_within.ensures));
      step = λ h. (omega (arith, is.after), is.step);
      near = omega (arith, c.next_step-next.ensures.near, c.steps.invariant.near);
    }
