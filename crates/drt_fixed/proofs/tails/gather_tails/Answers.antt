use Rattle.std.proofs.Common.{All, subst, sym}
use Rattle.std.proofs.lemmas.List.Elements.{All-push}
use Rattle.drt_check_states.specs.Curves.{HasRisingCurves}
use Rattle.drt_fixed.proofs.tails.gather_tails.Goals as goal

pub next_tail-requires-clause-order : goal.next_tail-requires-clause-order
next_tail-requires-clause-order c = c.requires.order

pub next_tail-requires-clause-ahead : goal.next_tail-requires-clause-ahead
next_tail-requires-clause-ahead c = c.loop-i.invariant.1

pub loop-i-preserved : goal.loop-i-preserved
loop-i-preserved c =
    let rises = rw c.in-Some.is at c.in_ok-tail.ensures.rising in (
      subst (All HasRisingCurves) (sym c.in_ok-push-in-Some.ensures.items) (All-push HasRisingCurves c.loop-i.tails.items c.in-Some.tail c.loop-i.invariant.0 rises),
      c.in_ok-tail.ensures.ahead,
    )
