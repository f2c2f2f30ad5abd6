use Rattle.std.proofs.Common.{ℕ, arith, ap, sym, ◌∙◌}
use Rattle.drt_lock.specs.declared.view.SeatView.{SeatView}
use Rattle.drt_workers_tests.proofs.tally.step.Goals as goal

pub leave-requires-clause-machine : goal.leave-requires-clause-machine
leave-requires-clause-machine g c = let m = c.enter-noted.ensures.machine in (m.0, m.1, m.2, m.3 ∙ sym c.enter-noted.ensures.work.1)

pub leave-requires-then-not-take_note-clause-machine : goal.leave-requires-then-not-take_note-clause-machine
leave-requires-then-not-take_note-clause-machine g c =
    let m = c.enter-noted.ensures.machine in let n = c.if-not-take_note.ensures.machine m.0 m.1 in
    (n.0, n.1, n.2 ∙ m.2, n.3 ∙ m.3 ∙ sym c.enter-noted.ensures.work.1 ∙ sym (ap (λ (v : SeatView ℕ). v.read) c.take_note.ensures.name.1))

pub leave-requires-2-clause-machine : goal.leave-requires-2-clause-machine
leave-requires-2-clause-machine g c =
    let m = c.enter-noted.ensures.machine in let n = c.if-not-take_note.ensures.machine m.0 m.1 in (
      n.0,
      c.count.ensures.machine ∙ n.1,
      n.2 ∙ m.2,
      omega (arith, n.3, m.3, c.enter-noted.ensures.work.1, ap (λ (v : SeatView ℕ). v.read) c.take_note.ensures.name.1, c.count.ensures.work.1),
    )
