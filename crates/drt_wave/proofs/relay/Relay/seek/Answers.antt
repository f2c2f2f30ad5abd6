use Rattle.std.proofs.Common.{◌≡◌, ℕ, ◌<◌, [], ◌∷◌, refl, ap, sym, ◌∙◌, arith}
use Rattle.drt_wave.proofs.relay.Relay.seek.Goals as goal

pub leave-requires-clause-machine : goal.leave-requires-clause-machine
leave-requires-clause-machine c =
    let same = c.take-is_done.ensures.me in let e = c.in-Some-try_enter.ensures in let y = e.machine in
    (y.0, ap (λ m. m.1) same ∙ y.1, y.2, y.3 ∙ sym e.work.1 ∙ sym (ap (λ m. m.0.read) same))

some_part : (parts : ℕ) → parts ≡ 1 → 0 < parts
some_part parts one = omega arith

pub try_enter-requires-clause-seat : goal.try_enter-requires-clause-seat
try_enter-requires-clause-seat c = let rests = c.requires.seat in (some_part _ rests.0.1, ((rests.0.0, refl, refl), rests.1, rests.2))

pub take-is_done-requires-clause-desk : goal.take-is_done-requires-clause-desk
take-is_done-requires-clause-desk c = let y = c.in-Some-try_enter.ensures.machine in y.1 ∙ ap (λ t. (0, t) ∷ []) y.2

pub leave-requires-clause-work : goal.leave-requires-clause-work
leave-requires-clause-work c =
    let same = c.take-is_done.ensures.me in let e = c.in-Some-try_enter.ensures in
    (ap (λ m. m.0.grip) same ∙ e.work.0, (ap (λ m. m.0.fixed) same ∙ e.knows.0, refl, refl))
