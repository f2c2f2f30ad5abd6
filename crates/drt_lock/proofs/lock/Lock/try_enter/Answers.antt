use Rattle.std.proofs.Common.{rules, ◌≡◌, Bool, true, ap, subst, MatchBool}
use Rattle.drt_lock.specs.Rule.{with_grip}
use Rattle.drt_lock.specs.declared.view.Grip.TheVariants.{Locked}
use Rattle.drt_lock.proofs.Steps.{takes_out}
use Rattle.drt_lock.proofs.lock.Lock.try_enter.Goals as goal

pub load-requires : goal.load-requires
load-requires g c =
    let was = c.args.seat.now.me in let now = c.try_grab.new.seat.me in
    let is : c.try_grab.result ≡ true = search rules in
    let grabbed = subst (λ (b : Bool). MatchBool b (now ≡ (with_grip was.0 Locked, was.1)) (now ≡ was)) is c.try_grab.ensures.seat in
    (search rules, search rules, takes_out _ _ _ _ _ _ (ap (λ m. m.0.grip) grabbed))
