use Rattle.std.proofs.Common.{rules, ap}
use Rattle.drt_lock.proofs.Steps.{takes_out}
use Rattle.drt_lock.proofs.lock.Lock.enter.Goals as goal

pub load-requires : goal.load-requires
load-requires g c = (search rules, search rules, takes_out _ _ _ _ _ _ (ap (λ m. m.0.grip) c.grab.ensures.seat))
