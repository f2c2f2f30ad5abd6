use Rattle.std.proofs.Common.{rules}
use Rattle.drt_lock.proofs.Steps.{grabs}
use Rattle.drt_lock.proofs.lock.Lock.try_grab.Goals as goal

pub compare_exchange-requires : goal.compare_exchange-requires
compare_exchange-requires g c = (search rules, search rules, grabs _ _ _ _ _ _ c.requires.seat.1 c.requires.seat.0)
