use Rattle.std.proofs.Common.{rules}
use Rattle.drt_lock.proofs.Steps.{leaves}
use Rattle.drt_lock.proofs.lock.Lock.leave.Goals as goal

pub store-requires : goal.store-requires
store-requires g c =
    let y = c.requires.machine in
    (search rules, search rules, leaves _ _ _ _ _ _ _ _ _ c.requires.work.0 c.requires.work.1.0 y.1 y.2 y.3 (search rules))
