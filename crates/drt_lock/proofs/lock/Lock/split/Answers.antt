use Rattle.std.proofs.Common.{rules}
use Rattle.drt_lock.proofs.Steps.{splits}
use Rattle.drt_lock.proofs.lock.Lock.split.Goals as goal

pub split_seat-requires : goal.split_seat-requires
split_seat-requires g c = (search rules, search rules, splits _ _ _ _ _ c.requires.seat.0 c.requires.seat.1.1)
