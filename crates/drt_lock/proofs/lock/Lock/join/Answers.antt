use Rattle.std.proofs.Common.{rules}
use Rattle.drt_lock.proofs.Steps.{joins}
use Rattle.drt_lock.proofs.lock.Lock.join.Goals as goal

pub join_seat-requires : goal.join_seat-requires
join_seat-requires g c = (search rules, search rules, c.requires.other.2, search rules, joins _ _ _ _ _ _ _ c.requires.seat.0 c.requires.other.1)
