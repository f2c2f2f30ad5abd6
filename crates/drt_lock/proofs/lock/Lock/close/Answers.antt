use Rattle.std.proofs.Common.{◌∙◌, rules}
use Rattle.drt_lock.proofs.Steps.{closes}
use Rattle.drt_lock.proofs.lock.Lock.close.Goals as goal

pub returns-clause-fixed : goal.returns-clause-fixed
returns-clause-fixed g c = (closes _ _ _ _ _ _ _ _ c.requires.seat.0.1 c.requires.seat.1 c.close_with-closed.ensures.values.2 c.take-machine.ensures.value).0 ∙ search rules

pub returns-clause-entries : goal.returns-clause-entries
returns-clause-entries g c = (closes _ _ _ _ _ _ _ _ c.requires.seat.0.1 c.requires.seat.1 c.close_with-closed.ensures.values.2 c.take-machine.ensures.value).1
