use Rattle.std.proofs.Common.{rules}
use Rattle.drt_lock.proofs.Steps.{counts_one}
use Rattle.drt_lock.proofs.lock.Lock.count.Goals as goal

pub fetch_add-requires : goal.fetch_add-requires
fetch_add-requires g c = (search rules, search rules, counts_one _ _ _ _ _ _ c.requires.work.0 c.requires.work.1)
