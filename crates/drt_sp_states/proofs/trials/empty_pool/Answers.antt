-- A pool of nothing.
use Rattle.std.proofs.Common.{rules}
use Rattle.drt_sp_states.proofs.Pooled.{none_pooled}
use Rattle.drt_sp_states.proofs.trials.empty_pool.Goals as goal

pub returns : goal.returns
returns c = search (rules, none_pooled)
