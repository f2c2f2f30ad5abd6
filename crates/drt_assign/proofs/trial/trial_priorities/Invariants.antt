-- The priorities so far, and the next one for an open task.
use Rattle.std.proofs.Common.{◌≡◌, map, suc}
use Rattle.std.specs.List.{range_with_len}
use Rattle.drt_assign.proofs.Trials.{beside, trial_at}
use Rattle.drt_assign.proofs.trial.trial_priorities.Given as goal

abbrev pub invariant-loop-k : goal.invariant-loop-k
invariant-loop-k l = (l.next ≡ suc (beside l.standing.ranks.now l.task l.k)) × (l.priorities.items ≡ map (trial_at l.standing.ranks.now l.standing.open_count l.task) (range_with_len 0 l.k))
