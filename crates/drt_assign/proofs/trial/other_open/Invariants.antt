-- The other open tasks so far.
use Rattle.std.proofs.Common.{◌≡◌}
use Rattle.std.specs.Prelude.{filter}
use Rattle.std.specs.List.{range_with_len}
use Rattle.drt_assign.proofs.Trials.{is_beside}
use Rattle.drt_assign.proofs.trial.other_open.Given as goal

abbrev pub invariant-loop-k : goal.invariant-loop-k
invariant-loop-k l = l.others.items ≡ filter (is_beside l.ranks l.task) (range_with_len 0 l.k)
