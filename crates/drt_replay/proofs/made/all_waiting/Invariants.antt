use Rattle.std.proofs.Common.{◌≤◌, ◌-◌}
use Rattle.drt_replay.specs.Events.{AreWaiting}
use Rattle.drt_replay.proofs.made.all_waiting.Given as goal

abbrev pub invariant-loop-next : goal.invariant-loop-next
invariant-loop-next l = record {
  within : l.next ≤ l.count;
  so_far : AreWaiting l.jobs l.next l.waiting.items;
}

abbrev pub decreases-loop-next : goal.decreases-loop-next
decreases-loop-next l = l.count - l.next
