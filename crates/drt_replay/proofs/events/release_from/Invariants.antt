use Rattle.std.proofs.Common.{◌-◌}
use Rattle.drt_replay.specs.Events.{IsReleased}
use Rattle.drt_replay.proofs.events.release_from.Given as goal

abbrev pub invariant-loop-next : goal.invariant-loop-next
invariant-loop-next l = IsReleased l.policy l.jobs l.now l.fn.stretch l.initial.ready (record { next = l.next; end = l.end }) l.ready

abbrev pub decreases-loop-next : goal.decreases-loop-next
decreases-loop-next l = l.end - l.next
