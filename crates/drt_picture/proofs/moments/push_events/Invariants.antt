use Rattle.std.proofs.Common.{◌≡◌, ◌++◌, take, map}
use Rattle.drt_picture.specs.Moments.{moment_of_event}
use Rattle.drt_picture.proofs.moments.push_events.Given as goal

abbrev pub invariant-loop-event : goal.invariant-loop-event
invariant-loop-event l = l.moments.items ≡ l.initial.moments.items ++ map moment_of_event (take l.event-index l.events)
