-- The events of the jobs so far.
use Rattle.drt_timeline.proofs.GatheringLemmas.{AreEventsBelow}
use Rattle.drt_timeline.proofs.gathering.events_of.Given as goal

abbrev pub invariant-loop-j : goal.invariant-loop-j
invariant-loop-j l = AreEventsBelow l.board.policy l.board.jobs l.board.ticks l.j l.events.items
