use Rattle.drt_replay.specs.Events.{Ascend}
use Rattle.drt_replay.proofs.made.stretch_end.Given as goal

abbrev pub invariant-loop-end : goal.invariant-loop-end
invariant-loop-end l = Ascend l.jobs l.start l.end
