use Rattle.std.proofs.Common.{ℕ, ◌<◌}
use Rattle.drt_replay.specs.Events.{IsLater, IsMoved, stretch_at}
use Rattle.drt_replay.proofs.events.release.Given as goal

abbrev pub invariant-loop-i : goal.invariant-loop-i
invariant-loop-i l = record {
  moved : IsMoved l.policy l.jobs l.now l.initial.waiting l.initial.ready l.waiting l.ready;
  later : (k : ℕ) → k < l.i → IsLater l.jobs l.now (stretch_at l.waiting k);
}
