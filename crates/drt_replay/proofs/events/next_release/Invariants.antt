use Rattle.std.proofs.Common.{ℕ, ◌<◌, ◌≤◌}
use Rattle.drt_replay.specs.Events.{IsStretchFrom, stretch_at}
use Rattle.drt_replay.proofs.events.next_release.Given as goal

abbrev pub invariant-loop-stretch : goal.invariant-loop-stretch
invariant-loop-stretch l = record {
  ahead : l.now < l.next;
  in_time : l.next ≤ l.t;
  calm : (k : ℕ) → k < l.stretch-index → IsStretchFrom l.jobs l.next (stretch_at l.waiting k);
}
