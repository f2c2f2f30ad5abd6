use Rattle.std.proofs.Common.{ℕ, ◌<◌, get_or}
use Rattle.drt_timeline.specs.declared.event.Event.{Event}
use Rattle.drt_picture.proofs.layout.count_before.Given as goal

abbrev pub invariant-loop-i : goal.invariant-loop-i
invariant-loop-i l = (k : ℕ) (d : Event) → k < l.i → (get_or l.events k d).time < l.time
