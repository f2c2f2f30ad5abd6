-- No event so far is a miss.
use Rattle.std.proofs.Common.{◌≡◌, ℕ, ◌<◌}
use Rattle.drt_timeline.specs.declared.event.Mark.TheVariants.{Miss}
use Rattle.drt_command_timeline.specs.Drawn.{event_at}
use Rattle.drt_command_timeline.proofs.drawing.first_miss.Given as goal

abbrev pub invariant-loop-i : goal.invariant-loop-i
invariant-loop-i l = (k : ℕ) → k < l.i → (event_at l.events k).mark ≡ Miss → ⊥
