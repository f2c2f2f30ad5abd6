-- No text of responses begins so far.
use Rattle.std.proofs.Common.{ℕ, ◌<◌}
use Rattle.drt_command_timeline.specs.Inputs.{BeginsAt}
use Rattle.drt_command_timeline.proofs.inputs.cut_at.Given as goal

abbrev pub invariant-loop-at : goal.invariant-loop-at
invariant-loop-at l = (m : ℕ) → m < l.at → BeginsAt l.bytes m → ⊥
