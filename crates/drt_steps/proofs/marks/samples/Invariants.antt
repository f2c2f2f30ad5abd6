use Rattle.std.proofs.Common.{◌≡◌, ℕ, ◌<◌, length, slice_index}
use Rattle.drt_steps.specs.Samples.{coarse}
use Rattle.drt_steps.proofs.marks.samples.Given as goal

abbrev pub invariant-loop-k : goal.invariant-loop-k
invariant-loop-k l = (length l.samples ≡ 16) × ((i : ℕ) → i < l.k → slice_index l.samples i ≡ coarse l.bound (slice_index l.marks i))
