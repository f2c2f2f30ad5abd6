use Rattle.std.proofs.Common.{◌≡◌, ℕ, ◌-◌, ◌*◌, ◌/◌, ◌<◌, length, slice_index}
use Rattle.drt_steps.specs.Jumps.{values}
use Rattle.drt_steps.specs.Values.{value_at}
use Rattle.drt_steps.proofs.marks.marks.Given as goal

abbrev pub invariant-loop-k : goal.invariant-loop-k
invariant-loop-k l = (length l.marks ≡ 16) × ((i : ℕ) → i < l.k → slice_index l.marks i ≡ value_at (values l.bound l.base l.jumps) (l.bound - i * (l.bound / 16)))
