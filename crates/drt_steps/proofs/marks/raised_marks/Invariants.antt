use Rattle.std.proofs.Common.{◌≡◌, ℕ, ◌+◌, ◌-◌, ◌*◌, ◌/◌, ◌<◌, cond, length, slice_index}
use Rattle.std.specs.Prelude.{nat_lt}
use Rattle.drt_steps.proofs.marks.raised_marks.Given as goal

abbrev pub invariant-loop-k : goal.invariant-loop-k
invariant-loop-k l =
    (length l.raised ≡ 16) × ((i : ℕ) → i < l.k → slice_index l.raised i ≡ slice_index l.marks i + cond (nat_lt l.offset (l.bound - i * (l.bound / 16))) l.work 0)
