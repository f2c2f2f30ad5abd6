use Rattle.std.proofs.Common.{◌≡◌, ℕ, ◌<◌, ◌≤◌, List, length}
use Rattle.std.specs.Prelude.{slice_index}
use Rattle.drt_columns.specs.Slots.{kept}
use Rattle.drt_columns.proofs.block.rule_out.Given as goal

-- the slots up to here are compared, and the others are as they were
pub record AreCompared (mask initial column : List ℕ) (least slot : ℕ) : Type 0 where
  pub len : length mask ≡ 64
  pub compared : (k : ℕ) → k < slot → slice_index mask k ≡ kept least (slice_index column k) (slice_index initial k)
  pub others : (k : ℕ) → slot ≤ k → slice_index mask k ≡ slice_index initial k

abbrev pub invariant-loop-slot : goal.invariant-loop-slot
invariant-loop-slot l = AreCompared l.mask l.initial.mask l.column l.least l.slot
