use Rattle.std.proofs.Common.{◌≡◌, ◌≢◌, ℕ, ◌<◌, List, length, get_or}
use Rattle.drt_columns.proofs.block.used_slots.Given as goal

-- the slots up to here are used, and no other one is
pub record IsUsed (mask : List ℕ) (count : ℕ) : Type 0 where
  pub len : length mask ≡ 64
  pub used : (slot : ℕ) → get_or mask slot 0 ≢ 0 → slot < count
  pub all : (slot : ℕ) → slot < count → get_or mask slot 0 ≢ 0

abbrev pub invariant-loop-slot : goal.invariant-loop-slot
invariant-loop-slot l = IsUsed l.mask l.slot
