-- Draws of a linear congruential generator of 64 bits, with Knuth's multiplier for MMIX.
use Rattle.std.specs.Prelude.{ℕ, zero, suc, ◌+◌, ◌*◌, ◌/◌, ◌%◌, ◌^◌}

-- The state after so many draws that begin at a number.
unfoldable pub state_after : ℕ → ℕ → ℕ
state_after number zero = number
state_after number (suc k) = (state_after number k * 6364136223846793005 + 1442695040888963407) % 2 ^ 64

-- The draw behind k others, among so many values from 0 on.
abbrev pub draw : ℕ → ℕ → ℕ → ℕ
draw number k many = (state_after number (k + 1) / 2 ^ 33) % many
