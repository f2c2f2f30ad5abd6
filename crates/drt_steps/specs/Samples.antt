-- Samples of a function, of 16 bits each, by which most pairs of functions are told apart.
use Rattle.std.specs.Prelude.{ℕ, ◌+◌, ◌-◌, ◌*◌, ◌/◌, min, List, length}
use Rattle.drt_steps.specs.Values.{value_at}
use Rattle.drt_steps.specs.Jumps.{values_from}

-- A value as a multiple of the unit that the bound gives, or the greatest number of 16 bits where it is greater.
abbrev pub coarse : ℕ → ℕ → ℕ
coarse bound v = min 65535 (v / (bound / 32768 + 1))

-- The sample at the kth time before the bound, each of them a sixteenth of the bound before the last.
abbrev pub sample_at : List ℕ → ℕ → ℕ
sample_at xs k = coarse (length xs) (value_at xs (length xs - k * (length xs / 16)))

-- The samples at the bound and at fifteen times before it.
unfoldable pub samples_of : List ℕ → List ℕ
samples_of xs = values_from (λ k. sample_at xs k) 0 16
