-- What a turn answered, and what holds of passes at their places.
use Rattle.std.specs.Prelude.{ℕ, ◌<◌, List, length, slice_index_or}
use Rattle.drt_pool.specs.declared.work.Turn.{Turn}
use Rattle.drt_pool.specs.declared.work.Turn.TheVariants.{More, Stop}

-- The pass is at its end.
abbrev pub IsEndOfTurns : Turn → Type 0
IsEndOfTurns More = ⊥
IsEndOfTurns Stop = Unit {0}

-- The fact holds of the item at that place, where there is one.
abbrev pub AtPlace : {X : Type 0} → (ℕ → X → Type 0) → ℕ → List X → Type 0
AtPlace P i xs = (d : _) → i < length xs → P i (slice_index_or xs i d)

-- The fact holds of each item at its place.
abbrev pub EachPlace : {X : Type 0} → (ℕ → X → Type 0) → List X → Type 0
EachPlace P xs = (i : ℕ) → AtPlace P i xs
