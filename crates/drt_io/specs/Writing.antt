-- What a write does to the bytes that a sink holds, where it tells them.
use Rattle.std.specs.Prelude.{◌≡◌, ◌≤◌, ◌<◌, ℕ, List, ◌++◌, take, length, Result, IfOk, MatchResult, Option, Some, None, ⊤}

-- What is held grew by exactly these bytes, if it was told before and is told now; what isn't told is never told again.
abbrev pub GrowsBy : Option (List ℕ) → Option (List ℕ) → List ℕ → Type 0
GrowsBy None None bytes = ⊤
GrowsBy None (Some new) bytes = ⊥
GrowsBy (Some old) None bytes = ⊤
GrowsBy (Some old) (Some new) bytes = new ≡ old ++ bytes

-- What is held grew by a prefix of these bytes.
abbrev pub GrowsByPrefix : Option (List ℕ) → Option (List ℕ) → List ℕ → Type 0
GrowsByPrefix old new bytes = (n : ℕ) × (n ≤ length bytes) × GrowsBy old new (take n bytes)

-- A write that took n bytes of the piece grew what is held by its first n bytes; one that failed left it as it was.
abbrev pub WriteGrows : {E : Type 0} → Option (List ℕ) → Option (List ℕ) → Result ℕ E → List ℕ → Type 0
WriteGrows old new result piece = MatchResult result (λ n. GrowsBy old new (take n piece)) (λ _. new ≡ old)

-- A write took at least one byte of a piece that isn't empty.
abbrev pub MovesOn : {E : Type 0} → Result ℕ E → List ℕ → Type 0
MovesOn result piece = IfOk result (λ n. 0 < length piece → 0 < n)
