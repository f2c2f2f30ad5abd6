-- The times at which a job and the work ahead of it are done.
use Rattle.std.specs.Prelude.{ℕ, ◌+◌, ◌≤◌, ◌<◌, List, [], ◌∷◌, slice_index_or, length, Option, Some, None}
use Rattle.drt_steps.specs.Values.{value_at}

-- The sum at t of the functions that are chosen from the pool.
abbrev pub sum_at : List (List ℕ) → List ℕ → ℕ → ℕ
sum_at pool [] t = 0
sum_at pool (k ∷ chosen) t = value_at (slice_index_or pool k []) t + sum_at pool chosen t

-- A time of 1 to the deadline passes where the wcet and the chosen functions' values at it add up to at most the time
-- (Stigge and Yi, RTSS 2013).
pub record Passes (wcet deadline : ℕ) (pool : List (List ℕ)) (chosen : List ℕ) (t : ℕ) : Type 0 where
  pub from : 1 ≤ t
  pub to : t ≤ deadline
  pub passes : wcet + sum_at pool chosen t ≤ t

-- A time that passes, and none before it does.
pub record IsLeastTime (wcet deadline : ℕ) (pool : List (List ℕ)) (chosen : List ℕ) (t : ℕ) : Type 0 where
  pub passes : Passes wcet deadline pool chosen t
  pub least : (s : ℕ) → Passes wcet deadline pool chosen s → t ≤ s

-- The least time that passes, or none where none passes.
abbrev pub IsLeastTimeOf : ℕ → ℕ → List (List ℕ) → List ℕ → Option ℕ → Type 0
IsLeastTimeOf wcet deadline pool chosen None = (s : ℕ) → Passes wcet deadline pool chosen s → ⊥
IsLeastTimeOf wcet deadline pool chosen (Some t) = IsLeastTime wcet deadline pool chosen t

-- Each chosen number names a function of the pool whose bound is the deadline or more.
abbrev pub AreChosen : ℕ → List (List ℕ) → List ℕ → Type 0
AreChosen deadline pool [] = Unit {0}
AreChosen deadline pool (k ∷ chosen) = (k < length pool) × (deadline ≤ length (slice_index_or pool k [])) × AreChosen deadline pool chosen
