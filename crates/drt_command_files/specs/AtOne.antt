-- When the utilisation of a set is one, and when it is below one, by the cycles of edges of its tasks.
use Rattle.std.specs.Prelude.{◌≡◌, ℕ, ◌*◌, ◌<◌, ◌≤◌, ◌⊎◌, List, ◌++◌, length, map, take, All, slice_index}
use Rattle.std.specs.List.{AllZip, Contains, sum, sum_by}
use Rattle.drt_model.specs.declared.tasks.Edge.{Edge}
use Rattle.drt_model.specs.declared.tasks.Task.{Task}
use Rattle.drt_model.specs.Legal.{AllNeighbours}

-- A cycle of a task: edges of it, each of which ends where the next one begins, and the last where the first begins.
abbrev pub IsCycleOf : Task → List Edge → Type 0
IsCycleOf t cycle = All (Contains t.edges) cycle × AllNeighbours (λ e f. e.to ≡ f.from) (cycle ++ take 1 cycle)

-- What the jobs of a cycle need at most: the sum of the execution times of the vertices where its edges begin.
abbrev pub need_of : Task → List Edge → ℕ
need_of t cycle = sum_by (λ e. slice_index (map (λ v. v.wcet) t.vertices) e.from) cycle

-- The time that a cycle takes at least: the sum of its separations.
abbrev pub time_of : List Edge → ℕ
time_of cycle = sum_by (λ e. e.sep) cycle

-- The rate of a task is the fraction rate / over: no cycle needs a greater part of its time, and one needs this part, or the rate is 0.
pub record IsRateOver (over : ℕ) (t : Task) (rate : ℕ) : Type 0 where
  pub most : (cycle : List Edge) → IsCycleOf t cycle → over * need_of t cycle ≤ rate * time_of cycle
  pub reached : (rate ≡ 0) ⊎ ((cycle : List Edge) × (1 ≤ length cycle) × IsCycleOf t cycle × (over * need_of t cycle ≡ rate * time_of cycle))

-- The utilisation of the tasks is the fraction total / over: the sum of their rates.
abbrev pub IsUtilisation : List Task → ℕ → ℕ → Type 0
IsUtilisation tasks total over = (1 ≤ over) × (rates : List ℕ) × AllZip (IsRateOver over) tasks rates × (sum rates ≡ total)

-- The utilisation of the tasks is one.
abbrev pub IsUtilisationOne : List Task → Type 0
IsUtilisationOne tasks = (n : ℕ) × IsUtilisation tasks n n

-- The utilisation of the tasks is below one.
abbrev pub IsUtilisationBelowOne : List Task → Type 0
IsUtilisationBelowOne tasks = (total over : ℕ) × IsUtilisation tasks total over × (total < over)
