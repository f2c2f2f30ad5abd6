-- Audsley's rule, said of walks alone (Audsley, "Optimal priority assignment and feasibility of static priority tasks with arbitrary start
-- times", 1991): the lowest priority that is left goes to the first task that passes under all others that have none yet.
use Rattle.std.specs.Prelude.{◌≡◌, ◌≢◌, ℕ, zero, suc, ◌+◌, ◌<◌, ◌≤◌, ◌⊎◌, Bool, not, ◌&&◌, ◌==◌, nat_le, if◌then◌else◌, List, length, All, AllPairs, count_by, filter, slice_index}
use Rattle.std.specs.List.{range_with_len}
use Rattle.drt_model.specs.declared.tasks.Task.{Task}
use Rattle.drt_model.specs.Digraph.{vertex_count}
use Rattle.drt_model.specs.Walk.{deadline, wcet, request_of}
use Rattle.drt_busy.specs.Choice.{AreWalks, graph_at}
use Rattle.drt_priorities.specs.Priorities.{ArePriorities}

-- What the walks of those of the first n tasks that pass a test ask for before t.
unfoldable pub asked_by : List Task → (ℕ → Bool) → (ℕ → List ℕ) → ℕ → ℕ → ℕ
asked_by tasks above walks zero t = 0
asked_by tasks above walks (suc k) t = asked_by tasks above walks k t + (if above k then request_of (graph_at tasks k) (walks k) t else 0)

-- Task k passes under the tasks that pass a test: for each of its vertices and all walks of the tasks, some time up to the vertex's
-- deadline has room for its execution time and for what the walks of those tasks ask for before that time. No priority is looked at.
abbrev pub PassesUnder : List Task → (ℕ → Bool) → ℕ → Type 0
PassesUnder tasks above k =
    (v : ℕ) → v < vertex_count (graph_at tasks k) → (walks : ℕ → List ℕ) → AreWalks tasks walks
    → (t : ℕ) × (1 ≤ t) × (t ≤ deadline (graph_at tasks k) v)
    × (wcet (graph_at tasks k) v + asked_by tasks above walks (length tasks) t ≤ t)

-- Of n tasks each has a rank or is open. There is one rank for each task: m tasks are open, which is written as rank 0, and the others
-- have ranks above m, up to n, no two the same.
pub record AreRanks (n m : ℕ) (ranks : List ℕ) : Type 0 where
  pub as_many : length ranks ≡ n
  pub open_ones : count_by (λ r. r == 0) ranks ≡ m
  pub each : All (λ r. (r ≡ 0) ⊎ ((m < r) × (r ≤ n))) ranks
  pub distinct : AllPairs (λ r s. r ≡ s → r ≡ 0) ranks

-- Task j is another one than k, and its rank is at most m or it is open.
abbrev pub is_other : List ℕ → ℕ → ℕ → ℕ → Bool
is_other ranks m k j = nat_le (slice_index ranks j) m && not (j == k)

-- Task k passes under the others of rank at most m, and no task of a lower number and of rank at most m passes under the others of these.
pub record IsFirstPassing (tasks : List Task) (ranks : List ℕ) (m k : ℕ) : Type 0 where
  pub passes : PassesUnder tasks (is_other ranks m k) k
  pub first : (u : ℕ) → u < k → slice_index ranks u ≤ m → PassesUnder tasks (is_other ranks m u) u → ⊥

-- Each task that has a rank m is the first, in order of the file, that passes under the others among the tasks of rank at most m. So a
-- rank is a priority that Audsley's rule gives.
abbrev pub FollowRule : List Task → List ℕ → Type 0
FollowRule tasks ranks = (k : ℕ) → k < length tasks → 1 ≤ slice_index ranks k → IsFirstPassing tasks ranks (slice_index ranks k) k

-- The open tasks, in order of the file.
abbrev pub open_tasks : List ℕ → List ℕ
open_tasks ranks = filter (λ j. slice_index ranks j == 0) (range_with_len 0 (length ranks))

-- The open tasks but task k, in order of the file.
abbrev pub open_beside : List ℕ → ℕ → List ℕ
open_beside ranks k = filter (λ j. slice_index ranks j == 0 && not (j == k)) (range_with_len 0 (length ranks))

-- The priorities under which task k is tried while m tasks are open: it has the number m, the other open ones have lower numbers, and each
-- other task has its rank.
pub record IsTrialPriorities (ranks : List ℕ) (m k : ℕ) (priorities : List ℕ) : Type 0 where
  pub are : ArePriorities (length ranks) priorities
  pub own : slice_index priorities k ≡ m
  pub beside : (j : ℕ) → j < length ranks → slice_index ranks j ≡ 0 → j ≢ k → slice_index priorities j < m
  pub ranked : (j : ℕ) → j < length ranks → 1 ≤ slice_index ranks j → slice_index priorities j ≡ slice_index ranks j
