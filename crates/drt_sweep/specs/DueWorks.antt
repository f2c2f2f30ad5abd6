-- Works that name their tasks, in one list.
use Rattle.std.specs.Prelude.{◌≡◌, ℕ, zero, suc, ◌+◌, ◌<◌, ◌≤◌, ◌==◌, ◌&&◌, nat_le, max, List, [], ◌∷◌, ◌++◌, All, Option, Some, None, if◌then◌else◌}
use Rattle.std.specs.List.{Any}
use Rattle.drt_sweep.specs.declared.due_work.DueWork.{DueWork}

-- Each is of one of the first 32 tasks.
abbrev pub AreOfTasks : List DueWork → Type 0
AreOfTasks works = All (λ w. w.task < 32) works

-- The greatest work of task k that is due by t, and 0 where there is none.
unfoldable pub work_by : List DueWork → ℕ → ℕ → ℕ
work_by [] t k = 0
work_by (w ∷ works) t k = max (if (w.task == k) && nat_le w.due t then w.work else 0) (work_by works t k)

-- The sum of f 0, .., f (n - 1).
unfoldable pub sum_to : (ℕ → ℕ) → ℕ → ℕ
sum_to f zero = 0
sum_to f (suc n) = sum_to f n + f n

-- The sum over the first 32 tasks of the greatest work that is due by t.
abbrev pub works_by : List DueWork → ℕ → ℕ
works_by works t = sum_to (work_by works t) 32

-- The least time at which the sum is more than the time, which is one at which a work is due, or none.
abbrev pub IsFirstExcess : List DueWork → Option ℕ → Type 0
IsFirstExcess works (Some t) = Any (λ w. w.due ≡ t) works × (t < works_by works t) × ((s : ℕ) → s < t → works_by works s ≤ s)
IsFirstExcess works None = (s : ℕ) → works_by works s ≤ s

-- The works ys are some of xs, and the greatest that are due by each time are theirs.
pub record AreRises (xs ys : List DueWork) : Type 0 where
  pub among : All (λ y. Any (λ x. x ≡ y) xs) ys
  pub works : (t k : ℕ) → work_by ys t k ≡ work_by xs t k

-- The works of the list of task k, in order.
abbrev pub works_from : {X : Type 0} → (X → ℕ) → (X → ℕ) → ℕ → List X → List DueWork
works_from due work k [] = []
works_from due work k (x ∷ xs) = record { due = due x; task = k; work = work x } ∷ works_from due work k xs

-- The works of the lists of the tasks from k on.
abbrev pub works_of : {T X : Type 0} → (T → X → ℕ) → (X → ℕ) → ℕ → List T → List (List X) → List DueWork
works_of due work k [] lists = []
works_of due work k (a ∷ tasks) [] = []
works_of due work k (a ∷ tasks) (xs ∷ lists) = works_from (due a) work k xs ++ works_of due work (suc k) tasks lists
