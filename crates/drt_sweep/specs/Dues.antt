-- The greatest work that is due by a time, for one list of whatever has a due time and a work, and summed over such lists.
use Rattle.std.specs.Prelude.{ℕ, ◌+◌, max, nat_le, if◌then◌else◌, List, [], ◌∷◌}

-- The greatest work of an element that is due by t, and 0 where there is none.
abbrev pub greatest_due : {X : Type 0} → (X → ℕ) → (X → ℕ) → List X → ℕ → ℕ
greatest_due due work [] t = 0
greatest_due due work (x ∷ xs) t = max (if nat_le (due x) t then work x else 0) (greatest_due due work xs t)

-- The sum of these over the tasks, of which each has a list, in order; when an element is due depends on the task.
unfoldable pub sum_due : {T X : Type 0} → (T → X → ℕ) → (X → ℕ) → List T → List (List X) → ℕ → ℕ
sum_due due work [] lists t = 0
sum_due due work (a ∷ tasks) [] t = 0
sum_due due work (a ∷ tasks) (xs ∷ lists) t = greatest_due (due a) work xs t + sum_due due work tasks lists t
