-- What the walks of the tasks of higher priority ask for is a sum over the first tasks in order of priority.
use Rattle.std.proofs.Common.{◌≡◌, ℕ, zero, suc, ◌+◌, ◌<◌, ◌≤◌, true, false, cond, ltb, List, [], ◌∷◌, length, get_or, map, sum_by, Some, All, AllPairs, slice_get, refl, sym, ap, ◌∙◌, subst, arith}
use Rattle.std.specs.List.{range_with_len}
use Rattle.std.proofs.lemmas.Bool.{le-ltb, lt-ltb}
use Rattle.std.proofs.lemmas.List.Elements.{All-tail}
use Rattle.std.proofs.lemmas.List.FromFn.{sum_by-map-range_with_len_more}
use Rattle.std.proofs.lemmas.List.Sorted.{IsPermutation-map, sum_by-IsPermutation}
use Rattle.std.proofs.lemmas.List.Sums.{sum_by-cons}
use Rattle.std.proofs.lemmas.Option.{get_or_from_slice_get, slice_get_within, same_Some}
use Rattle.drt_model.specs.declared.tasks.Task.{Task}
use Rattle.drt_busy.specs.Choice.{graph_at, requests, task_at}
use Rattle.drt_check_trees.specs.Order.{IsOrder}
use Rattle.drt_model.specs.Walk.{request_of}

-- the priorities of the tasks rise
abbrev pub AreRising : List Task → List ℕ → Type 0
AreRising tasks order = AllPairs (λ j k. (task_at tasks j).priority < (task_at tasks k).priority) order

pub rising_tail : (tasks : List Task) (j : ℕ) (order : List ℕ) → AreRising tasks (j ∷ order) → AreRising tasks order
rising_tail tasks j order rising a b d lt h = rising (suc a) (suc b) d (omega arith) (omega arith)

-- the first task is of higher priority than each later one
pub rising_first : (tasks : List Task) (j : ℕ) (order : List ℕ) → AreRising tasks (j ∷ order) → All (λ i. (task_at tasks j).priority < (task_at tasks i).priority) order
rising_first tasks j order rising i d h = rising 0 (suc i) d (omega arith) (omega arith)

module _ (tasks : List Task) (walks : ℕ → List ℕ) where
  -- what the walk of task j asks for before t
  abbrev pub asks : ℕ → ℕ → ℕ
  asks t j = request_of (graph_at tasks j) (walks j) t

  -- the same where the task is of higher priority than p, else nothing
  abbrev pub asks_above : ℕ → ℕ → ℕ → ℕ
  asks_above p t j = cond (ltb (task_at tasks j).priority p) (asks t j) 0

  -- what the walks of the first tasks of the order ask for, of as many as the list is long
  abbrev pub asked : ℕ → List ℕ → List ℕ → ℕ
  asked t order [] = 0
  asked t [] (x ∷ xs) = 0
  asked t (j ∷ order) (x ∷ xs) = asks t j + asked t order xs

  -- the sum over some tasks
  abbrev total : ℕ → ℕ → List ℕ → ℕ
  total p t js = sum_by (λ x. x) (map (asks_above p t) js)

  requests_numbers : (p t n : ℕ) → requests tasks walks p n t ≡ total p t (range_with_len 0 n)
  unfolding requests
  requests_numbers p t zero = refl
  requests_numbers p t (suc n) =
      let one : suc n ≡ n + 1 = omega arith in
      let more = sum_by-map-range_with_len_more (λ x. x) (asks_above p t) 0 n n (omega arith) in
      let here : total p t (range_with_len 0 (suc n)) ≡ total p t (range_with_len 0 n) + asks_above p t n = ap (λ m. total p t (range_with_len 0 m)) one ∙ more in
      ap (λ x. x + asks_above p t n) (requests_numbers p t n) ∙ sym here

  requests_ordered : (order : List ℕ) → IsOrder tasks order → (p t : ℕ) → requests tasks walks p (length tasks) t ≡ total p t order
  requests_ordered order is p t =
      let numbers = range_with_len 0 (length tasks) in
      let f = asks_above p t in
      let same = sum_by-IsPermutation (λ x. x) (map f numbers) (map f order) (IsPermutation-map f numbers order is.permutation) in
      requests_numbers p t (length tasks) ∙ sym same

  none_above : (p t : ℕ) (order : List ℕ) → All (λ j. p ≤ (task_at tasks j).priority) order → total p t order ≡ 0
  none_above p t [] all = refl
  none_above p t (j ∷ order) all =
      let low : ltb (task_at tasks j).priority p ≡ false = le-ltb (task_at tasks j).priority p (all 0 j (omega arith)) in
      let none : asks_above p t j ≡ 0 = rw low refl in
      let rest = none_above p t order (All-tail (λ i. p ≤ (task_at tasks i).priority) j order all) in
      omega (arith, sum_by-cons (λ x. x) (asks_above p t j) (map (asks_above p t) order), none, rest)

  first_asked : (order xs : List ℕ) (k t : ℕ) → AreRising tasks order → slice_get order (length xs) ≡ Some k → total (task_at tasks k).priority t order ≡ asked t order xs
  first_asked [] xs k t rising at = absurd (cc)
  first_asked (j ∷ order) [] k t rising at =
      let e : j ≡ k = same_Some j k at in
      let p = (task_at tasks j).priority in
      let low : All (λ i. p ≤ (task_at tasks i).priority) (j ∷ order) = λ i d h. not_higher i d h in
      subst (λ n. total (task_at tasks n).priority t (j ∷ order) ≡ 0) e (none_above p t (j ∷ order) low)
    where
      not_higher : (i d : ℕ) → i < length (j ∷ order) → (task_at tasks j).priority ≤ (task_at tasks (get_or (j ∷ order) i d)).priority
      not_higher zero d h = omega arith
      not_higher (suc i) d h = omega (arith, rising_first tasks j order rising i d (omega arith))
  first_asked (j ∷ order) (x ∷ xs) k t rising at =
      let p = (task_at tasks k).priority in
      let h = slice_get_within order (length xs) k at in
      let is : get_or order (length xs) k ≡ k = get_or_from_slice_get order (length xs) k k at in
      let above = subst (λ n. (task_at tasks j).priority < (task_at tasks n).priority) is (rising_first tasks j order rising (length xs) k h) in
      let high : ltb (task_at tasks j).priority p ≡ true = lt-ltb (task_at tasks j).priority p above in
      let here : asks_above p t j ≡ asks t j = rw high refl in
      omega (arith, sum_by-cons (λ y. y) (asks_above p t j) (map (asks_above p t) order), here, first_asked order xs k t (rising_tail tasks j order rising) at)

  -- what the walks of the tasks of higher priority than task k ask for
  pub requests_asked : (order xs : List ℕ) (k t : ℕ) → IsOrder tasks order → slice_get order (length xs) ≡ Some k
      → requests tasks walks (task_at tasks k).priority (length tasks) t ≡ asked t order xs
  requests_asked order xs k t is at = requests_ordered order is (task_at tasks k).priority t ∙ first_asked order xs k t is.rising at
