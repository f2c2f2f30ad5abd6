-- Orders of tasks by priority: places and tasks.
use Rattle.std.proofs.Common.{inl, inr, ◌≡◌, ℕ, zero, suc, ◌+◌, ◌<◌, ◌≤◌, Bool, true, false, cond, ltb, List, [], ◌∷◌, ◌++◌, length, map, take, drop, get_or}
use Rattle.std.proofs.Common.{count_by, sum_by, All, refl, sym, ap, ◌∙◌, subst, arith}
use Rattle.std.specs.List.{range_with_len}
use Rattle.std.proofs.lemmas.Bool.{cases_order, lt-ltb, le-ltb}
use Rattle.std.proofs.lemmas.List.{get_or-drop, get_or-take, get_or_default, length-drop, length-take-le, take-append-drop}
use Rattle.std.proofs.lemmas.List.Elements.{All-head, All-tail}
use Rattle.std.proofs.lemmas.List.FromFn.{length-range_with_len}
use Rattle.std.proofs.lemmas.List.Sums.{sum_by-append, sum_by-cons}
use Rattle.std.proofs.lemmas.Simd.{map-map}
use Rattle.std.proofs.lemmas.List.Sorted.{All-permutation, Contains-permutation, length_permutation, sum_by-IsPermutation}
use Rattle.drt_model.specs.declared.tasks.Task.{Task}
use Rattle.drt_model.specs.Digraph.{digraph_of}
use Rattle.drt_busy.specs.Choice.{graph_at, task_at}
use Rattle.drt_check_trees.specs.Order.{IsOrder}
use Rattle.drt_claims.specs.Trees.{higher_count}
use Rattle.drt_check_trees.proofs.Ranked.{all_range, all_tasks, in_range}

module _ (tasks : List Task) (order : List ℕ) (is : IsOrder tasks order) where
  pub order_count : length order ≡ length tasks
  order_count = length_permutation (range_with_len 0 (length tasks)) order is.permutation ∙ length-range_with_len 0 (length tasks)

  pub order_below : (i : ℕ) → i < length order → get_or order i 0 < length tasks
  order_below i l = All-permutation (λ k. k < length tasks) (range_with_len 0 (length tasks)) order is.permutation (all_range (length tasks)) i 0 l

  -- Each task has a place.
  pub order_place : (k : ℕ) → k < length tasks → (i : ℕ) × (i < length order) × (get_or order i 0 ≡ k)
  order_place k l =
      let at = Contains-permutation (range_with_len 0 (length tasks)) order k is.permutation (in_range (length tasks) k l) in
      (at.0, at.1, get_or_default order at.0 0 k at.1 ∙ at.2)

  pub order_rises : (i j : ℕ) → i < j → j < length order → (task_at tasks (get_or order i 0)).priority < (task_at tasks (get_or order j 0)).priority
  order_rises i j l m = is.rising i j 0 l m

  -- A task of a higher priority than the one at a place stands before it.
  pub order_before : (i j : ℕ) → i < length order → j < length order → (task_at tasks (get_or order i 0)).priority < (task_at tasks (get_or order j 0)).priority → i < j
  order_before i j l m less = elim (cases_order i j) [
    | inl e ↦ absurd (omega (arith, less, ap (λ n. (task_at tasks (get_or order n 0)).priority) e))
    | inr o ↦ elim o [
      | inl before ↦ before
      | inr after ↦ absurd (omega (arith, less, order_rises j i after l))
    ]
  ]

  -- Two places have two tasks.
  pub order_once : (i j : ℕ) → i < length order → j < length order → get_or order i 0 ≡ get_or order j 0 → i ≡ j
  order_once i j l m e = elim (cases_order i j) [
    | inl same ↦ same
    | inr o ↦ elim o [
      | inl before ↦ absurd (omega (arith, order_rises i j before m, ap (λ n. (task_at tasks n).priority) e))
      | inr after ↦ absurd (omega (arith, order_rises j i after l, ap (λ n. (task_at tasks n).priority) e))
    ]
  ]

-- How many items of a list pass a test, and sums over lists.
count_all : {X : Type 0} (p : X → Bool) (xs : List X) → All (λ x. p x ≡ true) xs → count_by p xs ≡ length xs
count_all p [] all = refl
count_all p (x ∷ xs) all =
    let here : p x ≡ true = All-head (λ x. p x ≡ true) x xs all in
    let one : ◌≡◌ {A = ℕ} (cond (p x) 1 0) 1 = rw here refl in
    omega (arith, sum_by-cons (λ x. cond (p x) 1 0) x xs, one, count_all p xs (All-tail (λ x. p x ≡ true) x xs all))

count_none : {X : Type 0} (p : X → Bool) (xs : List X) → All (λ x. p x ≡ false) xs → count_by p xs ≡ 0
count_none p [] all = refl
count_none p (x ∷ xs) all =
    let here : p x ≡ false = All-head (λ x. p x ≡ false) x xs all in
    let none : ◌≡◌ {A = ℕ} (cond (p x) 1 0) 0 = rw here refl in
    omega (arith, sum_by-cons (λ x. cond (p x) 1 0) x xs, none, count_none p xs (All-tail (λ x. p x ≡ false) x xs all))

sum-map : {X Y : Type 0} (f : Y → ℕ) (g : X → Y) (xs : List X) → sum_by f (map g xs) ≡ sum_by (λ x. f (g x)) xs
sum-map f g [] = refl
sum-map f g (x ∷ xs) = sum_by-cons f (g x) (map g xs) ∙ ap (λ n. f (g x) + n) (sum-map f g xs) ∙ sym (sum_by-cons (λ y. f (g y)) x xs)

module _ (tasks : List Task) (order : List ℕ) (is : IsOrder tasks order) where
  pub order_graphs : map (graph_at tasks) order ≡ map digraph_of (map (task_at tasks) order)
  order_graphs = sym (map-map digraph_of (task_at tasks) order)

  -- As many tasks have a higher priority than one as stand before it.
  pub order_higher : (m : ℕ) → m < length order → higher_count tasks (task_at tasks (get_or order m 0)).priority ≡ m
  order_higher m l =
      let p : ℕ = (task_at tasks (get_or order m 0)).priority in
      let test : Task → Bool = λ t. ltb t.priority p in
      let at : ℕ → Bool = λ j. ltb (task_at tasks j).priority p in
      let all : map (task_at tasks) (range_with_len 0 (length tasks)) ≡ tasks = all_tasks tasks in
      let a : count_by test (map (task_at tasks) (range_with_len 0 (length tasks))) ≡ count_by at (range_with_len 0 (length tasks))
      = sum-map (λ t. cond (test t) 1 0) (task_at tasks) (range_with_len 0 (length tasks)) in
      let b : count_by at order ≡ count_by at (range_with_len 0 (length tasks)) = sum_by-IsPermutation (λ j. cond (at j) 1 0) (range_with_len 0 (length tasks)) order is.permutation in
      let c : count_by at (take m order ++ drop m order) ≡ count_by at (take m order) + count_by at (drop m order) = sum_by-append (λ j. cond (at j) 1 0) (take m order) (drop m order) in
      let d : count_by at (take m order) ≡ length (take m order) = count_all at (take m order) before in
      let e : count_by at (drop m order) ≡ 0 = count_none at (drop m order) after in
      let f : take m order ++ drop m order ≡ order = take-append-drop m order in
      let g : length (take m order) ≡ m = length-take-le m order (omega arith) in
      let h : count_by test tasks ≡ count_by at (range_with_len 0 (length tasks)) = sym (ap (count_by test) all) ∙ a in
      let i : count_by at order ≡ m = sym (ap (count_by at) f) ∙ (c ∙ omega (arith, d, e, g)) in
      h ∙ (sym b ∙ i)
    where
      p' : ℕ
      p' = (task_at tasks (get_or order m 0)).priority

      before : All (λ j. ltb (task_at tasks j).priority p' ≡ true) (take m order)
      before i d k =
          let n : i < m = omega (arith, k, length-take-le m order (omega arith)) in
          let e : get_or (take m order) i d ≡ get_or order i 0 = get_or-take m order i d n ∙ get_or_default order i d 0 (omega arith) in
          subst (λ j. ltb (task_at tasks j).priority p' ≡ true) (sym e) (lt-ltb (task_at tasks (get_or order i 0)).priority p' (order_rises tasks order is i m n l))

      after : All (λ j. ltb (task_at tasks j).priority p' ≡ false) (drop m order)
      after i d k =
          let n : m + i < length order = omega (arith, k, length-drop m order) in
          let e : get_or (drop m order) i d ≡ get_or order (m + i) 0 = get_or-drop m order i d ∙ get_or_default order (m + i) d 0 n in
          subst (λ j. ltb (task_at tasks j).priority p' ≡ false) (sym e) (le-ltb (task_at tasks (get_or order (m + i) 0)).priority p' (least i n))
        where
          least : (i : ℕ) → m + i < length order → p' ≤ (task_at tasks (get_or order (m + i) 0)).priority
          least zero n = (let e : m + zero ≡ m = omega arith in omega (arith, ap (λ j. (task_at tasks (get_or order j 0)).priority) e))
          least (suc i) n = (let less : p' < (task_at tasks (get_or order (m + suc i) 0)).priority = order_rises tasks order is m (m + suc i) (omega arith) n in omega (arith, less))
