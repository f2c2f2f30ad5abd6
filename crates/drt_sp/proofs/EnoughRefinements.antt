-- There are few tuples of leaves below the trees of the tasks of higher priority: one for each choice of one walk of each such task.
use Rattle.std.proofs.Common.{◌≡◌, ℕ, zero, suc, ◌+◌, ◌*◌, ◌<◌, ◌≤◌, true, false, cond, ltb, List, [], ◌∷◌, ◌++◌, length, get_or, map, Some, All, refl, sym, ap, ◌∙◌, subst, arith}
use Rattle.std.specs.Prelude.{slice_get}
use Rattle.std.specs.List.{range_with_len}
use Rattle.std.proofs.lemmas.Bool.{le-ltb, lt-ltb}
use Rattle.std.proofs.lemmas.List.Elements.{All-tail}
use Rattle.std.proofs.lemmas.List.FromFn.{map-range_with_len_more}
use Rattle.std.proofs.lemmas.List.Sorted.{IsPermutation-map}
use Rattle.std.proofs.lemmas.Nat.{mul-le}
use Rattle.std.proofs.lemmas.Option.{get_or_from_slice_get, slice_get_within, same_Some}
use Rattle.drt_model.specs.declared.tasks.Task.{Task}
use Rattle.drt_busy.specs.Choice.{task_at}
use Rattle.drt_tree.specs.Tree.{Plain, leaves}
use Rattle.drt_refine.specs.Below.{tuples}
use Rattle.drt_check_trees.specs.Order.{IsOrder}
use Rattle.drt_sp.proofs.Asked.{AreRising, rising_first, rising_tail}
use Rattle.drt_sp.specs.Needs.{product_above}
use Rattle.drt_sp.proofs.Products.{product, product_permutation, product_push}

module _ (tasks : List Task) (counts : ℕ → ℕ) where
  -- The number of task j where it is of higher priority than p, else 1.
  abbrev above : ℕ → ℕ → ℕ
  above p j = cond (ltb (task_at tasks j).priority p) (counts j) 1

  -- The product over the first tasks of the order, of as many as the list is long.
  abbrev pub counted : List ℕ → List ℕ → ℕ
  counted order [] = 1
  counted [] (x ∷ xs) = 1
  counted (j ∷ order) (x ∷ xs) = counts j * counted order xs

  -- The product over some tasks.
  abbrev whole : ℕ → List ℕ → ℕ
  whole p js = product (map (above p) js)

  above_numbers : (p n : ℕ) → product_above tasks counts p n ≡ whole p (range_with_len 0 n)
  unfolding product_above
  above_numbers p zero = refl
  above_numbers p (suc n) =
      let one : suc n ≡ n + 1 = omega arith in
      let more : map (above p) (range_with_len 0 (n + 1)) ≡ map (above p) (range_with_len 0 n) ++ above p n ∷ [] = map-range_with_len_more (above p) 0 n n (omega arith) in
      let push : whole p (range_with_len 0 (n + 1)) ≡ whole p (range_with_len 0 n) * above p n = ap product more ∙ product_push (map (above p) (range_with_len 0 n)) (above p n) in
      let here : whole p (range_with_len 0 (suc n)) ≡ whole p (range_with_len 0 n) * above p n = ap (λ m. whole p (range_with_len 0 m)) one ∙ push in
      ap (λ x. x * above p n) (above_numbers p n) ∙ sym here

  above_ordered : (order : List ℕ) → IsOrder tasks order → (p : ℕ) → product_above tasks counts p (length tasks) ≡ whole p order
  above_ordered order is p =
      let numbers = range_with_len 0 (length tasks) in
      above_numbers p (length tasks) ∙ sym (product_permutation (map (above p) numbers) (map (above p) order) (IsPermutation-map (above p) numbers order is.permutation))

  none_above : (p : ℕ) (order : List ℕ) → All (λ j. p ≤ (task_at tasks j).priority) order → whole p order ≡ 1
  none_above p [] all = refl
  none_above p (j ∷ order) all =
      let low : ltb (task_at tasks j).priority p ≡ false = le-ltb (task_at tasks j).priority p (all 0 j (omega arith)) in
      let one : above p j ≡ 1 = rw low refl in
      let rest = none_above p order (All-tail (λ i. p ≤ (task_at tasks i).priority) j order all) in
      ap (λ n. n * whole p order) one ∙ omega (arith, rest)

  first_above : (order xs : List ℕ) (k : ℕ) → AreRising tasks order → slice_get order (length xs) ≡ Some k → whole (task_at tasks k).priority order ≡ counted order xs
  first_above [] xs k rising at = absurd (cc)
  first_above (j ∷ order) [] k rising at =
      let e : j ≡ k = same_Some j k at in
      let p = (task_at tasks j).priority in
      let low : All (λ i. p ≤ (task_at tasks i).priority) (j ∷ order) = λ i d h. not_higher i d h in
      subst (λ n. whole (task_at tasks n).priority (j ∷ order) ≡ 1) e (none_above p (j ∷ order) low)
    where
      not_higher : (i d : ℕ) → i < length (j ∷ order) → (task_at tasks j).priority ≤ (task_at tasks (get_or (j ∷ order) i d)).priority
      not_higher zero d h = omega arith
      not_higher (suc i) d h = omega (arith, rising_first tasks j order rising i d (omega arith))
  first_above (j ∷ order) (x ∷ xs) k rising at =
      let p = (task_at tasks k).priority in
      let h = slice_get_within order (length xs) k at in
      let is : get_or order (length xs) k ≡ k = get_or_from_slice_get order (length xs) k k at in
      let higher = subst (λ n. (task_at tasks j).priority < (task_at tasks n).priority) is (rising_first tasks j order rising (length xs) k h) in
      let high : ltb (task_at tasks j).priority p ≡ true = lt-ltb (task_at tasks j).priority p higher in
      let here : above p j ≡ counts j = rw high refl in
      ap (λ n. n * whole p order) here ∙ ap (λ n. counts j * n) (first_above order xs k (rising_tail tasks j order rising) at)

  -- The product of the numbers of the tasks of higher priority than task k.
  above_counted : (order xs : List ℕ) (k : ℕ) → IsOrder tasks order → slice_get order (length xs) ≡ Some k → product_above tasks counts (task_at tasks k).priority (length tasks) ≡ counted order xs
  above_counted order xs k is at = above_ordered order is (task_at tasks k).priority ∙ first_above order xs k is.rising at

  -- There are at most as many tuples of leaves, where the tree at each place has at most as many leaves as its task's number.
  tuples_few : (f : Plain) (order roots : List ℕ) → length roots ≤ length order → ((i k root : ℕ) → slice_get order i ≡ Some k → slice_get roots i ≡ Some root → leaves f root ≤ counts k)
      → tuples f roots ≤ counted order roots
  tuples_few f order [] le few = omega arith
  tuples_few f [] (root ∷ roots) le few = absurd (omega (arith, le))
  tuples_few f (k ∷ order) (root ∷ roots) le few =
      mul-le (leaves f root) (tuples f roots) (counts k) (counted order roots) (few 0 k root refl refl) (tuples_few f order roots (omega (arith, le)) (λ i. few (suc i)))

-- There are at most as many tuples of leaves below the trees of the tasks of higher priority than task k as the product of their numbers.
pub tuples_short : (tasks : List Task) (counts : ℕ → ℕ) (order : List ℕ) (k : ℕ) (f : Plain) (roots : List ℕ)
    → IsOrder tasks order → slice_get order (length roots) ≡ Some k
    → ((i j root : ℕ) → slice_get order i ≡ Some j → slice_get roots i ≡ Some root → leaves f root ≤ counts j)
    → tuples f roots ≤ product_above tasks counts (task_at tasks k).priority (length tasks)
tuples_short tasks counts order k f roots is at few =
    let within = slice_get_within order (length roots) k at in
    let le = tuples_few tasks counts f order roots (omega (arith, within)) few in
    let e = above_counted tasks counts order roots k is at in
    omega (arith, le, e)
