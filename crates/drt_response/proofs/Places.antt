-- In order of priority each task stands at the place that is the number of the tasks of higher priority.
use Rattle.std.proofs.Common.{◌≡◌, ◌≢◌, ℕ, suc, ◌+◌, ◌<◌, Bool, true, false, cond, List, [], ◌∷◌, get_or, refl, arith}
use Rattle.std.specs.Prelude.{All, AllPairs, nat_lt}
use Rattle.std.specs.List.{AllByRecursion}
use Rattle.std.proofs.lemmas.Bool.{le-ltb, lt-ltb, ltb-false, ltb-true}
use Rattle.std.proofs.lemmas.List.Elements.{recursion_from_All}
use Rattle.std.proofs.lemmas.List.Sums.{sum_by-cons}
use Rattle.drt_model.specs.declared.tasks.Task.{Task}
use Rattle.drt_model.specs.Limits.{IsTaskSet}
use Rattle.drt_claims.specs.Trees.{higher_count}
use Rattle.drt_claims.specs.Sorting.{by_priority, placed}

-- What holds of a task and of all others, holds of all.
placed_all : (P : Task → Type 0) (t : Task) (ts : List Task) → P t → AllByRecursion P ts → AllByRecursion P (placed t ts)
unfolding placed
placed_all P t [] is are = (is, tt)
placed_all P t (u ∷ ts) is are = go (nat_lt t.priority u.priority) (placed_all P t ts is are.1)
  where
    go : (b : Bool) → AllByRecursion P (placed t ts) → AllByRecursion P (cond b (t ∷ u ∷ ts) (u ∷ placed t ts))
    go true later = (is, are)
    go false later = (are.0, later)

by_priority_all : (P : Task → Type 0) (ts : List Task) → AllByRecursion P ts → AllByRecursion P (by_priority ts)
unfolding by_priority
by_priority_all P [] are = tt
by_priority_all P (t ∷ ts) are = placed_all P t (by_priority ts) are.0 (by_priority_all P ts are.1)

-- All have a greater priority number than n.
abbrev AreAbove : ℕ → List Task → Type 0
AreAbove n ts = AllByRecursion (λ t. n < t.priority) ts

-- Each has a greater one than those before it.
abbrev AreRising : List Task → Type 0
AreRising [] = Unit {0}
AreRising (t ∷ ts) = AreAbove t.priority ts × AreRising ts

above_weaker : (m n : ℕ) (ts : List Task) → m < n → AreAbove n ts → AreAbove m ts
above_weaker m n [] l above = tt
above_weaker m n (t ∷ ts) l above = let a = above.0 in (omega (arith, a, l), above_weaker m n ts l above.1)

placed_rising : (t : Task) (ts : List Task) → AllByRecursion (λ u. t.priority ≢ u.priority) ts → AreRising ts → AreRising (placed t ts)
unfolding placed
placed_rising t [] other rising = (tt, tt)
placed_rising t (u ∷ ts) other rising = go (nat_lt t.priority u.priority) refl (placed_rising t ts other.1 rising.1)
  where
    go : (b : Bool) → nat_lt t.priority u.priority ≡ b → AreRising (placed t ts) → AreRising (cond b (t ∷ u ∷ ts) (u ∷ placed t ts))
    go true e later =
        let l = ltb-true t.priority u.priority e in
        ((l, above_weaker t.priority u.priority ts l rising.0), rising)
    go false e later =
        let l = ltb-false t.priority u.priority e in
        let ne = other.0 in
        (placed_all (λ (w : Task). u.priority < w.priority) t ts (omega (arith, l, ne)) rising.0, later)

by_priority_rising : (ts : List Task) → AllPairs (λ s t. s.priority ≢ t.priority) ts → AreRising (by_priority ts)
unfolding by_priority
by_priority_rising [] distinct = tt
by_priority_rising (t ∷ ts) distinct =
    let first : All (λ (u : Task). t.priority ≢ u.priority) ts = λ i d l. distinct 0 (suc i) d (omega arith) (omega arith) in
    let rest : AllPairs (λ s t. s.priority ≢ t.priority) ts = λ a b d l m. distinct (suc a) (suc b) d (omega arith) (omega arith) in
    placed_rising t (by_priority ts) (by_priority_all (λ (u : Task). t.priority ≢ u.priority) ts (recursion_from_All (λ (u : Task). t.priority ≢ u.priority) ts first))
    (by_priority_rising ts rest)

count_cons : (t : Task) (ts : List Task) (p : ℕ) → higher_count (t ∷ ts) p ≡ cond (nat_lt t.priority p) 1 0 + higher_count ts p
count_cons t ts p = sum_by-cons (λ (u : Task). cond (nat_lt u.priority p) 1 0) t ts

placed_count : (p : ℕ) (t : Task) (ts : List Task) → higher_count (placed t ts) p ≡ cond (nat_lt t.priority p) 1 0 + higher_count ts p
unfolding placed
placed_count p t [] = count_cons t [] p
placed_count p t (u ∷ ts) = go (nat_lt t.priority u.priority) (placed_count p t ts)
  where
    go : (b : Bool) → higher_count (placed t ts) p ≡ cond (nat_lt t.priority p) 1 0 + higher_count ts p
        → higher_count (cond b (t ∷ u ∷ ts) (u ∷ placed t ts)) p ≡ cond (nat_lt t.priority p) 1 0 + higher_count (u ∷ ts) p
    go true later = count_cons t (u ∷ ts) p
    go false later = omega (arith, later, count_cons u ts p, count_cons u (placed t ts) p)

by_priority_count : (p : ℕ) (ts : List Task) → higher_count (by_priority ts) p ≡ higher_count ts p
unfolding by_priority
by_priority_count p [] = refl
by_priority_count p (t ∷ ts) = omega (arith, placed_count p t (by_priority ts), by_priority_count p ts, count_cons t ts p)

none_higher : (p : ℕ) (ts : List Task) → AreAbove p ts → higher_count ts p ≡ 0
none_higher p [] above = refl
none_higher p (t ∷ ts) above =
    let a = above.0 in
    let low : nat_lt t.priority p ≡ false = le-ltb t.priority p (omega (arith, a)) in
    let here : ◌≡◌ {A = ℕ} (cond (nat_lt t.priority p) 1 0) 0 = rw low refl in
    omega (arith, count_cons t ts p, here, none_higher p ts above.1)

-- The places of some tasks are the numbers from i on.
abbrev pub AreAt : (ℕ → ℕ) → ℕ → List Task → Type 0
AreAt place i [] = Unit {0}
AreAt place i (t ∷ ts) = (place t.priority ≡ i) × AreAt place (suc i) ts

-- The place of each of some tasks is i and the number of those of higher priority among others.
abbrev AreBehind : (ℕ → ℕ) → ℕ → List Task → List Task → Type 0
AreBehind place i others ts = AllByRecursion (λ t. place t.priority ≡ i + higher_count others t.priority) ts

behind_next : (place : ℕ → ℕ) (i : ℕ) (t : Task) (others ts : List Task) → AreAbove t.priority ts → AreBehind place i (t ∷ others) ts → AreBehind place (suc i) others ts
behind_next place i t others [] above are = tt
behind_next place i t others (u ∷ ts) above are =
    let high : nat_lt t.priority u.priority ≡ true = lt-ltb t.priority u.priority above.0 in
    let one : ◌≡◌ {A = ℕ} (cond (nat_lt t.priority u.priority) 1 0) 1 = rw high refl in
    let here = are.0 in
    (omega (arith, here, one, count_cons t others u.priority), behind_next place i t others ts above.1 are.1)

rising_at : (place : ℕ → ℕ) (i : ℕ) (ts : List Task) → AreRising ts → AreBehind place i ts ts → AreAt place i ts
rising_at place i [] rising are = tt
rising_at place i (t ∷ ts) rising are =
    let here = are.0 in
    let low : nat_lt t.priority t.priority ≡ false = le-ltb t.priority t.priority (omega arith) in
    let none : ◌≡◌ {A = ℕ} (cond (nat_lt t.priority t.priority) 1 0) 0 = rw low refl in
    (omega (arith, here, none, count_cons t ts t.priority, none_higher t.priority ts rising.0), rising_at place (suc i) ts rising.1 (behind_next place i t ts ts rising.0 are.1))

-- In order of priority the places are the numbers from 0 on.
pub tasks_at : (version : ℕ) (tasks : List Task) → IsTaskSet version tasks → AreAt (higher_count tasks) 0 (by_priority tasks)
tasks_at version tasks limits =
    let ts = by_priority tasks in
    let count : (t : Task) → higher_count tasks t.priority ≡ 0 + higher_count ts t.priority = λ t. omega (arith, by_priority_count t.priority tasks) in
    let each : All (λ (t : Task). higher_count tasks t.priority ≡ 0 + higher_count ts t.priority) ts = λ i d l. count (get_or ts i d) in
    rising_at (higher_count tasks) 0 ts (by_priority_rising tasks limits.distinct_priorities)
    (recursion_from_All (λ (t : Task). higher_count tasks t.priority ≡ 0 + higher_count ts t.priority) ts each)
