-- What walks of the tasks of higher priority ask for, as a sum over the first tasks in order of priority.
use Rattle.std.proofs.Common.{◌≡◌, ℕ, zero, suc, ◌+◌, ◌<◌, ◌≤◌, Bool, true, false, cond, List, [], ◌∷◌, length, map, take, refl, sym, ap, ◌∙◌, subst, arith}
use Rattle.std.specs.Prelude.{All, if◌then◌else◌, nat_lt}
use Rattle.std.specs.List.{AllByRecursion}
use Rattle.std.proofs.lemmas.Bool.{le-ltb, ltb-false, ltb-true}
use Rattle.std.proofs.lemmas.List.Elements.{All-head, All-tail}
use Rattle.std.proofs.lemmas.List.Sums.{sum_by-cons}
use Rattle.drt_model.specs.declared.tasks.Task.{Task}
use Rattle.drt_model.specs.Digraph.{digraph_of}
use Rattle.drt_busy.specs.Choice.{AreWalks, requests, task_at}
use Rattle.drt_claims.specs.Trees.{higher_count}
use Rattle.drt_claims.specs.Sorting.{by_priority, placed}
use Rattle.drt_model.specs.Walk.{IsWalk, request_of}

-- A task with a walk.
abbrev pub Walked : Type 0
Walked = Task × List ℕ

-- The tasks with their walks, in order of the file.
unfoldable pub walked : List Task → (ℕ → List ℕ) → List Walked
walked [] walks = []
walked (t ∷ tasks) walks = (t, walks 0) ∷ walked tasks (λ k. walks (suc k))

-- The task with its walk, put before the first one of lower priority.
unfoldable pub put : Walked → List Walked → List Walked
put x [] = x ∷ []
put x (y ∷ ys) = if nat_lt x.0.priority y.0.priority then x ∷ y ∷ ys else y ∷ put x ys

-- In order of priority.
unfoldable pub ordered : List Walked → List Walked
ordered [] = []
ordered (x ∷ xs) = put x (ordered xs)

abbrev pub tasks_of : List Walked → List Task
tasks_of xs = map (λ x. x.0) xs

put_tasks : (x : Walked) (ys : List Walked) → tasks_of (put x ys) ≡ placed x.0 (tasks_of ys)
unfolding put placed
put_tasks x [] = refl
put_tasks x (y ∷ ys) = go (nat_lt x.0.priority y.0.priority) (put_tasks x ys)
  where
    go : (b : Bool) → tasks_of (put x ys) ≡ placed x.0 (tasks_of ys)
        → tasks_of (cond b (x ∷ y ∷ ys) (y ∷ put x ys)) ≡ cond b (x.0 ∷ y.0 ∷ tasks_of ys) (y.0 ∷ placed x.0 (tasks_of ys))
    go true e = refl
    go false e = ap (λ ts. y.0 ∷ ts) e

-- Their tasks are those in order of priority.
pub ordered_tasks : (tasks : List Task) (walks : ℕ → List ℕ) → tasks_of (ordered (walked tasks walks)) ≡ by_priority tasks
unfolding walked ordered by_priority
ordered_tasks [] walks = refl
ordered_tasks (t ∷ tasks) walks = put_tasks (t, walks 0) (ordered (walked tasks (λ k. walks (suc k)))) ∙ ap (placed t) (ordered_tasks tasks (λ k. walks (suc k)))

-- What holds of a task with its walk and of all others, holds of all.
put_all : (P : Walked → Type 0) (x : Walked) (ys : List Walked) → P x → AllByRecursion P ys → AllByRecursion P (put x ys)
unfolding put
put_all P x [] is are = (is, tt)
put_all P x (y ∷ ys) is are = go (nat_lt x.0.priority y.0.priority) (put_all P x ys is are.1)
  where
    go : (b : Bool) → AllByRecursion P (put x ys) → AllByRecursion P (cond b (x ∷ y ∷ ys) (y ∷ put x ys))
    go true later = (is, are)
    go false later = (are.0, later)

-- What holds of each task, holds in order of priority.
pub ordered_all : (P : Task → Type 0) (tasks : List Task) (walks : ℕ → List ℕ) → All P tasks → AllByRecursion (λ x. P x.0) (ordered (walked tasks walks))
unfolding walked ordered
ordered_all P [] walks are = tt
ordered_all P (t ∷ tasks) walks are =
    let later = ordered_all P tasks (λ k. walks (suc k)) (All-tail P t tasks are) in
    put_all (λ x. P x.0) (t, walks 0) (ordered (walked tasks (λ k. walks (suc k)))) (All-head P t tasks are) later

-- Each has a walk of its task.
abbrev pub AreWalked : List Walked → Type 0
AreWalked xs = AllByRecursion (λ x. IsWalk (digraph_of x.0) x.1) xs

pub ordered_walked : (tasks : List Task) (walks : ℕ → List ℕ) → AreWalks tasks walks → AreWalked (ordered (walked tasks walks))
unfolding walked ordered
ordered_walked [] walks are = tt
ordered_walked (t ∷ tasks) walks are =
    let later = ordered_walked tasks (λ k. walks (suc k)) (λ k l. are (suc k) (omega (arith, l))) in
    put_all (λ x. IsWalk (digraph_of x.0) x.1) (t, walks 0) (ordered (walked tasks (λ k. walks (suc k)))) (are 0 (omega arith)) later

-- What a walk asks for before t.
abbrev pub asks : ℕ → Walked → ℕ
asks t x = request_of (digraph_of x.0) x.1 t

-- The same where the task is of higher priority than p, else nothing.
abbrev pub asks_above : ℕ → ℕ → Walked → ℕ
asks_above p t x = cond (nat_lt x.0.priority p) (asks t x) 0

-- And of all together.
unfoldable pub total_above : ℕ → ℕ → List Walked → ℕ
total_above p t [] = 0
total_above p t (x ∷ xs) = asks_above p t x + total_above p t xs

-- How many are of higher priority than p.
unfoldable pub count_above : ℕ → List Walked → ℕ
count_above p [] = 0
count_above p (x ∷ xs) = cond (nat_lt x.0.priority p) 1 0 + count_above p xs

-- What the first n ask for together.
unfoldable pub total_first : ℕ → ℕ → List Walked → ℕ
total_first t zero xs = 0
total_first t (suc n) [] = 0
total_first t (suc n) (x ∷ xs) = asks t x + total_first t n xs

put_total : (p t : ℕ) (x : Walked) (ys : List Walked) → total_above p t (put x ys) ≡ asks_above p t x + total_above p t ys
unfolding put total_above
put_total p t x [] = refl
put_total p t x (y ∷ ys) = go (nat_lt x.0.priority y.0.priority) (put_total p t x ys)
  where
    go : (b : Bool) → total_above p t (put x ys) ≡ asks_above p t x + total_above p t ys
        → total_above p t (cond b (x ∷ y ∷ ys) (y ∷ put x ys)) ≡ asks_above p t x + (asks_above p t y + total_above p t ys)
    go true e = refl
    go false e = omega (arith, e)

put_count : (p : ℕ) (x : Walked) (ys : List Walked) → count_above p (put x ys) ≡ cond (nat_lt x.0.priority p) 1 0 + count_above p ys
unfolding put count_above
put_count p x [] = refl
put_count p x (y ∷ ys) = go (nat_lt x.0.priority y.0.priority) (put_count p x ys)
  where
    go : (b : Bool) → count_above p (put x ys) ≡ cond (nat_lt x.0.priority p) 1 0 + count_above p ys
        → count_above p (cond b (x ∷ y ∷ ys) (y ∷ put x ys)) ≡ cond (nat_lt x.0.priority p) 1 0 + (cond (nat_lt y.0.priority p) 1 0 + count_above p ys)
    go true e = refl
    go false e = omega (arith, e)

requests_cons : (t : Task) (tasks : List Task) (walks : ℕ → List ℕ) (p n time : ℕ)
    → requests (t ∷ tasks) walks p (suc n) time ≡ asks_above p time (t, walks 0) + requests tasks (λ k. walks (suc k)) p n time
unfolding requests
requests_cons t tasks walks p zero time = omega arith
requests_cons t tasks walks p (suc n) time = omega (arith, requests_cons t tasks walks p n time)

requests_none : (tasks : List Task) (walks : ℕ → List ℕ) (p t : ℕ) → requests tasks walks p 0 t ≡ 0
unfolding requests
requests_none tasks walks p t = refl

-- The sum in order of the file is the one in order of priority.
total_is : (p t : ℕ) (tasks : List Task) (walks : ℕ → List ℕ) → requests tasks walks p (length tasks) t ≡ total_above p t (ordered (walked tasks walks))
unfolding walked ordered total_above
total_is p t [] walks = requests_none [] walks p t
total_is p t (x ∷ tasks) walks =
    let a = requests_cons x tasks walks p (length tasks) t in
    let b = put_total p t (x, walks 0) (ordered (walked tasks (λ k. walks (suc k)))) in
    let c = total_is p t tasks (λ k. walks (suc k)) in
    omega (arith, a, b, c)

count_is : (p : ℕ) (tasks : List Task) (walks : ℕ → List ℕ) → higher_count tasks p ≡ count_above p (ordered (walked tasks walks))
unfolding walked ordered count_above
count_is p [] walks = refl
count_is p (x ∷ tasks) walks =
    let a : higher_count (x ∷ tasks) p ≡ cond (nat_lt x.priority p) 1 0 + higher_count tasks p = sum_by-cons (λ (t : Task). cond (nat_lt t.priority p) 1 0) x tasks in
    let b = put_count p (x, walks 0) (ordered (walked tasks (λ k. walks (suc k)))) in
    let c = count_is p tasks (λ k. walks (suc k)) in
    omega (arith, a, b, c)

-- None is of higher priority than n.
abbrev AreLate : ℕ → List Walked → Type 0
AreLate n [] = Unit {0}
AreLate n (x ∷ xs) = (n ≤ x.0.priority) × AreLate n xs

-- Each is of no higher priority than those before it.
abbrev AreOrdered : List Walked → Type 0
AreOrdered [] = Unit {0}
AreOrdered (x ∷ xs) = AreLate x.0.priority xs × AreOrdered xs

late_weaker : (m n : ℕ) (xs : List Walked) → m ≤ n → AreLate n xs → AreLate m xs
late_weaker m n [] l late = tt
late_weaker m n (x ∷ xs) l late = let a = late.0 in (omega (arith, a, l), late_weaker m n xs l late.1)

put_late : (n : ℕ) (x : Walked) (ys : List Walked) → n ≤ x.0.priority → AreLate n ys → AreLate n (put x ys)
unfolding put
put_late n x [] l late = (l, tt)
put_late n x (y ∷ ys) l late = go (nat_lt x.0.priority y.0.priority) (put_late n x ys l late.1)
  where
    go : (b : Bool) → AreLate n (put x ys) → AreLate n (cond b (x ∷ y ∷ ys) (y ∷ put x ys))
    go true later = (l, late)
    go false later = (late.0, later)

put_ordered : (x : Walked) (ys : List Walked) → AreOrdered ys → AreOrdered (put x ys)
unfolding put
put_ordered x [] are = (tt, tt)
put_ordered x (y ∷ ys) are = go (nat_lt x.0.priority y.0.priority) refl (put_ordered x ys are.1)
  where
    go : (b : Bool) → nat_lt x.0.priority y.0.priority ≡ b → AreOrdered (put x ys) → AreOrdered (cond b (x ∷ y ∷ ys) (y ∷ put x ys))
    go true e later =
        let l = ltb-true x.0.priority y.0.priority e in
        ((omega (arith, l), late_weaker x.0.priority y.0.priority ys (omega (arith, l)) are.0), are)
    go false e later = (put_late y.0.priority x ys (ltb-false x.0.priority y.0.priority e) are.0, later)

are_ordered : (xs : List Walked) → AreOrdered (ordered xs)
unfolding ordered
are_ordered [] = tt
are_ordered (x ∷ xs) = put_ordered x (ordered xs) (are_ordered xs)

late_none : (p t : ℕ) (xs : List Walked) → AreLate p xs → (total_above p t xs ≡ 0) × (count_above p xs ≡ 0)
unfolding total_above count_above
late_none p t [] late = (refl, refl)
late_none p t (x ∷ xs) late =
    let low : nat_lt x.0.priority p ≡ false = le-ltb x.0.priority p late.0 in
    let rest = late_none p t xs late.1 in
    (rw low (omega (arith, rest.0)), rw low (omega (arith, rest.1)))

-- In order of priority, those of higher priority than p are the first.
first_total : (p t : ℕ) (xs : List Walked) → AreOrdered xs → total_above p t xs ≡ total_first t (count_above p xs) xs
unfolding total_above count_above total_first
first_total p t [] are = refl
first_total p t (x ∷ xs) are = go (nat_lt x.0.priority p) refl (first_total p t xs are.1)
  where
    go : (b : Bool) → nat_lt x.0.priority p ≡ b → total_above p t xs ≡ total_first t (count_above p xs) xs
        → cond b (asks t x) 0 + total_above p t xs ≡ total_first t (cond b 1 0 + count_above p xs) (x ∷ xs)
    go true high later =
        let n : suc (count_above p xs) ≡ 1 + count_above p xs = omega arith in
        ap (λ k. asks t x + k) later ∙ ap (λ k. total_first t k (x ∷ xs)) n
    go false high later =
        let l = ltb-false x.0.priority p high in
        let none = late_none p t xs (late_weaker p x.0.priority xs l are.0) in
        let n : zero ≡ 0 + count_above p xs = omega (arith, none.1) in
        let a : 0 + total_above p t xs ≡ 0 = omega (arith, none.0) in
        a ∙ ap (λ k. total_first t k (x ∷ xs)) n

-- The first ones are of higher priority.
abbrev pub AreAbove : ℕ → List Walked → Type 0
AreAbove p xs = AllByRecursion (λ x. x.0.priority < p) xs

first_above : (p : ℕ) (xs : List Walked) → AreOrdered xs → AreAbove p (take (count_above p xs) xs)
unfolding count_above
first_above p [] are = tt
first_above p (x ∷ xs) are = go (nat_lt x.0.priority p) refl (first_above p xs are.1)
  where
    go : (b : Bool) → nat_lt x.0.priority p ≡ b → AreAbove p (take (count_above p xs) xs) → AreAbove p (take (cond b 1 0 + count_above p xs) (x ∷ xs))
    go true high later =
        let n : suc (count_above p xs) ≡ 1 + count_above p xs = omega arith in
        subst (λ k. AreAbove p (take k (x ∷ xs))) n (ltb-true x.0.priority p high, later)
    go false high later =
        let l = ltb-false x.0.priority p high in
        let none = late_none p 0 xs (late_weaker p x.0.priority xs l are.0) in
        let n : zero ≡ 0 + count_above p xs = omega (arith, none.1) in
        subst (λ k. AreAbove p (take k (x ∷ xs))) n tt

-- As many as are of higher priority than p, in order of priority, are.
pub higher_first : (tasks : List Task) (walks : ℕ → List ℕ) (p : ℕ) → AreAbove p (take (higher_count tasks p) (ordered (walked tasks walks)))
higher_first tasks walks p =
    let xs : List Walked = ordered (walked tasks walks) in
    subst (λ n. AreAbove p (take n xs)) (sym (count_is p tasks walks)) (first_above p xs (are_ordered (walked tasks walks)))

-- What the walks of the tasks of higher priority than p ask for is what the first ones in order of priority ask for.
pub requests_first : (tasks : List Task) (walks : ℕ → List ℕ) (p t : ℕ)
    → requests tasks walks p (length tasks) t ≡ total_first t (higher_count tasks p) (ordered (walked tasks walks))
requests_first tasks walks p t =
    let xs : List Walked = ordered (walked tasks walks) in
    total_is p t tasks walks ∙ (first_total p t xs (are_ordered (walked tasks walks)) ∙ ap (λ n. total_first t n xs) (sym (count_is p tasks walks)))

at_most : (b : Bool) → cond b 1 0 ≤ 1
at_most true = omega arith
at_most false = omega arith

higher_most : (p : ℕ) (tasks : List Task) → higher_count tasks p ≤ length tasks
higher_most p [] = omega arith
higher_most p (x ∷ tasks) =
    let a : higher_count (x ∷ tasks) p ≡ cond (nat_lt x.priority p) 1 0 + higher_count tasks p = sum_by-cons (λ (t : Task). cond (nat_lt t.priority p) 1 0) x tasks in
    omega (arith, a, at_most (nat_lt x.priority p), higher_most p tasks)

-- At least one task isn't of higher priority than one of them.
pub higher_below : (tasks : List Task) (p k : ℕ) → k < length tasks → p ≤ (task_at tasks k).priority → higher_count tasks p < length tasks
higher_below [] p k l low = absurd (omega arith)
higher_below (x ∷ tasks) p zero l low =
    let a : higher_count (x ∷ tasks) p ≡ cond (nat_lt x.priority p) 1 0 + higher_count tasks p = sum_by-cons (λ (t : Task). cond (nat_lt t.priority p) 1 0) x tasks in
    let b : ◌≡◌ {A = ℕ} (cond (nat_lt x.priority p) 1 0) 0 = rw (le-ltb x.priority p low) refl in
    omega (arith, a, b, higher_most p tasks)
higher_below (x ∷ tasks) p (suc k) l low =
    let a : higher_count (x ∷ tasks) p ≡ cond (nat_lt x.priority p) 1 0 + higher_count tasks p = sum_by-cons (λ (t : Task). cond (nat_lt t.priority p) 1 0) x tasks in
    let b : cond (nat_lt x.priority p) 1 0 ≤ 1 = at_most (nat_lt x.priority p) in
    let c = higher_below tasks p k (omega (arith, l)) low in
    omega (arith, a, b, c)
