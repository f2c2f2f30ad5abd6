-- The works of lists, one for each task, put into one list: their sum by a time is the sum over the lists.
use Rattle.std.proofs.Common.{◌≡◌, ℕ, zero, suc, ◌+◌, ◌<◌, ◌≤◌, Bool, true, false, eqb, List, [], ◌∷◌, ◌++◌, All, length, refl, sym, arith}
use Rattle.std.specs.Prelude.{max}
use Rattle.std.proofs.lemmas.Bool.{eqb-true, eqb-false}
use Rattle.drt_sweep.specs.declared.due_work.DueWork.{DueWork}
use Rattle.drt_sweep.specs.Dues.{greatest_due, sum_due}
use Rattle.drt_sweep.specs.DueWorks.{AreOfTasks, work_by, sum_to, works_by, works_from, works_of}
use Rattle.drt_sweep.proofs.Works.{by_both, by_cons, by_none, sum_grows, sum_none}

-- The works of a list, for its own task.
list_same : {X : Type 0} (due work : X → ℕ) (k : ℕ) (xs : List X) (t : ℕ) → work_by (works_from due work k xs) t k ≡ greatest_due due work xs t
list_same due work k [] t = by_none t k
list_same due work k (x ∷ xs) t =
    let e = list_same due work k xs t in
    let s : eqb k k ≡ true = same k in
    rw (by_cons, e, s) refl
  where
    same : (k : ℕ) → eqb k k ≡ true
    same k = go (eqb k k) (λ e. eqb-false k k e refl)
      where
        go : (b : Bool) → (b ≡ false → ⊥) → b ≡ true
        go true no_way = refl
        go false no_way = absurd (no_way refl)

unequal : (j k : ℕ) → (j ≡ k → ⊥) → eqb j k ≡ false
unequal j k differ = go (eqb j k) (λ e. differ (eqb-true j k e))
  where
    go : (b : Bool) → (b ≡ true → ⊥) → b ≡ false
    go true no_way = absurd (no_way refl)
    go false no_way = refl

-- And for another task.
list_other : {X : Type 0} (due work : X → ℕ) (j : ℕ) (xs : List X) (t k : ℕ) → (j ≡ k → ⊥) → work_by (works_from due work j xs) t k ≡ 0
list_other due work j [] t k differ = by_none t k
list_other due work j (x ∷ xs) t k differ =
    let e = list_other due work j xs t k differ in
    let s : eqb j k ≡ false = unequal j k differ in
    rw (by_cons, e, s) refl

-- Lists from m on have nothing of the tasks before.
before_none : {T X : Type 0} (due : T → X → ℕ) (work : X → ℕ) (m : ℕ) (tasks : List T) (lists : List (List X)) (t k : ℕ)
    → k < m → work_by (works_of due work m tasks lists) t k ≡ 0
before_none due work m [] lists t k l = by_none t k
before_none due work m (a ∷ tasks) [] t k l = by_none t k
before_none due work m (a ∷ tasks) (xs ∷ lists) t k l =
    let p = list_other (due a) work m xs t k (λ e. omega arith) in
    let q = before_none due work (suc m) tasks lists t k (omega arith) in
    rw (by_both, p, q) refl

-- The sum from task m on.
sum_from : {T X : Type 0} (due : T → X → ℕ) (work : X → ℕ) (m : ℕ) (tasks : List T) (lists : List (List X)) (t n : ℕ)
    → m + length tasks ≤ n → sum_to (work_by (works_of due work m tasks lists) t) n ≡ sum_due due work tasks lists t
unfolding sum_due
sum_from due work m [] lists t n l = sum_none (work_by [] t) n (λ k p. by_none t k)
sum_from due work m (a ∷ tasks) [] t n l = sum_none (work_by [] t) n (λ k p. by_none t k)
sum_from due work m (a ∷ tasks) (xs ∷ lists) t n l =
    let rest = sum_from due work (suc m) tasks lists t n (omega arith) in
    let later = work_by (works_of due work (suc m) tasks lists) t in
    let all = work_by (works_of due work m (a ∷ tasks) (xs ∷ lists)) t in
    let grown = sum_grows later all m n (greatest_due (due a) work xs t) (omega arith) (λ k p differ. others k differ) here in
    omega (arith, rest, grown)
  where
    others : (k : ℕ) → (k ≡ m → ⊥) → work_by (works_from (due a) work m xs ++ works_of due work (suc m) tasks lists) t k ≡ work_by (works_of due work (suc m) tasks lists) t k
    others k differ =
        let p = list_other (due a) work m xs t k (λ e. differ (sym e)) in
        rw (by_both, p) (plain (work_by (works_of due work (suc m) tasks lists) t k))
      where
        plain : (n : ℕ) → max 0 n ≡ n
        plain n = grind arith

    here : work_by (works_from (due a) work m xs ++ works_of due work (suc m) tasks lists) t m ≡ work_by (works_of due work (suc m) tasks lists) t m + greatest_due (due a) work xs t
    here =
        let p = list_same (due a) work m xs t in
        let q = before_none due work (suc m) tasks lists t m (omega arith) in
        rw (by_both, p, q) (plain (greatest_due (due a) work xs t))
      where
        plain : (n : ℕ) → max n 0 ≡ 0 + n
        plain n = grind arith

-- The sum over the works of up to 32 lists is the sum over the lists.
pub sums_same : {T X : Type 0} (due : T → X → ℕ) (work : X → ℕ) (tasks : List T) (lists : List (List X)) (t : ℕ)
    → length tasks ≤ 32 → works_by (works_of due work 0 tasks lists) t ≡ sum_due due work tasks lists t
sums_same due work tasks lists t few = sum_from due work 0 tasks lists t 32 (omega arith)

all_cons : {A : Type 0} (Q : A → Type 0) (x : A) (xs : List A) → Q x → All Q xs → All Q (x ∷ xs)
all_cons Q x xs one all zero d l = one
all_cons Q x xs one all (suc k) d l = all k d (omega arith)

few_from : {X : Type 0} (due work : X → ℕ) (k n : ℕ) (xs : List X) (rest : List DueWork) → k < n → All (λ w. w.task < n) rest → All (λ w. w.task < n) (works_from due work k xs ++ rest)
few_from due work k n [] rest l all = all
few_from due work k n (x ∷ xs) rest l all =
    all_cons (λ (w : DueWork). w.task < n) (record { due = due x; task = k; work = work x }) (works_from due work k xs ++ rest) l (few_from due work k n xs rest l all)

few_tasks : {T X : Type 0} (due : T → X → ℕ) (work : X → ℕ) (m : ℕ) (tasks : List T) (lists : List (List X)) (n : ℕ) → m + length tasks ≤ n → All (λ w. w.task < n) (works_of due work m tasks lists)
few_tasks due work m [] lists n l k d p = absurd (omega arith)
few_tasks due work m (a ∷ tasks) [] n l k d p = absurd (omega arith)
few_tasks due work m (a ∷ tasks) (xs ∷ lists) n l k d p =
    few_from (due a) work m n xs (works_of due work (suc m) tasks lists) (omega arith) (few_tasks due work (suc m) tasks lists n (omega arith)) k d p

-- The works of up to 32 lists are of the first 32 tasks.
pub are_of_tasks : {T X : Type 0} (due : T → X → ℕ) (work : X → ℕ) (tasks : List T) (lists : List (List X)) → length tasks ≤ 32 → AreOfTasks (works_of due work 0 tasks lists)
are_of_tasks due work tasks lists few = few_tasks due work 0 tasks lists 32 (omega arith)
