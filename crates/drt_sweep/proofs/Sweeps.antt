-- The works of the works so far, where the works are in order of the times at which they are due.
use Rattle.std.proofs.Common.{◌≡◌, ℕ, zero, suc, ◌+◌, ◌-◌, ◌<◌, ◌≤◌, Bool, true, false, eqb, cond, List, [], ◌∷◌, ◌++◌, All, length, get_or, set, take, drop, ◌⊎◌, inl, inr, refl, sym, ap, arith, ◌∙◌}
use Rattle.std.specs.Prelude.{max, nat_le, ◌&&◌}
use Rattle.std.specs.List.Sorted.{IsNonDecreasingBy}
use Rattle.std.proofs.Math.Nat.{le-max_left, le-max_right, max-le}
use Rattle.std.proofs.lemmas.Bool.{cases_lt, eqb-true, eqb-false, leb-true, le-leb}
use Rattle.std.proofs.lemmas.List.{get_or-set_same, get_or-set_other, length-set, drop_more, drop_all, take_more}
use Rattle.std.proofs.lemmas.List.{take-append-drop, get_or-drop, get_or-take, get_or_default, length-drop, length-take-le}
use Rattle.drt_sweep.specs.declared.due_work.DueWork.{DueWork}
use Rattle.std.specs.Prelude.{Some}
use Rattle.drt_sweep.specs.DueWorks.{work_by, sum_to, works_by, IsFirstExcess}
use Rattle.drt_sweep.proofs.Works.{part, work_in, whole, by_cons, by_none, in_cons, in_none, sum_less, sum_grows, sum_none}

part_whole : (r : DueWork) (t k : ℕ) → part r t k ≤ whole r k
part_whole r t k = go (eqb r.task k) (nat_le r.due t)
  where
    go : (a b : Bool) → cond (a && b) r.work 0 ≤ cond a r.work 0
    go true true = omega arith
    go true false = omega arith
    go false b = omega arith

part_late : (r : DueWork) (t k : ℕ) → t < r.due → part r t k ≡ 0
part_late r t k l = go (eqb r.task k) (nat_le r.due t) (λ e. leb-true r.due t e)
  where
    go : (a b : Bool) → (b ≡ true → r.due ≤ t) → cond (a && b) r.work 0 ≡ 0
    go true true due = (let d = due refl in absurd (omega arith))
    go true false due = refl
    go false b due = refl

part_due : (r : DueWork) (t k : ℕ) → r.due ≤ t → part r t k ≡ whole r k
part_due r t k l = go (eqb r.task k) (nat_le r.due t) (le-leb r.due t l)
  where
    go : (a b : Bool) → b ≡ true → cond (a && b) r.work 0 ≡ cond a r.work 0
    go true true e = refl
    go true false e = absurd (cc)
    go false b e = refl

-- Labels that are due after t count nothing.
pub by_late : (rs : List DueWork) (t k : ℕ) → All (λ r. t < r.due) rs → work_by rs t k ≡ 0
by_late [] t k late = by_none t k
by_late (r ∷ rs) t k late =
    let p = part_late r t k (late 0 r (omega arith)) in
    let q = by_late rs t k (λ i d l. late (suc i) d (omega arith)) in
    rw (by_cons, p, q) refl

-- With later works behind them, those so far count at most their whole work.
pub by_in : (ps ss : List DueWork) (t k : ℕ) → All (λ r. t < r.due) ss → work_by (ps ++ ss) t k ≤ work_in ps k
by_in [] ss t k late = rw (in_none, by_late ss t k late) (omega arith)
by_in (r ∷ ps) ss t k late =
    let p = part_whole r t k in
    let q = by_in ps ss t k late in
    let a = le-max_left (whole r k) (work_in ps k) in
    let b = le-max_right (whole r k) (work_in ps k) in
    rw (by_cons, in_cons) (max-le (omega (arith, p, a)) (omega (arith, q, b)))

-- Where those so far are due by t, they count their whole work.
pub in_by : (ps ss : List DueWork) (t k : ℕ) → All (λ r. r.due ≤ t) ps → work_in ps k ≤ work_by (ps ++ ss) t k
in_by [] ss t k due = rw in_none (omega arith)
in_by (r ∷ ps) ss t k due =
    let p = part_due r t k (due 0 r (omega arith)) in
    let q = in_by ps ss t k (λ i d l. due (suc i) d (omega arith)) in
    let a = le-max_left (part r t k) (work_by (ps ++ ss) t k) in
    let b = le-max_right (part r t k) (work_by (ps ++ ss) t k) in
    rw (by_cons, in_cons) (max-le (omega (arith, p, a)) (omega (arith, q, b)))

-- One more work.
pub in_push : (ps : List DueWork) (r : DueWork) (k : ℕ) → work_in (ps ++ r ∷ []) k ≡ max (work_in ps k) (whole r k)
in_push [] r k = rw (in_cons, in_none) (same (whole r k))
  where
    same : (n : ℕ) → max n 0 ≡ max 0 n
    same n = grind arith
in_push (q ∷ ps) r k =
    let e = in_push ps r k in
    rw (in_cons, in_cons, e) (grouped (whole q k) (work_in ps k) (whole r k))
  where
    grouped : (a b c : ℕ) → max a (max b c) ≡ max (max a b) c
    grouped a b c = grind arith

-- The greatest works so far, task by task, in a row of 32.
pub record IsRow (ps : List DueWork) (most : List ℕ) (total : ℕ) : Type 0 where
  pub size : length most ≡ 32
  pub each : (k : ℕ) → k < 32 → get_or most k 0 ≡ work_in ps k
  pub sum : total ≡ sum_to (work_in ps) 32

-- No element, no work.
pub row_none : (most : List ℕ) → length most ≡ 32 → ((k : ℕ) → k < 32 → get_or most k 0 ≡ 0) → IsRow [] most 0
row_none most size each = record {
  size = size;
  each = λ k l. each k l ∙ sym (in_none k);
  sum = sym (sum_none (work_in []) 32 (λ k l. in_none k));
}

whole_same : (r : DueWork) → whole r r.task ≡ r.work
whole_same r = go (eqb r.task r.task) (λ e. eqb-false r.task r.task e refl)
  where
    go : (a : Bool) → (a ≡ false → ⊥) → cond a r.work 0 ≡ r.work
    go true no_way = refl
    go false no_way = absurd (no_way refl)

whole_other : (r : DueWork) (k : ℕ) → (k ≡ r.task → ⊥) → whole r k ≡ 0
whole_other r k differ = go (eqb r.task k) (λ e. differ (sym (eqb-true r.task k e)))
  where
    go : (a : Bool) → (a ≡ true → ⊥) → cond a r.work 0 ≡ 0
    go true no_way = absurd (no_way refl)
    go false no_way = refl

other_push : (ps : List DueWork) (r : DueWork) (k : ℕ) → (k ≡ r.task → ⊥) → work_in (ps ++ r ∷ []) k ≡ work_in ps k
other_push ps r k differ = in_push ps r k ∙ (ap (λ n. max (work_in ps k) n) (whole_other r k differ) ∙ plain (work_in ps k))
  where
    plain : (n : ℕ) → max n 0 ≡ n
    plain n = grind arith

task_push : (ps : List DueWork) (r : DueWork) → work_in (ps ++ r ∷ []) r.task ≡ max (work_in ps r.task) r.work
task_push ps r = in_push ps r r.task ∙ ap (λ n. max (work_in ps r.task) n) (whole_same r)

plain : (a b : ℕ) → max a b ≡ a + (b - a)
plain a b = grind arith

-- One more work in the row.
pub row_push : (ps : List DueWork) (most : List ℕ) (total : ℕ) (r : DueWork) → r.task < 32 → IsRow ps most total
    → IsRow (ps ++ r ∷ []) (set most r.task (max (get_or most r.task 0) r.work)) (total + (r.work - get_or most r.task 0))
row_push ps most total r l is = record {
  size = length-set most r.task (max (get_or most r.task 0) r.work) ∙ is.size;
  each = λ k m. go k m (eqb k r.task) refl;
  sum = (let g = sum_grows (work_in ps) (work_in (ps ++ r ∷ [])) r.task 32 (r.work - get_or most r.task 0) l (λ k m differ. other_push ps r k differ) grown in omega (arith, g, is.sum));
}
  where
    at : get_or most r.task 0 ≡ work_in ps r.task
    at = is.each r.task l

    grown : work_in (ps ++ r ∷ []) r.task ≡ work_in ps r.task + (r.work - get_or most r.task 0)
    grown = task_push ps r ∙ (plain (work_in ps r.task) r.work ∙ ap (λ n. work_in ps r.task + (r.work - n)) (sym at))

    go : (k : ℕ) → k < 32 → (b : Bool) → eqb k r.task ≡ b → get_or (set most r.task (max (get_or most r.task 0) r.work)) k 0 ≡ work_in (ps ++ r ∷ []) k
    go k m true e =
        let same : k ≡ r.task = eqb-true k r.task e in
        rw same (get_or-set_same most r.task (max (get_or most r.task 0) r.work) 0 (omega (arith, is.size, l)) ∙ (ap (λ n. max n r.work) at ∙ sym (task_push ps r)))
    go k m false e =
        let differ = eqb-false k r.task e in
        get_or-set_other most r.task k (max (get_or most r.task 0) r.work) 0 differ ∙ (is.each k m ∙ sym (other_push ps r k differ))

-- Each time before the works that are left has no more work than time.
abbrev pub IsClearBefore : List DueWork → ℕ → Type 0
IsClearBefore all i = (s : ℕ) → All (λ r. s < r.due) (drop i all) → works_by all s ≤ s

-- The works so far and those that are left are all.
pub split : (xs : List DueWork) (i : ℕ) → take i xs ++ drop i xs ≡ xs
split xs i = take-append-drop i xs

-- Before all works no work is due.
pub clear_first : (all : List DueWork) → IsClearBefore all 0
clear_first all s late = let e = sum_none (work_by all s) 32 (λ k l. by_late all s k late) in omega (arith, e)

-- Past one more work that is no excess.
pub clear_next : (all : List DueWork) (most : List ℕ) (total i : ℕ) (r : DueWork) → i < length all → r ≡ get_or all i r → IsRow (take (i + 1) all) most total → total ≤ r.due
    → IsClearBefore all i → IsClearBefore all (i + 1)
clear_next all most total i r l is row fits clear s late = go (cases_lt s r.due)
  where
    go : (s < r.due) ⊎ (r.due ≤ s) → works_by all s ≤ s
    go (inl m) = clear s (λ j d p. at j d p)
      where
        at : (j : ℕ) (d : DueWork) → j < length (drop i all) → s < (get_or (drop i all) j d).due
        at j d p = step (drop_more all i r l) j d p
          where
            step : drop i all ≡ get_or all i r ∷ drop (i + 1) all → (j : ℕ) (d : DueWork) → j < length (drop i all) → s < (get_or (drop i all) j d).due
            step e j d p = rw e (first j d (rw e at p))
              where
                first : (j : ℕ) (d : DueWork) → j < length (get_or all i r ∷ drop (i + 1) all) → s < (get_or (get_or all i r ∷ drop (i + 1) all) j d).due
                first zero d p = rw (← is) m
                first (suc j) d p = late j d (omega arith)
    go (inr m) =
        let h = sum_less (work_by (take (i + 1) all ++ drop (i + 1) all) s) (work_in (take (i + 1) all)) 32 (λ k p. by_in (take (i + 1) all) (drop (i + 1) all) s k late) in
        let g = rw (split all (i + 1)) at h in
        omega (arith, g, row.sum, fits, m)

-- An excess at an element that is due, where those so far are due by then.
pub excess_at : (all : List DueWork) (most : List ℕ) (total i t : ℕ) → IsRow (take i all) most total → All (λ r. r.due ≤ t) (take i all) → t < total → t < works_by all t
excess_at all most total i t row due over =
    let h = sum_less (work_in (take i all)) (work_by (take i all ++ drop i all) t) 32 (λ k p. in_by (take i all) (drop i all) t k due) in
    let g = rw (split all i) at h in
    omega (arith, g, row.sum, over)

-- In order, those that are left are due at the first of them or later.
pub left_later : (all : List DueWork) (i s : ℕ) (r : DueWork) → IsNonDecreasingBy (λ r. r.due) all → i < length all → r ≡ get_or all i r → s < r.due → All (λ x. s < x.due) (drop i all)
left_later all i s r order l is m j d p =
    let e : get_or (drop i all) j d ≡ get_or all (i + j) d = get_or-drop i all j d in
    let q : j < length all - i = (let n = length-drop i all in omega arith) in
    let o = order i (i + j) d (omega arith) (omega arith) in
    let f : get_or all i d ≡ get_or all i r = get_or_default all i d r l in
    rw e (let g : (get_or all i d).due ≡ r.due = ap (λ x. x.due) (f ∙ sym is) in omega (arith, o, g, m))

-- Those so far are due by then.
pub done_due : (all : List DueWork) (i : ℕ) (r : DueWork) → IsNonDecreasingBy (λ r. r.due) all → i < length all → r ≡ get_or all i r → All (λ x. x.due ≤ r.due) (take (i + 1) all)
done_due all i r order l is j d p =
    let n = length-take-le (i + 1) all (omega arith) in
    let q : j < i + 1 = omega arith in
    let e : get_or (take (i + 1) all) j d ≡ get_or all j d = get_or-take (i + 1) all j d q in
    let o = order j i d (omega arith) l in
    let f : get_or all i d ≡ get_or all i r = get_or_default all i d r l in
    rw e (let g : (get_or all i d).due ≡ r.due = ap (λ x. x.due) (f ∙ sym is) in omega (arith, o, g))

done_at : (xs : List DueWork) (i : ℕ) (x : DueWork) → i < length xs → x ≡ get_or xs i x → take (i + 1) xs ≡ take i xs ++ x ∷ []
done_at xs i x l is = take_more xs i x l ∙ ap (λ (y : DueWork). take i xs ++ y ∷ []) (sym is)

-- No excess at one more work.
pub row_step : (all : List DueWork) (most : List ℕ) (total i : ℕ) (r : DueWork) → i < length all → r ≡ get_or all i r → r.task < 32 → IsRow (take i all) most total
    → IsRow (take (i + 1) all) (set most r.task (max (get_or most r.task 0) r.work)) (total + (r.work - get_or most r.task 0))
row_step all most total i r l is m row = rw (done_at all i r l is) (row_push (take i all) most total r m row)

-- An excess at one more work.
pub excess_next : (all : List DueWork) (most : List ℕ) (total i : ℕ) (r : DueWork) → IsNonDecreasingBy (λ r. r.due) all → i < length all → r ≡ get_or all i r → r.task < 32
    → IsRow (take i all) most total → r.due < total + (r.work - get_or most r.task 0) → IsClearBefore all i → IsFirstExcess all (Some r.due)
excess_next all most total i r order l is m row over clear =
    let next = row_step all most total i r l is m row in
    ((i, r, l, sym is, refl), excess_at all _ _ (i + 1) r.due next (done_due all i r order l is) over, λ s q. clear s (left_later all i s r order l is q))

-- After all works.
pub clear_last : (all : List DueWork) (i : ℕ) → length all ≤ i → IsClearBefore all i → (s : ℕ) → works_by all s ≤ s
clear_last all i l clear s = let e = drop_all i all l in clear s (rw e (λ k d p. absurd (omega arith)))

-- A row of zeros.
abbrev pub zeros : ℕ → List ℕ
zeros zero = []
zeros (suc n) = 0 ∷ zeros n

zeros_at : (n k : ℕ) → get_or (zeros n) k 0 ≡ 0
zeros_at zero k = refl
zeros_at (suc n) zero = refl
zeros_at (suc n) (suc k) = zeros_at n k

-- The row before all works.
pub row_first : IsRow [] (zeros 32) 0
row_first = row_none (zeros 32) refl (λ k l. zeros_at 32 k)

-- What stands for an element past the last one.
abbrev pub no_work : DueWork
no_work = record { due = 0; task = 0; work = 0 }
