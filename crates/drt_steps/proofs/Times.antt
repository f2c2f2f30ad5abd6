use Rattle.std.proofs.Common.{◌≡◌, ℕ, suc, zero, ◌+◌, ◌<◌, ◌≤◌, Some, List, [], ◌∷◌, length, take, sym, ap, ◌∙◌, subst, arith, add-one}
use Rattle.std.specs.Prelude.{slice_get, slice_index_or}
use Rattle.std.proofs.lemmas.Option.{none-some, same_Some}
use Rattle.drt_steps.specs.Values.{value_at}
use Rattle.drt_steps.specs.Time.{sum_at, Passes, AreChosen}

sum_suc : (pool : List (List ℕ)) (chosen : List ℕ) (i k t : ℕ) → slice_get chosen i ≡ Some k
    → sum_at pool (take (suc i) chosen) t ≡ sum_at pool (take i chosen) t + value_at (slice_index_or pool k []) t
sum_suc pool [] i k t at = absurd (none-some k at)
sum_suc pool (x ∷ chosen) zero k t at = let e : value_at (slice_index_or pool x []) t ≡ value_at (slice_index_or pool k []) t = ap
    (λ y. value_at (slice_index_or pool y []) t) (same_Some x k at) in omega arith
sum_suc pool (x ∷ chosen) (suc i) k t at = let e : sum_at pool (take (suc i) chosen) t ≡ sum_at pool (take i chosen) t + value_at (slice_index_or pool k []) t = sum_suc
    pool chosen i k t at in omega arith

pub sum_more : (pool : List (List ℕ)) (chosen : List ℕ) (i k t : ℕ) → slice_get chosen i ≡ Some k
    → sum_at pool (take (i + 1) chosen) t ≡ sum_at pool (take i chosen) t + value_at (slice_index_or pool k []) t
sum_more pool chosen i k t at = ap (λ n. sum_at pool (take n chosen) t) (add-one i) ∙ sum_suc pool chosen i k t at

pub record ChosenAt (deadline : ℕ) (pool : List (List ℕ)) (k : ℕ) : Type 0 where
  pub within : k < length pool
  pub long : deadline ≤ length (slice_index_or pool k [])

pub chosen_at : (deadline : ℕ) (pool : List (List ℕ)) (chosen : List ℕ) (i k : ℕ) → AreChosen deadline pool chosen → slice_get chosen i ≡ Some k → ChosenAt deadline pool k
chosen_at deadline pool [] i k h at = absurd (none-some k at)
chosen_at deadline pool (x ∷ chosen) zero k h at = subst (λ (y : ℕ). ChosenAt deadline pool y) (same_Some x k at) (record { within = h.0; long = h.1 })
chosen_at deadline pool (x ∷ chosen) (suc i) k h at = chosen_at deadline pool chosen i k h.2 at

-- no time before t passes, and t, where it doesn't pass, is followed by none up to its sum
pub none_more : (wcet deadline : ℕ) (pool : List (List ℕ)) (chosen : List ℕ) (t : ℕ) → ((s : ℕ) → t ≤ s → s ≤ deadline → sum_at pool chosen t ≤ sum_at pool chosen s)
    → ((s : ℕ) → Passes wcet deadline pool chosen s → t ≤ s) → (s : ℕ) → t < wcet + sum_at pool chosen t → Passes wcet deadline pool chosen s → wcet + sum_at pool chosen t ≤ s
none_more wcet deadline pool chosen t rises before s fails p =
    let from : t ≤ s = before s p in
    let to : s ≤ deadline = p.to in
    let up : sum_at pool chosen t ≤ sum_at pool chosen s = rises s from to in
    let q : wcet + sum_at pool chosen s ≤ s = p.passes in
    omega arith

chosen_suc : (deadline : ℕ) (pool : List (List ℕ)) (chosen : List ℕ) (i k : ℕ) → AreChosen deadline pool (take i chosen) → slice_get chosen i ≡ Some k
    → ChosenAt deadline pool k → AreChosen deadline pool (take (suc i) chosen)
chosen_suc deadline pool [] i k h at c = absurd (none-some k at)
chosen_suc deadline pool (x ∷ chosen) zero k h at c = let d : ChosenAt deadline pool x = subst (λ (y : ℕ). ChosenAt deadline pool y) (sym (same_Some x k at)) c in (d.within, d.long, tt)
chosen_suc deadline pool (x ∷ chosen) (suc i) k h at c = (h.0, h.1, chosen_suc deadline pool chosen i k h.2 at c)

-- one more number that names a function
pub chosen_more : (deadline : ℕ) (pool : List (List ℕ)) (chosen : List ℕ) (i k : ℕ) → AreChosen deadline pool (take i chosen) → slice_get chosen i ≡ Some k
    → ChosenAt deadline pool k → AreChosen deadline pool (take (i + 1) chosen)
chosen_more deadline pool chosen i k h at c = subst (λ (n : ℕ). AreChosen deadline pool (take n chosen)) (sym (add-one i)) (chosen_suc deadline pool chosen i k h at c)
