-- Calls that fail by number.
use Rattle.std.proofs.Common.{◌≡◌, ℕ, suc, ◌<◌, ◌==◌, List, [], ◌∷◌, false, refl, arith, get_or}
use Rattle.std.proofs.lemmas.Bool.Decides.{nat_tests}
use Rattle.std.specs.List.{list_any}

test_other : (x n : ℕ) → x < n → (x == n) ≡ false
test_other x n h = grind (arith, nat_tests)

-- a number above all of the list is not in it
pub none_above : (xs : List ℕ) (n : ℕ) → ((i : ℕ) → get_or xs i 0 < n) → list_any (λ k. k == n) xs ≡ false
none_above [] n h = refl
none_above (x ∷ xs) n h =
    let here : (x == n) ≡ false = test_other x n (h 0) in
    rw here (none_above xs n (λ i. h (suc i)))
