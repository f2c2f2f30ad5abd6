-- A slice that was lent whole.
use Rattle.std.proofs.Common.{◌≡◌, ℕ, List, ◌++◌, length, take, drop, arith}
use Rattle.std.proofs.lemmas.Grind.{common_steps}

pub whole : {A : Type 0} (xs ys : List A) (n : ℕ) → length ys ≡ length xs → n ≡ length xs → take n (ys ++ drop (length ys) xs) ≡ ys
whole xs ys n same all = grind (arith, common_steps)
