-- The total of a list that is one longer.
use Rattle.std.proofs.Common.{◌≡◌, ℕ, ◌+◌, List, [], ◌∷◌, ◌++◌, ap, arith}
use Rattle.drt_worklist.specs.Places.{total}
use Rattle.drt_worklist.proofs.Lists.{total_join}

pub total_last : {X : Type 0} (f : X → ℕ) (xs ys : List X) (x : X) → ys ≡ xs ++ x ∷ [] → total f ys ≡ total f xs + f x
total_last f xs ys x e = omega (arith, ap (total f) e, total_join f xs (x ∷ []))
