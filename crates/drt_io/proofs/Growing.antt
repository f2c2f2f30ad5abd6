-- What is held grows piece by piece.
use Rattle.std.proofs.Common.{◌∙◌, ◌+◌, ◌-◌, ℕ, List, [], ◌++◌, take, drop, length, sym, ap, subst, append_assoc, append-nil, Option, Some, None}
use Rattle.std.proofs.Math.Seq.{take-add}
use Rattle.std.proofs.lemmas.List.{take_rest}
use Rattle.drt_io.specs.Writing.{GrowsBy}

pub grows_by_none : (a : Option (List ℕ)) → GrowsBy a a []
grows_by_none None = tt
grows_by_none (Some x) = sym (append-nil x)

pub grows_on : (old mid new : Option (List ℕ)) (xs ys : List ℕ) → GrowsBy old mid xs → GrowsBy mid new ys → GrowsBy old new (xs ++ ys)
grows_on None None None xs ys h k = tt
grows_on None None (Some z) xs ys h k = absurd k
grows_on None (Some y) new xs ys h k = absurd h
grows_on (Some x) None None xs ys h k = tt
grows_on (Some x) None (Some z) xs ys h k = absurd k
grows_on (Some x) (Some y) None xs ys h k = tt
grows_on (Some x) (Some y) (Some z) xs ys h k = k ∙ ap (λ t. t ++ ys) h ∙ append_assoc x xs ys

-- the next bytes of xs, as the code lends them
pub grows_rest : (old mid new : Option (List ℕ)) (xs : List ℕ) (a n : ℕ) → GrowsBy old mid (take a xs)
    → GrowsBy mid new (take n (take (length xs - a) (drop a xs))) → GrowsBy old new (take (a + n) xs)
grows_rest old mid new xs a n h k =
    let next : GrowsBy mid new (take n (drop a xs)) = subst (λ rest. GrowsBy mid new (take n rest)) (take_rest xs a) k in
    subst (GrowsBy old new) (sym (take-add a n xs)) (grows_on old mid new _ _ h next)
