-- The value at the bound.
use Rattle.std.proofs.Common.{◌≡◌, ℕ, suc, zero, ◌-◌, ◌<◌, ◌≤◌, false, List, [], ◌∷◌, length, replicate, refl, sym, ap, ◌∙◌, arith}
use Rattle.std.specs.Prelude.{nat_le, ◌==◌, ◌&&◌, slice_index}
use Rattle.std.proofs.lemmas.List.{length-replicate}
use Rattle.drt_steps.specs.Values.{covers, value_at}
use Rattle.drt_steps.proofs.Merging.{and_false, not_le}
use Rattle.drt_request.specs.Request.{Request, request_dominates}
use Rattle.drt_request.proofs.Walks.{at_flat}

below_last : (xs ys : List ℕ) (i j : ℕ) → length xs ≡ suc i → length ys ≡ suc j → slice_index xs i < slice_index ys j → covers xs ys ≡ false
below_last [] ys i j own others less = absurd (omega (arith, own))
below_last (x ∷ xs) [] i j own others less = refl
below_last (x ∷ xs) (y ∷ ys) zero zero own others less = ap (λ b. b && covers xs ys) (not_le y x less)
below_last (x ∷ []) (y ∷ []) zero (suc j) own others less = absurd (omega (arith, others))
below_last (x ∷ []) (y ∷ z ∷ ys) zero (suc j) own others less = and_false (nat_le y x)
below_last (x ∷ z ∷ xs) (y ∷ ys) zero (suc j) own others less = absurd (omega (arith, own))
below_last (x ∷ []) (y ∷ ys) (suc i) zero own others less = absurd (omega (arith, own))
below_last (x ∷ z ∷ xs) (y ∷ []) (suc i) zero own others less = and_false (nat_le y x)
below_last (x ∷ z ∷ xs) (y ∷ a ∷ ys) (suc i) zero own others less = absurd (omega (arith, others))
below_last (x ∷ xs) (y ∷ ys) (suc i) (suc j) own others less =
    ap (λ r. nat_le y x && r) (below_last xs ys i j (omega (arith, own)) (omega (arith, others)) less) ∙ and_false (nat_le y x)

-- a function whose value at the bound is less doesn't cover the other one
pub below_total : (xs ys : List ℕ) → value_at xs (length xs) < value_at ys (length ys) → covers xs ys ≡ false
unfolding value_at
below_total [] [] less = absurd (omega (arith, less))
below_total [] (y ∷ ys) less = refl
below_total (x ∷ xs) [] less = refl
below_total (x ∷ xs) (y ∷ ys) less = below_last (x ∷ xs) (y ∷ ys) (length (x ∷ xs) - 1) (length (y ∷ ys) - 1) (omega arith) (omega arith) less

pub flat_total : (n v : ℕ) → 1 ≤ n → v ≡ value_at (replicate n v) (length (replicate n v))
unfolding value_at
flat_total n v from =
    let l : length (replicate n v) ≡ n = length-replicate n v in
    sym (at_flat n v (length (replicate n v) - 1) (omega (arith, from, l)))

-- so its label doesn't dominate the other one's
pub below_label : (x y : Request) → value_at x.values (length x.values) < value_at y.values (length y.values) → false ≡ request_dominates x y
below_label x y less = sym (
    ap (λ r. (x.vertex == y.vertex) && (nat_le x.offset y.offset && r)) (below_total x.values y.values less)
    ∙ (ap (λ r. (x.vertex == y.vertex) && r) (and_false (nat_le x.offset y.offset)) ∙ and_false (x.vertex == y.vertex)))
