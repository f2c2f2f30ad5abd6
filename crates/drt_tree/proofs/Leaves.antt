-- The order of leaves.
use Rattle.std.proofs.Common.{◌≡◌, ℕ, suc, zero, ◌+◌, List, [], ◌∷◌, ◌++◌, length, take, reverse, refl, sym, ap, ◌∙◌, arith, add-one, Some}
use Rattle.std.specs.Prelude.{slice_get}
use Rattle.std.specs.Ordering.{nat_cmp, ordering_then}
use Rattle.std.specs.Cmp.Lexicographic.{slice_cmp}
use Rattle.std.specs.declared.cmp.Ordering.{Ordering}
use Rattle.std.specs.declared.cmp.Ordering.TheVariants.{Less, Equal, Greater}
use Rattle.std.specs.declared.sync.Arc.{Arc}
use Rattle.std.proofs.lemmas.Option.{none-some, same_Some}
use Rattle.std.proofs.lemmas.Bool.Decides.{nat_tests}
use Rattle.std.proofs.lemmas.List.{length-reverse}
use Rattle.drt_request.specs.Request.{Request}
use Rattle.drt_tree.specs.declared.leaf.Leaf.{Leaf}
use Rattle.drt_tree.specs.Leaf.{leaf_cmp, leaves_of}

then_assoc : (a b c : Ordering) → ordering_then (ordering_then a b) c ≡ ordering_then a (ordering_then b c)
then_assoc Less b c = refl
then_assoc Equal b c = refl
then_assoc Greater b c = refl

front_cmp : (xs ys vs ws : List ℕ) → length xs ≡ length ys → slice_cmp nat_cmp (xs ++ vs) (ys ++ ws) ≡ ordering_then (slice_cmp nat_cmp xs ys) (slice_cmp nat_cmp vs ws)
front_cmp [] [] vs ws e = refl
front_cmp [] (y ∷ ys) vs ws e = absurd (let h : 0 ≡ length ys + 1 = omega arith in omega arith)
front_cmp (x ∷ xs) [] vs ws e = absurd (let h : length xs + 1 ≡ 0 = omega arith in omega arith)
front_cmp (x ∷ xs) (y ∷ ys) vs ws e =
    ap (λ o. ordering_then (nat_cmp x y) o) (front_cmp xs ys vs ws (omega arith)) ∙ sym (then_assoc (nat_cmp x y) (slice_cmp nat_cmp xs ys) (slice_cmp nat_cmp vs ws))

leaves_suc : {Z : Type 0} (labels : List (Arc Request Z)) (walks : List (List ℕ)) (i : ℕ) (l : Arc Request Z) (w : List ℕ) → slice_get labels i ≡ Some l
    → slice_get walks i ≡ Some w → leaves_of (take (suc i) labels) (take (suc i) walks) ≡ leaves_of (take i labels) (take i walks) ++ record { steps = l.value.values; walk = w } ∷ []
leaves_suc [] walks i l w at at2 = absurd (none-some l at)
leaves_suc (x ∷ labels) [] i l w at at2 = absurd (none-some w at2)
leaves_suc (x ∷ labels) (y ∷ walks) zero l w at at2 =
    ap (λ (z : Arc Request _). record { steps = z.value.values; walk = y } ∷ []) (same_Some x l at) ∙ ap (λ z. record { steps = l.value.values; walk = z } ∷ []) (same_Some y w at2)
leaves_suc (x ∷ labels) (y ∷ walks) (suc i) l w at at2 = ap (λ ls. record { steps = x.value.values; walk = y } ∷ ls) (leaves_suc labels walks i l w at at2)

pub leaves_more : {Z : Type 0} (labels : List (Arc Request Z)) (walks : List (List ℕ)) (i : ℕ) (l : Arc Request Z) (w : List ℕ) → slice_get labels i ≡ Some l
    → slice_get walks i ≡ Some w → leaves_of (take (i + 1) labels) (take (i + 1) walks) ≡ leaves_of (take i labels) (take i walks) ++ record { steps = l.value.values; walk = w } ∷ []
leaves_more labels walks i l w at at2 = ap (λ k. leaves_of (take k labels) (take k walks)) (add-one i) ∙ leaves_suc labels walks i l w at at2

cmp_same : (a b : ℕ) → a ≡ b → nat_cmp a b ≡ Equal
cmp_same a b e = grind (arith, nat_tests)

then_equal : (r o : Ordering) → r ≡ Equal → ordering_then r o ≡ o
then_equal r o e = ap (λ z. ordering_then z o) e

pub then_at : (r o : Ordering) → (r ≡ Equal → ⊥) → ordering_then r o ≡ r
then_at Less o ne = refl
then_at Equal o ne = absurd (ne refl)
then_at Greater o ne = refl

-- at one bound the functions decide from the bound down, and then the walks
pub key_cmp : (x y : Leaf) → length x.steps ≡ length y.steps → leaf_cmp x y ≡ ordering_then (slice_cmp nat_cmp (reverse x.steps) (reverse y.steps)) (slice_cmp nat_cmp x.walk y.walk)
key_cmp x y e =
    then_equal (nat_cmp (length x.steps) (length y.steps)) (slice_cmp nat_cmp (reverse x.steps ++ x.walk) (reverse y.steps ++ y.walk)) (cmp_same (length x.steps) (length y.steps) e)
    ∙ front_cmp (reverse x.steps) (reverse y.steps) x.walk y.walk (length-reverse x.steps ∙ (e ∙ sym (length-reverse y.steps)))
