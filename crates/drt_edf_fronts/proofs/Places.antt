-- The place of an entry in a front, which stands in order.
use Rattle.std.proofs.Common.{◌≡◌, ℕ, zero, suc, ◌+◌, ◌-◌, ◌<◌, ◌≤◌, ◌⊎◌, inl, inr, Bool, true, false, List, length, get_or, sym, ap, ◌∙◌, subst, arith}
use Rattle.std.specs.Prelude.{◌↔◌, IsTrue, AllPairs, Contains}
use Rattle.std.specs.List.Sorted.{IsPartitionPoint, IsPartitionedBy}
use Rattle.std.proofs.lemmas.Bool.{cases_lt}
use Rattle.std.proofs.lemmas.Bool.Decides.{nat_tests}
use Rattle.std.proofs.lemmas.List.{get_or_default}
use Rattle.drt_graph.specs.FrontEntry.{IsNextEntry}
use Rattle.drt_model.specs.Legal.{AllNeighbours}
use Rattle.drt_graph.specs.declared.front.FrontEntry.{FrontEntry}
use Rattle.drt_edf_fronts.specs.DemandWalk.{is_below}
use Rattle.drt_edf_fronts.specs.Falling.{IsLowerEntry}

lower_on : (x y z : FrontEntry) → IsLowerEntry x y → IsLowerEntry y z → IsLowerEntry x z
lower_on x y z (inl l) (inl m) = inl (omega (arith, l, m))
lower_on x y z (inl l) (inr m) = let e = m.0 in inl (omega (arith, l, e))
lower_on x y z (inr l) (inl m) = let e = l.0 in inl (omega (arith, e, m))
lower_on x y z (inr l) (inr m) = let a = l.1 in let b = m.1 in inr (l.0 ∙ m.0, omega (arith, a, b))

next_lower : (x y : FrontEntry) → IsNextEntry x y → IsLowerEntry x y
next_lower x y (inl l) = inl l
next_lower x y (inr l) = inr (l.0, l.1)

-- Each entry stands below all later ones.
pub ordered_pairs : (front : List FrontEntry) → AllNeighbours IsNextEntry front → AllPairs IsLowerEntry front
ordered_pairs front next i j d l m =
    let e : i + 1 + (j - i - 1) ≡ j = omega (arith, l) in
    subst (λ k. IsLowerEntry (get_or front i d) (get_or front k d)) e (go (j - i - 1) (omega (arith, l, m)))
  where
    go : (k : ℕ) → i + 1 + k < length front → IsLowerEntry (get_or front i d) (get_or front (i + 1 + k) d)
    go zero n =
        let e : i + 1 + 0 ≡ i + 1 = omega arith in
        subst (λ k. IsLowerEntry (get_or front i d) (get_or front k d)) (sym e) (next_lower (get_or front i d) (get_or front (i + 1) d) (next i d (omega (arith, n))))
    go (suc k) n =
        let e : i + 1 + k + 1 ≡ i + 1 + suc k = omega arith in
        let step = next_lower (get_or front (i + 1 + k) d) (get_or front (i + 1 + k + 1) d) (next (i + 1 + k) d (omega (arith, n))) in
        subst (λ h. IsLowerEntry (get_or front i d) (get_or front h d)) e (lower_on (get_or front i d) (get_or front (i + 1 + k) d) (get_or front (i + 1 + k + 1) d) (go k (omega (arith, n))) step)

pub below_true : (x e : FrontEntry) → IsLowerEntry x e → is_below x e.vertex e.offset ≡ true
below_true x e (inl l) = grind (arith, nat_tests)
below_true x e (inr l) = let a = l.0 in let b = l.1 in grind (arith, nat_tests)

not_itself : (e : FrontEntry) → is_below e e.vertex e.offset ≡ true → ⊥
not_itself e t = grind (arith, nat_tests)

below_on : (x y : FrontEntry) (v o : ℕ) → IsLowerEntry x y → is_below y v o ≡ true → is_below x v o ≡ true
below_on x y v o (inl l) t = grind (arith, nat_tests)
below_on x y v o (inr l) t = let a = l.0 in let b = l.1 in grind (arith, nat_tests)

-- The entries below a place come first.
pub parted : (front : List FrontEntry) (v o : ℕ) → AllNeighbours IsNextEntry front → IsPartitionedBy (λ x. is_below x v o) front
parted front v o next i j d l m t = go (cases_lt i j)
  where
    go : (i < j) ⊎ (j ≤ i) → is_below (get_or front i d) v o ≡ true
    go (inl k) = below_on (get_or front i d) (get_or front j d) v o (ordered_pairs front next i j d k m) t
    go (inr k) =
        let e : j ≡ i = omega (arith, l, k) in
        subst (λ h. is_below (get_or front h d) v o ≡ true) e t

-- An entry of the front stands where those below it end.
pub place_is : (front : List FrontEntry) (e : FrontEntry) (place : ℕ) → AllNeighbours IsNextEntry front
    → IsPartitionPoint (λ x. is_below x e.vertex e.offset ≡ true) (λ x. is_below x e.vertex e.offset ≡ false) front place → Contains front e → (place < length front) × (get_or front place e ≡ e)
place_is front e place next parts c = go (cases_lt c.0 place) (cases_lt place c.0)
  where
    go : (c.0 < place) ⊎ (place ≤ c.0) → (place < c.0) ⊎ (c.0 ≤ place) → (place < length front) × (get_or front place e ≡ e)
    go (inl l) k =
        let t = parts.0 c.0 e (omega arith) l in
        absurd (not_itself e (subst (λ (x : FrontEntry). is_below x e.vertex e.offset ≡ true) c.2 t))
    go (inr l) (inl k) =
        let f = parts.1 place e (omega arith) (let m = c.1 in omega (arith, k, m)) in
        let low : IsLowerEntry (get_or front place e) e = subst (λ (x : FrontEntry). IsLowerEntry (get_or front place e) x) c.2 (ordered_pairs front next place c.0 e k c.1) in
        let t = below_true (get_or front place e) e low in
        absurd (cc)
    go (inr l) (inr k) =
        let same : c.0 ≡ place = omega (arith, l, k) in
        (let m = c.1 in omega (arith, same, m), ap (λ h. get_or front h e) (sym same) ∙ c.2)

-- Whether the entry found at the place is the wanted one tells whether that one stands in the front.
pub entry_found : (front : List FrontEntry) (e f : FrontEntry) (place : ℕ) → place < length front → f ≡ get_or front place f → (Contains front e → (place < length front) × (get_or front place e ≡ e))
    → (b : Bool) → (IsTrue b → f ≡ e) → (f ≡ e → IsTrue b) → IsTrue b ↔ Contains front e
entry_found front e f place l at there b same true_of =
    let here : f ≡ get_or front place e = at ∙ get_or_default front place f e l in
    (λ t. (place, l, sym here ∙ same t), λ has. true_of (here ∙ (there has).1))
