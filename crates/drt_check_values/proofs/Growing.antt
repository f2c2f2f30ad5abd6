-- What the nodes of a tree have, where a pair has what its two parts have, joined.
use Rattle.std.proofs.Common.{◌≡◌, ℕ, zero, suc, ◌+◌, ◌-◌, ◌<◌, ◌≤◌, List, [], ◌∷◌, ◌++◌, length, get_or, ◌⊎◌, inl, inr, refl, sym, ap, arith, ◌∙◌}
use Rattle.std.specs.Prelude.{max}
use Rattle.std.proofs.lemmas.Bool.{cases_lt}
use Rattle.std.proofs.lemmas.List.{length_push, get_or_push, get_or_append_left}
use Rattle.drt_claims.specs.declared.evidence.Pair.{Pair}
use Rattle.drt_claims.specs.Trees.{joined}
use Rattle.drt_check_values.specs.Leaves.{grown_items}

-- What stands for a pair past the last one.
abbrev pub no_pair : Pair
no_pair = record { left = 0; right = 0 }

-- The parts of the pairs that follow n nodes come before them.
pub record HasParts (n : ℕ) (pairs : List Pair) : Type 0 where
  pub left : (i : ℕ) → i < length pairs → (get_or pairs i no_pair).left < n + i
  pub right : (i : ℕ) → i < length pairs → (get_or pairs i no_pair).right < n + i

parts_after : (n : ℕ) (p : Pair) (pairs : List Pair) → HasParts n (p ∷ pairs) → HasParts (n + 1) pairs
parts_after n p pairs has = record {
  left = λ i l. (let h = has.left (suc i) (omega arith) in omega (arith, h));
  right = λ i l. (let h = has.right (suc i) (omega arith) in omega (arith, h));
}

-- Nodes that follow the rule: those of the list, and then pairs.
pub record IsGrown {A : Type 0} (none : A) (join : A → A → A) (items : List A) (pairs : List Pair) (all : List A) : Type 0 where
  pub count : length all ≡ length items + length pairs
  pub items_kept : (k : ℕ) → k < length items → get_or all k none ≡ get_or items k none
  pub joins : (i : ℕ) → i < length pairs
      → get_or all (length items + i) none ≡ join (get_or all (get_or pairs i no_pair).left none) (get_or all (get_or pairs i no_pair).right none)

-- One pair more before the others.
grown_step : {A : Type 0} (none : A) (join : A → A → A) (items : List A) (p : Pair) (pairs : List Pair) (all : List A) → HasParts (length items) (p ∷ pairs)
    → IsGrown none join (items ++ join (get_or items p.left none) (get_or items p.right none) ∷ []) pairs all → IsGrown none join items (p ∷ pairs) all
grown_step {A} none join items p pairs all has is = record {
  count = (let c = is.count in omega (arith, c, more));
  items_kept = old;
  joins = go;
}
  where
    new : A
    new = join (get_or items p.left none) (get_or items p.right none)

    more : length (items ++ new ∷ []) ≡ length items + 1
    more = length_push items new

    old : (k : ℕ) → k < length items → get_or all k none ≡ get_or items k none
    old k l = is.items_kept k (omega (arith, more, l)) ∙ get_or_append_left items (new ∷ []) none k l

    go : (i : ℕ) → i < length (p ∷ pairs)
        → get_or all (length items + i) none ≡ join (get_or all (get_or (p ∷ pairs) i no_pair).left none) (get_or all (get_or (p ∷ pairs) i no_pair).right none)
    go zero l =
        let a = old p.left (let h = has.left 0 l in omega (arith, h)) in
        let b = old p.right (let h = has.right 0 l in omega (arith, h)) in
        let e : length items + 0 ≡ length items = omega arith in
        rw e (is.items_kept (length items) (omega (arith, more)) ∙ (get_or_push items new none (length items) refl ∙ sym (ap (λ x. join x (get_or all p.right none)) a ∙ ap (λ x. join
        (get_or items p.left none) x) b)))
    go (suc i) l =
        let e : length items + suc i ≡ length (items ++ new ∷ []) + i = omega (arith, more) in
        rw e (is.joins i (omega arith))

pub grown_is : {A : Type 0} (none : A) (join : A → A → A) (items : List A) (pairs : List Pair) → HasParts (length items) pairs → IsGrown none join items pairs (grown_items none join items pairs)
unfolding grown_items
grown_is {A} none join items [] has = record { count = omega arith; items_kept = λ k l. refl; joins = λ i l. absurd (omega arith) }
grown_is {A} none join items (p ∷ pairs) has =
    let more = length_push items (join (get_or items p.left none) (get_or items p.right none)) in
    grown_step none join items p pairs _ has
    (grown_is none join (items ++ join (get_or items p.left none) (get_or items p.right none) ∷ []) pairs (rw more (parts_after (length items) p pairs has)))

-- Joining by greatest values is such a growth.
pub joined_grown : (values : List ℕ) (pairs : List Pair) → joined values pairs ≡ grown_items 0 (λ x y. max x y) values pairs
unfolding joined grown_items
joined_grown values [] = refl
joined_grown values (p ∷ pairs) = joined_grown (values ++ max (get_or values p.left 0) (get_or values p.right 0) ∷ []) pairs

-- What holds of the first nodes and passes from two parts to their pair holds of all nodes.
pub each_node : (n : ℕ) (pairs : List Pair) (P : ℕ → Type 0) → HasParts n pairs → ((k : ℕ) → k < n → P k)
    → ((i : ℕ) → i < length pairs → P (get_or pairs i no_pair).left → P (get_or pairs i no_pair).right → P (n + i))
    → (k : ℕ) → k < n + length pairs → P k
each_node n pairs P has first next k l = below (suc k) k (omega arith) l
  where
    step : (k : ℕ) → k < n + length pairs → ((j : ℕ) → j < k → P j) → (k < n) ⊎ (n ≤ k) → P k
    step k l lower (inl q) = first k q
    step k l lower (inr q) =
        let at : n + (k - n) ≡ k = omega arith in
        let i : k - n < length pairs = omega arith in
        let a = has.left (k - n) i in
        let b = has.right (k - n) i in
        let here = next (k - n) i (lower (get_or pairs (k - n) no_pair).left (omega (arith, a))) (lower (get_or pairs (k - n) no_pair).right (omega (arith, b))) in
        rw at at here

    below : (m k : ℕ) → k < m → k < n + length pairs → P k
    below zero k p l = absurd (omega arith)
    below (suc m) k p l = step k l (λ j q. below m j (omega arith) (omega arith)) (cases_lt k n)
