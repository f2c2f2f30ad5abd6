-- Trees that stand in a forest: what is under them, and their pairs in order.
use Rattle.std.proofs.Common.{◌≡◌, ℕ, zero, suc, ◌+◌, ◌-◌, ◌<◌, ◌≤◌, ◌⊎◌, inl, inr, Bool, true, false, cond, Some, List, [], ◌∷◌, ◌++◌, map, refl, sym, ap, ◌∙◌, subst, arith}
use Rattle.std.specs.Prelude.{nat_le, nat_lt, ◌==◌, count_by}
use Rattle.std.specs.List.{range_with_len}
use Rattle.std.proofs.lemmas.Bool.{cases_lt}
use Rattle.std.proofs.lemmas.Bool.Decides.{nat_tests}
use Rattle.std.proofs.lemmas.List.{map-append}
use Rattle.std.proofs.lemmas.List.Sums.{sum_by-append, sum_by_push}
use Rattle.std.proofs.lemmas.Option.{none-some, same_Some}
use Rattle.drt_tree.specs.Shape.{Shape, one, two, parts, pairs, root_of, Stands}
use Rattle.drt_tree.specs.Tree.{Plain, LeadsToLeaf, children}
use Rattle.drt_claims.specs.Trees.{named}
use Rattle.drt_claims.specs.declared.evidence.Pair.{Pair}
use Rattle.drt_sp.specs.TaskTrees.{pair_of, pairs_from}

-- Each tree has one leaf more than pairs.
pub parts_pairs : (s : Shape) → parts s ≡ pairs s + 1
parts_pairs one = refl
parts_pairs (two l r) = let a = parts_pairs l in let b = parts_pairs r in omega (arith, a, b)

-- The root is the last node of the tree, where its pairs come right after its leaves.
pub root_last : (s : Shape) (low : ℕ) → root_of s low (low + parts s) + 1 ≡ low + parts s + pairs s
root_last one low = omega arith
root_last (two l r) low = omega arith

-- What leads from the root to a leaf leads to one of the tree's.
pub under_range : (f : Plain) (s : Shape) (low first : ℕ) → Stands f s low first → (turns : List Bool) (leaf : ℕ) → LeadsToLeaf f (root_of s low first) turns leaf
    → (low ≤ leaf) × (leaf < low + parts s)
under_range f one low first st [] leaf h = let e = h.0 in (omega (arith, e), omega (arith, e))
under_range f one low first st (b ∷ turns) leaf h = let p : ℕ × ℕ = (h.0, h.1) in absurd (none-some p (sym st.1 ∙ h.2))
under_range f (two l r) low first st [] leaf h = let p : ℕ × ℕ = (root_of l low first, root_of r (low + parts l) (first + pairs l)) in absurd (none-some p (sym h.1 ∙ st.2))
under_range f (two l r) low first st (b ∷ turns) leaf h =
    let p : ℕ × ℕ = (root_of l low first, root_of r (low + parts l) (first + pairs l)) in
    let q : ℕ × ℕ = (h.0, h.1) in
    let same : p ≡ q = same_Some p q (sym st.2 ∙ h.2) in
    go b (λ k. under_range f l low first st.0 turns leaf k) (λ k. under_range f r (low + parts l) (first + pairs l) st.1 turns leaf k)
    (subst (λ (z : ℕ × ℕ). LeadsToLeaf f (cond b z.0 z.1) turns leaf) (sym same) h.3)
  where
    go : (c : Bool) → (LeadsToLeaf f (root_of l low first) turns leaf → (low ≤ leaf) × (leaf < low + parts l))
        → (LeadsToLeaf f (root_of r (low + parts l) (first + pairs l)) turns leaf → (low + parts l ≤ leaf) × (leaf < low + parts l + parts r))
        → LeadsToLeaf f (cond c (root_of l low first) (root_of r (low + parts l) (first + pairs l))) turns leaf → (low ≤ leaf) × (leaf < low + (parts l + parts r))
    go true left right k = let i = left k in let x = i.0 in let y = i.1 in (x, omega (arith, y))
    go false left right k = let i = right k in let x = i.0 in let y = i.1 in (omega (arith, x), omega (arith, y))

-- Each leaf of the tree is under its root.
pub under_all : (f : Plain) (s : Shape) (low first : ℕ) → Stands f s low first → (leaf : ℕ) → low ≤ leaf → leaf < low + parts s → (turns : List Bool) × LeadsToLeaf f (root_of s low first) turns leaf
under_all f one low first st leaf from to =
    let e : low ≡ leaf = omega (arith, from, to) in
    ([], (e, st.1))
under_all f (two l r) low first st leaf from to =
    go (λ c. under_all f l low first st.0 leaf from c) (λ c. under_all f r (low + parts l) (first + pairs l) st.1 leaf c (omega (arith, to))) (cases_lt leaf (low + parts l))
  where
    go : (leaf < low + parts l → (turns : List Bool) × LeadsToLeaf f (root_of l low first) turns leaf)
        → (low + parts l ≤ leaf → (turns : List Bool) × LeadsToLeaf f (root_of r (low + parts l) (first + pairs l)) turns leaf)
        → (leaf < low + parts l) ⊎ (low + parts l ≤ leaf) → (turns : List Bool) × LeadsToLeaf f (first + pairs l + pairs r) turns leaf
    go left right (inl c) = let u = left c in (true ∷ u.0, (root_of l low first, root_of r (low + parts l) (first + pairs l), st.2, u.1))
    go left right (inr c) = let u = right c in (false ∷ u.0, (root_of l low first, root_of r (low + parts l) (first + pairs l), st.2, u.1))

-- The root is one of the tree's nodes.
root_from : (s : Shape) (low first base : ℕ) → base ≤ low → base ≤ first → base ≤ root_of s low first
root_from one low first base a b = a
root_from (two l r) low first base a b = omega (arith, b)

-- Each node from first on is a pair of two nodes that have numbers from low on.
pub record HasKids (f : Plain) (low n : ℕ) : Type 0 where
  pub left : ℕ
  pub right : ℕ
  pub children : children f n ≡ Some (left, right)
  pub left_from : low ≤ left
  pub right_from : low ≤ right

pub kids : (f : Plain) (s : Shape) (low first base : ℕ) → Stands f s low first → base ≤ low → base ≤ first → (n : ℕ) → first ≤ n → n < first + pairs s → HasKids f base n
kids f one low first base st a b n from to = absurd (omega (arith, from, to))
kids f (two l r) low first base st a b n from to =
    go (λ c. kids f l low first base st.0 a b n from c) (λ c d. kids f r (low + parts l) (first + pairs l) base st.1 (omega (arith, a)) (omega (arith, b)) n c d)
    (cases_lt n (first + pairs l)) (cases_lt n ((first + pairs l) + pairs r))
  where
    last : (first + pairs l) + pairs r ≤ n → HasKids f base n
    last d =
        let e : first + pairs l + pairs r ≡ n = omega (arith, d, to) in
        record {
          left = root_of l low first;
          right = root_of r (low + parts l) (first + pairs l);
          children = ap (λ k. children f k) (sym e) ∙ st.2;
          left_from = root_from l low first base a b;
          right_from = root_from r (low + parts l) (first + pairs l) base (omega (arith, a)) (omega (arith, b));
        }

    go : (n < first + pairs l → HasKids f base n) → (first + pairs l ≤ n → n < (first + pairs l) + pairs r → HasKids f base n) → (n < first + pairs l) ⊎ (first + pairs l ≤ n)
        → (n < (first + pairs l) + pairs r) ⊎ ((first + pairs l) + pairs r ≤ n) → HasKids f base n
    go left right (inl c) d = left c
    go left right (inr c) (inl d) = right c d
    go left right (inr c) (inr d) = last d

-- The pairs of a tree in order.
unfoldable pub pairs_of : Shape → ℕ → ℕ → List Pair
pairs_of one low first = []
pairs_of (two l r) low first =
    let last : Pair = record { left = root_of l low first; right = root_of r (low + parts l) (first + pairs l) } in
    pairs_of l low first ++ (pairs_of r (low + parts l) (first + pairs l) ++ last ∷ [])

range_both : (a m n : ℕ) → range_with_len a (m + n) ≡ range_with_len a m ++ range_with_len (a + m) n
range_both a zero n = ap (λ k. range_with_len a k) (let e : zero + n ≡ n = omega arith in e) ∙ ap (λ k. range_with_len k n) (let e : a ≡ a + zero = omega arith in e)
range_both a (suc m) n =
    ap (λ k. range_with_len a k) (let e : suc m + n ≡ suc (m + n) = omega arith in e)
    ∙ (ap (λ ks. a ∷ ks) (range_both (a + 1) m n)
    ∙ ap (λ k. a ∷ (range_with_len (a + 1) m ++ range_with_len k n)) (let e : a + 1 + m ≡ a + suc m = omega arith in e))

-- A root as many numbers higher.
root_higher : (s : Shape) (base low first a b : ℕ) → a ≡ base + low → b ≡ base + first → root_of s a b ≡ base + root_of s low first
root_higher one base low first a b p q = p
root_higher (two l r) base low first a b p q = omega (arith, q)

pair_is : (f : Plain) (base n l r x y : ℕ) → children f n ≡ Some (l, r) → l ≡ base + x → r ≡ base + y → ◌≡◌ {A = Pair} (pair_of base (children f n)) (record { left = x; right = y })
pair_is f base n l r x y h p q =
    ap (λ o. pair_of base o) h
    ∙ (ap (λ k. record { left = k; right = r - base }) (let e : l - base ≡ x = omega (arith, p) in e)
    ∙ ap (λ k. record { left = x; right = k }) (let e : r - base ≡ y = omega (arith, q) in e))

-- The nodes of the tree's pairs, numbered from base on, are its pairs in order.
pub pairs_stand : (f : Plain) (s : Shape) (base low first a b : ℕ) → a ≡ base + low → b ≡ base + first → Stands f s a b → pairs_from f base b (pairs s) ≡ pairs_of s low first
unfolding pairs_of
pairs_stand f one base low first a b p q st = refl
pairs_stand f (two l r) base low first a b p q st =
    let g : ℕ → Pair = λ k. pair_of base (children f k) in
    let left = pairs_stand f l base low first a b p q st.0 in
    let right = pairs_stand f r base (low + parts l) (first + pairs l) (a + parts l) (b + pairs l) (omega (arith, p)) (omega (arith, q)) st.1 in
    let last : g (b + pairs l + pairs r) ≡ record { left = root_of l low first; right = root_of r (low + parts l) (first + pairs l) } =
    pair_is f base (b + pairs l + pairs r) (root_of l a b) (root_of r (a + parts l) (b + pairs l)) (root_of l low first) (root_of r (low + parts l) (first + pairs l)) st.2
    (root_higher l base low first a b p q) (root_higher r base (low + parts l) (first + pairs l) (a + parts l) (b + pairs l) (omega (arith, p)) (omega (arith, q))) in
    ap (λ k. map g (range_with_len b k)) (let e : pairs l + pairs r + 1 ≡ pairs l + (pairs r + 1) = omega arith in e)
    ∙ (ap (λ ks. map g ks) (range_both b (pairs l) (pairs r + 1))
    ∙ (map-append g (range_with_len b (pairs l)) (range_with_len (b + pairs l) (pairs r + 1))
    ∙ (ap (λ xs. xs ++ map g (range_with_len (b + pairs l) (pairs r + 1))) left
    ∙ ap (λ xs. pairs_of l low first ++ xs)
    (ap (λ ks. map g ks) (range_both (b + pairs l) (pairs r) 1)
    ∙ (map-append g (range_with_len (b + pairs l) (pairs r)) ((b + pairs l + pairs r) ∷ [])
    ∙ (ap (λ xs. xs ++ g (b + pairs l + pairs r) ∷ []) right
    ∙ ap (λ x. pairs_of r (low + parts l) (first + pairs l) ++ x ∷ []) last))))))

-- How often a number is that of a node of the tree.
has : Shape → ℕ → ℕ → ℕ → ℕ
has one low first k = cond (low == k) 1 0
has (two l r) low first k = has l low first k + has r (low + parts l) (first + pairs l) k + cond (first + pairs l + pairs r == k) 1 0

count_both : {A : Type 0} (p : A → Bool) (xs ys : List A) (y : A) → count_by p (xs ++ (ys ++ y ∷ [])) ≡ count_by p xs + count_by p ys + cond (p y) 1 0
count_both p xs ys y =
    let a = sum_by-append (λ x. cond (p x) 1 0) xs (ys ++ y ∷ []) in
    let b = sum_by_push (λ x. cond (p x) 1 0) ys y in
    omega (arith, a, b)

-- The pairs name each node of the tree but its root.
named_has : (s : Shape) (low first k : ℕ) → named (pairs_of s low first) k + cond (root_of s low first == k) 1 0 ≡ has s low first k
unfolding pairs_of has
named_has one low first k = omega arith
named_has (two l r) low first k =
    let a = named_has l low first k in
    let b = named_has r (low + parts l) (first + pairs l) k in
    let p : Pair = record { left = root_of l low first; right = root_of r (low + parts l) (first + pairs l) } in
    let c = count_both (λ (p : Pair). p.left == k) (pairs_of l low first) (pairs_of r (low + parts l) (first + pairs l)) p in
    let d = count_both (λ (p : Pair). p.right == k) (pairs_of l low first) (pairs_of r (low + parts l) (first + pairs l)) p in
    omega (arith, a, b, c, d)

-- 1 where the number is one of n from a on, and else 0.
abbrev within : ℕ → ℕ → ℕ → ℕ
within a n k = cond (nat_le a k) (cond (nat_lt k (a + n)) 1 0) 0

within_none : (a k : ℕ) → within a 0 k ≡ 0
within_none a k = grind (arith, nat_tests)

within_one : (a k : ℕ) → cond (a == k) 1 0 ≡ within a 1 k
within_one a k = grind (arith, nat_tests)

within_both : (a m n k : ℕ) → within a (m + n) k ≡ within a m k + within (a + m) n k
within_both a m n k = grind (arith, nat_tests)

within_here : (a n k : ℕ) → a ≤ k → k < a + n → within a n k ≡ 1
within_here a n k l m = grind (arith, nat_tests)

-- The nodes are the leaves from low on and the pairs from first on.
has_is : (s : Shape) (low first k : ℕ) → has s low first k ≡ within low (parts s) k + within first (pairs s) k
unfolding has
has_is one low first k = let a = within_one low k in let b = within_none first k in omega (arith, a, b)
has_is (two l r) low first k =
    let a = has_is l low first k in
    let b = has_is r (low + parts l) (first + pairs l) k in
    let c = within_one (first + pairs l + pairs r) k in
    let d = within_both low (parts l) (parts r) k in
    let e = within_both first (pairs l) (pairs r + 1) k in
    let f = within_both (first + pairs l) (pairs r) 1 k in
    let h : pairs l + pairs r + 1 ≡ pairs l + (pairs r + 1) = omega arith in
    let g : within first (pairs l + pairs r + 1) k ≡ within first (pairs l + (pairs r + 1)) k = ap (λ n. within first n k) h in
    omega (arith, a, b, c, d, e, f, g)

-- Where the pairs come right after the leaves, each node but the last one is named exactly once.
pub named_once : (s : Shape) (k : ℕ) → k + 1 < parts s + pairs s → named (pairs_of s 0 (parts s)) k ≡ 1
named_once s k l =
    let a = named_has s 0 (parts s) k in
    let b = has_is s 0 (parts s) k in
    let c = within_both 0 (parts s) (pairs s) k in
    let d = within_here 0 (parts s + pairs s) k (omega arith) (omega (arith, l)) in
    let z : within (0 + parts s) (pairs s) k ≡ within (parts s) (pairs s) k = ap (λ n. within n (pairs s) k) (let e : 0 + parts s ≡ parts s = omega arith in e) in
    let last = root_last s 0 in
    let y : root_of s 0 (0 + parts s) ≡ root_of s 0 (parts s) = ap (λ n. root_of s 0 n) (let e : 0 + parts s ≡ parts s = omega arith in e) in
    let other : (root_of s 0 (parts s) ≡ k) → ⊥ = λ e. omega (arith, e, l, last, y) in
    let n : ◌≡◌ {A = ℕ} (cond (root_of s 0 (parts s) == k) 1 0) 0 = grind (arith, nat_tests) in
    omega (arith, a, b, c, d, z, n)
