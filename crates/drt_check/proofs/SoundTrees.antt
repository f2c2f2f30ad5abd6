-- The leaves under the nodes of a claimed tree: all are under its root, a leaf under a pair is under one of its parts, and a node's value
-- is at least that of each leaf under it.
use Rattle.std.proofs.Common.{◌≡◌, ℕ, zero, suc, ◌+◌, ◌-◌, ◌<◌, ◌≤◌, ◌⊎◌, inl, inr, Bool, true, false, cond, max, None, Some, List, [], ◌∷◌, ◌++◌, length}
use Rattle.std.proofs.Common.{map, refl, sym, ap, ◌∙◌, subst, arith}
use Rattle.std.specs.Prelude.{Option, count_by, nat_lt, ◌==◌, slice_get, slice_index_or}
use Rattle.std.proofs.lemmas.Bool.{cases_lt, eqb-true, le-ltb, lt-ltb}
use Rattle.std.proofs.lemmas.List.{get_or-map, get_or_append_left, get_or_at, length-append, length-map}
use Rattle.std.proofs.lemmas.List.Sums.{sum_by-cons}
use Rattle.std.proofs.lemmas.Option.{none-some, same_Some, slice_get_within}
use Rattle.drt_model.specs.Digraph.{Digraph}
use Rattle.drt_claims.specs.Proofs.{node_parts, parts_of}
use Rattle.drt_claims.specs.Trees.{IsTree, joined, named, node_values, root}
use Rattle.drt_claims.specs.declared.evidence.Pair.{Pair}
use Rattle.drt_claims.specs.declared.evidence.TreeClaim.{TreeClaim}
use Rattle.drt_model.specs.Walk.{request_of}

-- The leaf is the node, or it is under one of the node's parts.
pub data IsUnder (tree : TreeClaim) (leaf : ℕ) : ℕ → Type 0 where
  itself : (n : ℕ) → n ≡ leaf → IsUnder tree leaf n
  below : (n m : ℕ) (p : ℕ × ℕ) → node_parts tree n ≡ Some p → (m ≡ p.0) ⊎ (m ≡ p.1) → IsUnder tree leaf m → IsUnder tree leaf n

-- The pair that gives a node its parts.
pub record IsPairAt (tree : TreeClaim) (n : ℕ) (p : ℕ × ℕ) : Type 0 where
  pub pair : Pair
  pub after : length tree.walks ≤ n
  pub at : slice_get tree.pairs (n - length tree.walks) ≡ Some pair
  pub left : pair.left ≡ p.0
  pub right : pair.right ≡ p.1

pair_of : (o : Option Pair) (p : ℕ × ℕ) → parts_of o ≡ Some p → (q : Pair) × (o ≡ Some q) × (q.left ≡ p.0) × (q.right ≡ p.1)
pair_of None p e = absurd (none-some p e)
pair_of (Some q) p e =
    let same : (q.left, q.right) ≡ p = same_Some (q.left, q.right) p e in
    (q, refl, ap (λ x. x.0) same, ap (λ x. x.1) same)

pub pair_at : (tree : TreeClaim) (n : ℕ) (p : ℕ × ℕ) → node_parts tree n ≡ Some p → IsPairAt tree n p
pair_at tree n p e = go (cases_lt n (length tree.walks))
  where
    go : (n < length tree.walks) ⊎ (length tree.walks ≤ n) → IsPairAt tree n p
    go (inl l) =
        let t : nat_lt n (length tree.walks) ≡ true = lt-ltb n (length tree.walks) l in
        absurd (none-some p (rw t at e))
    go (inr l) =
        let t : nat_lt n (length tree.walks) ≡ false = le-ltb n (length tree.walks) l in
        let q = pair_of (slice_get tree.pairs (n - length tree.walks)) p (rw t at e) in
        record { pair = q.0; after = l; at = q.1; left = q.2; right = q.3 }

-- A pair's parts.
pub parts_at : (tree : TreeClaim) (i : ℕ) (p : Pair) → slice_get tree.pairs i ≡ Some p → node_parts tree (length tree.walks + i) ≡ Some (p.left, p.right)
parts_at tree i p e =
    let t : nat_lt (length tree.walks + i) (length tree.walks) ≡ false = le-ltb (length tree.walks + i) (length tree.walks) (omega arith) in
    let s : (length tree.walks + i) - length tree.walks ≡ i = omega arith in
    rw (t, s, e) refl

-- A leaf under a pair is under one of its parts.
pub under_part : (tree : TreeClaim) (leaf n : ℕ) (p : ℕ × ℕ) → leaf < length tree.walks → IsUnder tree leaf n → node_parts tree n ≡ Some p
    → IsUnder tree leaf p.0 ⊎ IsUnder tree leaf p.1
under_part tree leaf n p l (itself k e) at = absurd (let q = pair_at tree n p at in let a = q.after in omega (arith, a, e, l))
under_part tree leaf n p l (below k m q named which under) at = go which
  where
    same : q ≡ p
    same = same_Some q p (sym named ∙ at)

    go : (m ≡ q.0) ⊎ (m ≡ q.1) → IsUnder tree leaf p.0 ⊎ IsUnder tree leaf p.1
    go (inl e) = inl (subst (λ k. IsUnder tree leaf k) (e ∙ ap (λ x. x.0) same) under)
    go (inr e) = inr (subst (λ k. IsUnder tree leaf k) (e ∙ ap (λ x. x.1) same) under)

-- Where a test counts something, it is true of something.
counted : (test : Pair → Bool) (pairs : List Pair) → 1 ≤ count_by test pairs → (i : ℕ) × (p : Pair) × (slice_get pairs i ≡ Some p) × (test p ≡ true)
counted test [] some = absurd (omega arith)
counted test (p ∷ pairs) some = go (test p) refl (counted test pairs)
  where
    cons : count_by test (p ∷ pairs) ≡ cond (test p) 1 0 + count_by test pairs
    cons = sum_by-cons (λ x. cond (test x) 1 0) p pairs

    go : (b : Bool) → test p ≡ b → (1 ≤ count_by test pairs → (i : ℕ) × (q : Pair) × (slice_get pairs i ≡ Some q) × (test q ≡ true))
        → (i : ℕ) × (q : Pair) × (slice_get (p ∷ pairs) i ≡ Some q) × (test q ≡ true)
    go true e later = (0, p, refl, e)
    go false e later =
        let none : ◌≡◌ {A = ℕ} (cond (test p) 1 0) 0 = rw e refl in
        let r = later (omega (arith, none, cons, some)) in
        (suc r.0, r.1, r.2, r.3)

-- A pair names the node.
abbrev IsNamed : List Pair → ℕ → Type 0
IsNamed pairs n = (i : ℕ) × (p : Pair) × (slice_get pairs i ≡ Some p) × ((n ≡ p.left) ⊎ (n ≡ p.right))

-- The pair that names a node which is named once.
named_by : (pairs : List Pair) (n : ℕ) → named pairs n ≡ 1 → IsNamed pairs n
named_by pairs n once = go (cases_lt 0 (count_by (λ (p : Pair). p.left == n) pairs))
  where
    go : (0 < count_by (λ (p : Pair). p.left == n) pairs) ⊎ (count_by (λ (p : Pair). p.left == n) pairs ≤ 0) → IsNamed pairs n
    go (inl l) = let r = counted (λ (p : Pair). p.left == n) pairs (omega (arith, l)) in (r.0, r.1, r.2, inl (sym (eqb-true r.1.left n r.3)))
    go (inr l) = let r = counted (λ (p : Pair). p.right == n) pairs (omega (arith, l, once)) in (r.0, r.1, r.2, inr (sym (eqb-true r.1.right n r.3)))

-- What is under a node is under the root.
under_root_from : (tree : TreeClaim) → IsTree tree → (leaf rest n : ℕ) → length tree.walks + length tree.pairs ≤ n + rest
    → n < length tree.walks + length tree.pairs → IsUnder tree leaf n → IsUnder tree leaf (root tree)
under_root_from tree is leaf zero n far l under = absurd (omega (arith, far, l))
under_root_from tree is leaf (suc rest) n far l under = go (cases_lt (n + 1) (length tree.walks + length tree.pairs)) (under_root_from tree is leaf rest)
  where
    go : (n + 1 < length tree.walks + length tree.pairs) ⊎ (length tree.walks + length tree.pairs ≤ n + 1)
        → ((m : ℕ) → length tree.walks + length tree.pairs ≤ m + rest → m < length tree.walks + length tree.pairs
        → IsUnder tree leaf m → IsUnder tree leaf (root tree))
        → IsUnder tree leaf (root tree)
    go (inr last) later = subst (λ k. IsUnder tree leaf k) (let e : n ≡ root tree = omega (arith, last, l) in e) under
    go (inl inner) later =
        let r = named_by tree.pairs n (is.once n inner) in
        let b = slice_get_within tree.pairs r.0 r.1 r.2 in
        let higher : n < length tree.walks + r.0 = above r.0 r.1 r.2 r.3 in
        let there = below (length tree.walks + r.0) n (r.1.left, r.1.right) (parts_at tree r.0 r.1 r.2) r.3 under in
        later (length tree.walks + r.0) (omega (arith, far, higher)) (omega (arith, b)) there
      where
        above : (i : ℕ) (p : Pair) → slice_get tree.pairs i ≡ Some p → (n ≡ p.left) ⊎ (n ≡ p.right) → n < length tree.walks + i
        above i p at (inl e) = let x = is.left i p at in omega (arith, x, e)
        above i p at (inr e) = let x = is.right i p at in omega (arith, x, e)

-- Each leaf is under the root.
pub under_root : (tree : TreeClaim) → IsTree tree → (leaf : ℕ) → leaf < length tree.walks → IsUnder tree leaf (root tree)
under_root tree is leaf l = under_root_from tree is leaf (length tree.walks + length tree.pairs) leaf (omega arith) (omega (arith, l)) (itself leaf refl)

-- The first values stay.
joined_first : (values : List ℕ) (pairs : List Pair) (i : ℕ) → i < length values → slice_index_or (joined values pairs) i 0 ≡ slice_index_or values i 0
unfolding joined
joined_first values [] i l = refl
joined_first values (p ∷ pairs) i l =
    let x : ℕ = max (slice_index_or values p.left 0) (slice_index_or values p.right 0) in
    let long = length-append values (x ∷ []) in
    joined_first (values ++ x ∷ []) pairs i (omega (arith, l, long)) ∙ get_or_append_left values (x ∷ []) 0 i l

-- A pair has the greater one of its parts' values.
joined_pair : (values : List ℕ) (pairs : List Pair) (i : ℕ) (p : Pair) → slice_get pairs i ≡ Some p → p.left < length values + i → p.right < length values + i
    → slice_index_or (joined values pairs) (length values + i) 0
    ≡ max (slice_index_or (joined values pairs) p.left 0) (slice_index_or (joined values pairs) p.right 0)
unfolding joined
joined_pair values [] i p at left right = absurd (none-some p at)
joined_pair values (q ∷ pairs) zero p at left right =
    let x : ℕ = max (slice_index_or values q.left 0) (slice_index_or values q.right 0) in
    let same : q ≡ p = same_Some q p at in
    let a : q.left ≡ p.left = ap (λ (r : Pair). r.left) same in
    let b : q.right ≡ p.right = ap (λ (r : Pair). r.right) same in
    let long = length-append values (x ∷ []) in
    let here : slice_index_or (joined (values ++ x ∷ []) pairs) (length values + 0) 0 ≡ x =
    joined_first (values ++ x ∷ []) pairs (length values + 0) (omega (arith, long)) ∙ get_or_at values x [] 0 (length values + 0) (omega arith) in
    let l : slice_index_or (joined (values ++ x ∷ []) pairs) p.left 0 ≡ slice_index_or values p.left 0 =
    joined_first (values ++ x ∷ []) pairs p.left (omega (arith, long, left)) ∙ get_or_append_left values (x ∷ []) 0 p.left (omega (arith, left)) in
    let r : slice_index_or (joined (values ++ x ∷ []) pairs) p.right 0 ≡ slice_index_or values p.right 0 =
    joined_first (values ++ x ∷ []) pairs p.right (omega (arith, long, right)) ∙ get_or_append_left values (x ∷ []) 0 p.right (omega (arith, right)) in
    let c : slice_index_or values q.left 0 ≡ slice_index_or values p.left 0 = ap (λ n. slice_index_or values n 0) a in
    let d : slice_index_or values q.right 0 ≡ slice_index_or values p.right 0 = ap (λ n. slice_index_or values n 0) b in
    omega (arith, here, l, r, c, d)
joined_pair values (q ∷ pairs) (suc i) p at left right =
    let x : ℕ = max (slice_index_or values q.left 0) (slice_index_or values q.right 0) in
    let long : length (values ++ x ∷ []) ≡ length values + 1 = length-append values (x ∷ []) in
    let later = joined_pair (values ++ x ∷ []) pairs i p at (omega (arith, long, left)) (omega (arith, long, right)) in
    let e : length (values ++ x ∷ []) + i ≡ length values + suc i = omega (arith, long) in
    ap (λ n. slice_index_or (joined (values ++ x ∷ []) pairs) n 0) (sym e) ∙ later

-- A leaf asks for at most the value of each node that it is under.
pub under_most : (g : Digraph) (tree : TreeClaim) → IsTree tree → (t leaf : ℕ) → leaf < length tree.walks → (n : ℕ) → IsUnder tree leaf n
    → request_of g (slice_index_or tree.walks leaf []) t ≤ slice_index_or (node_values g tree t) n 0
under_most g tree is t leaf l n (itself k e) =
    let values : List ℕ = map (λ walk. request_of g walk t) tree.walks in
    let long : length values ≡ length tree.walks = length-map tree.walks (λ walk. request_of g walk t) in
    let first = joined_first values tree.pairs leaf (omega (arith, long, l)) in
    let of_walk = get_or-map (λ walk. request_of g walk t) tree.walks leaf [] 0 l in
    let there : slice_index_or (joined values tree.pairs) n 0 ≡ slice_index_or (joined values tree.pairs) leaf 0 = ap (λ k. slice_index_or (joined values tree.pairs) k 0) e in
    omega (arith, first, of_walk, there)
under_most g tree is t leaf l n (below k m p at which under) = go which (under_most g tree is t leaf l m under)
  where
    values : List ℕ
    values = map (λ walk. request_of g walk t) tree.walks

    value : ℕ → ℕ
    value k = slice_index_or (joined values tree.pairs) k 0

    q : IsPairAt tree n p
    q = pair_at tree n p at

    greatest : value n ≡ max (value p.0) (value p.1)
    greatest =
        let i : ℕ = n - length tree.walks in
        let a = q.after in
        let long : length values ≡ length tree.walks = length-map tree.walks (λ walk. request_of g walk t) in
        let left = is.left i q.pair q.at in
        let right = is.right i q.pair q.at in
        let here = joined_pair values tree.pairs i q.pair q.at (omega (arith, long, left)) (omega (arith, long, right)) in
        let there : value (length values + i) ≡ value n = ap value (let e : length values + i ≡ n = omega (arith, long, a) in e) in
        let b : value q.pair.left ≡ value p.0 = ap value q.left in
        let c : value q.pair.right ≡ value p.1 = ap value q.right in
        omega (arith, here, there, b, c)

    go : (m ≡ p.0) ⊎ (m ≡ p.1) → request_of g (slice_index_or tree.walks leaf []) t ≤ value m → request_of g (slice_index_or tree.walks leaf []) t ≤ value n
    go (inl e) most = let s : value m ≡ value p.0 = ap value e in omega (arith, most, s, greatest)
    go (inr e) most = let s : value m ≡ value p.1 = ap value e in omega (arith, most, s, greatest)
