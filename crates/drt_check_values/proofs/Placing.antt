-- Sizes and places of the nodes, found pair by pair.
use Rattle.std.proofs.Common.{◌≡◌, ◌≢◌, ℕ, ◌+◌, ◌<◌, ◌≤◌, List, [], length, map, get_or, set, replicate, ◌⊎◌, inl, inr, sym, ap, subst, arith, ◌∙◌}
use Rattle.std.proofs.lemmas.Bool.{cases_lt, cases_eq}
use Rattle.std.proofs.lemmas.List.{ext_get_or, get_or-map, length-map, length-set, length-append, length-replicate, get_or-replicate, get_or_read, get_or-set_same, get_or-set_other}
use Rattle.drt_claims.specs.declared.evidence.TreeClaim.{TreeClaim}
use Rattle.drt_claims.specs.Trees.{IsTree, root}
use Rattle.drt_check_values.specs.Leaves.{leaf_lists, leaves_below, node_count, AreSizes, IsFirstLeaf, AreFirsts}
use Rattle.drt_claims.specs.declared.evidence.Pair.{Pair}
use Rattle.drt_check_values.proofs.Growing.{no_pair}
use Rattle.drt_check_values.proofs.Counting.{has_pair}
use Rattle.drt_check_values.proofs.Leaves.{parts, left_of, right_of, lists_count, size_most, first_fits, order_count, leaf_at, pair_at, root_node, root_first, left_first, right_first}

-- How many leaves there are below node n.
abbrev pub size_of : TreeClaim → ℕ → ℕ
size_of tree n = length (leaves_below tree n)

-- The walks and the first i pairs have their sizes.
pub record AreSizesTo (tree : TreeClaim) (i : ℕ) (sizes : List ℕ) : Type 0 where
  pub count : length sizes ≡ node_count tree
  pub each : (n : ℕ) → n < length tree.walks + i → n < node_count tree → get_or sizes n 0 ≡ size_of tree n

pub sizes_first : (tree : TreeClaim) → IsTree tree → AreSizesTo tree 0 (replicate (node_count tree) 1)
sizes_first tree is = record {
  count = length-replicate (node_count tree) 1;
  each = λ n l m. get_or-replicate (node_count tree) n 1 0 m ∙ sym (ap length (leaf_at tree is n (omega arith)));
}

pub size_sum : (tree : TreeClaim) → IsTree tree → (i : ℕ) → i < length tree.pairs → size_of tree (length tree.walks + i) ≡ size_of tree (left_of tree i) + size_of tree (right_of tree i)
size_sum tree is i l = ap length (pair_at tree is i l) ∙ length-append (leaves_below tree (left_of tree i)) (leaves_below tree (right_of tree i))

-- The parts of the next pair have theirs.
pub parts_sized : (tree : TreeClaim) → IsTree tree → (i : ℕ) (sizes : List ℕ) → i < length tree.pairs → AreSizesTo tree i sizes
    → get_or sizes (left_of tree i) 0 + get_or sizes (right_of tree i) 0 ≡ size_of tree (length tree.walks + i)
parts_sized tree is i sizes l are =
    let p = (parts tree is).left i l in
    let q = (parts tree is).right i l in
    let a = are.each (left_of tree i) p (omega arith) in
    let b = are.each (right_of tree i) q (omega arith) in
    let e = size_sum tree is i l in
    omega (arith, a, b, e)

pub sizes_next : (tree : TreeClaim) → (i size : ℕ) (sizes : List ℕ) → i < length tree.pairs → AreSizesTo tree i sizes → size ≡ size_of tree (length tree.walks + i)
    → AreSizesTo tree (i + 1) (set sizes (length tree.walks + i) size)
sizes_next tree i size sizes l are e = record {
  count = length-set sizes (length tree.walks + i) size ∙ are.count;
  each = λ n p m. go n p m (cases_eq n (length tree.walks + i));
}
  where
    go : (n : ℕ) → n < length tree.walks + (i + 1) → n < node_count tree → (n ≡ length tree.walks + i) ⊎ (n ≢ length tree.walks + i)
        → get_or (set sizes (length tree.walks + i) size) n 0 ≡ size_of tree n
    go n p m (inl f) = rw f (get_or-set_same sizes (length tree.walks + i) size 0 (omega (arith, are.count)) ∙ e)
    go n p m (inr differ) = get_or-set_other sizes (length tree.walks + i) n size 0 differ ∙ are.each n (omega arith) m

pub sizes_all : (tree : TreeClaim) → IsTree tree → (i : ℕ) (sizes : List ℕ) → length tree.pairs ≤ i → AreSizesTo tree i sizes → AreSizes tree sizes
sizes_all tree is i sizes l are =
    let c = lists_count tree is in
    let m = length-map (leaf_lists tree) length in
    ext_get_or 0 sizes (map length (leaf_lists tree)) (omega (arith, are.count, c, m))
    (λ n p. are.each n (omega (arith, are.count)) (omega (arith, are.count)) ∙ sym (get_or-map length (leaf_lists tree) n [] 0 (omega (arith, are.count, c))))

-- The size of a node.
pub size_at : (tree : TreeClaim) → IsTree tree → (sizes : List ℕ) → AreSizes tree sizes → (n : ℕ) → n < node_count tree → get_or sizes n 0 ≡ size_of tree n
size_at tree is sizes are n l = ap (λ xs. get_or xs n 0) are ∙ get_or-map length (leaf_lists tree) n [] 0 (let c = lists_count tree is in omega (arith, c))

pub sizes_count : (tree : TreeClaim) → IsTree tree → (sizes : List ℕ) → AreSizes tree sizes → length sizes ≡ node_count tree
sizes_count tree is sizes are = ap length are ∙ (length-map (leaf_lists tree) length ∙ lists_count tree is)

-- Node n is a part of one of the pairs from i on.
abbrev pub IsPartFrom : TreeClaim → ℕ → ℕ → Type 0
IsPartFrom tree i n = (j : ℕ) × (i ≤ j) × (j < length tree.pairs) × ((left_of tree j ≡ n) ⊎ (right_of tree j ≡ n))

-- The root and the parts of the pairs from i on have their places.
pub record AreFirstsFrom (tree : TreeClaim) (i : ℕ) (firsts : List ℕ) : Type 0 where
  pub count : length firsts ≡ node_count tree
  pub top : IsFirstLeaf tree (root tree) (get_or firsts (root tree) 0)
  pub each : (n : ℕ) → IsPartFrom tree i n → IsFirstLeaf tree n (get_or firsts n 0)

-- A node but the root is a part of a pair above it.
part_above : (tree : TreeClaim) → IsTree tree → (n : ℕ) → n + 1 < node_count tree → (j : ℕ) × (j < length tree.pairs) × ((left_of tree j ≡ n) ⊎ (right_of tree j ≡ n)) × (n < length tree.walks + j)
part_above tree is n l = has_pair (length tree.walks) tree.pairs (parts tree is) n (is.once n l)

pub firsts_first : (tree : TreeClaim) → IsTree tree → (i : ℕ) → length tree.pairs ≤ i → AreFirstsFrom tree i (replicate (node_count tree) 0)
firsts_first tree is i l = record {
  count = length-replicate (node_count tree) 0;
  top = subst (IsFirstLeaf tree (root tree)) (sym (get_or-replicate (node_count tree) (root tree) 0 0 (root_node tree is))) (root_first tree);
  each = λ n (j, p, q, r). absurd (omega arith);
}

-- A pair has its place before its parts.
pub pair_placed : (tree : TreeClaim) → IsTree tree → (i : ℕ) (firsts : List ℕ) → i < length tree.pairs → AreFirstsFrom tree (i + 1) firsts
    → IsFirstLeaf tree (length tree.walks + i) (get_or firsts (length tree.walks + i) 0)
pair_placed tree is i firsts l are = go (cases_lt (length tree.walks + i + 1) (node_count tree))
  where
    go : (length tree.walks + i + 1 < node_count tree) ⊎ (node_count tree ≤ length tree.walks + i + 1) → IsFirstLeaf tree (length tree.walks + i) (get_or firsts (length tree.walks + i) 0)
    go (inl p) = (let a = part_above tree is (length tree.walks + i) p in are.each (length tree.walks + i) (a.0, omega (arith, a.3), a.1, a.2))
    go (inr p) = (let e : length tree.walks + i ≡ root tree = omega arith in rw e are.top)

pub firsts_next : (tree : TreeClaim) → IsTree tree → (i size : ℕ) (firsts : List ℕ) → i < length tree.pairs → AreFirstsFrom tree (i + 1) firsts → size ≡ size_of tree (left_of tree i)
    → AreFirstsFrom tree i (set (set firsts (left_of tree i) (get_or firsts (length tree.walks + i) 0)) (right_of tree i) (get_or firsts (length tree.walks + i) 0 + size))
firsts_next tree is i size firsts l are e = record {
  count = length-set once (right_of tree i) (f + size) ∙ counted;
  top = kept (root tree) are.top (λ q. absurd (omega (arith, p, q))) (λ q. absurd (omega (arith, r, q)));
  each = λ n from. go n from (cases_eq n (right_of tree i)) (cases_eq n (left_of tree i));
}
  where
    f : ℕ
    f = get_or firsts (length tree.walks + i) 0

    once : List ℕ
    once = set firsts (left_of tree i) f

    counted : length once ≡ node_count tree
    counted = length-set firsts (left_of tree i) f ∙ are.count

    placed : IsFirstLeaf tree (length tree.walks + i) f
    placed = pair_placed tree is i firsts l are

    p : left_of tree i < length tree.walks + i
    p = (parts tree is).left i l

    r : right_of tree i < length tree.walks + i
    r = (parts tree is).right i l

    kept : (n : ℕ) → IsFirstLeaf tree n (get_or firsts n 0) → n ≢ left_of tree i → n ≢ right_of tree i → IsFirstLeaf tree n (get_or (set once (right_of tree i) (f + size)) n 0)
    kept n was a b = subst (IsFirstLeaf tree n) (sym (get_or-set_other once (right_of tree i) n (f + size) 0 b ∙ get_or-set_other firsts (left_of tree i) n f 0 a)) was

    rights : IsFirstLeaf tree (right_of tree i) (f + size)
    rights = rw e (right_first tree is i f l placed)

    go : (n : ℕ) → IsPartFrom tree i n → (n ≡ right_of tree i) ⊎ (n ≢ right_of tree i) → (n ≡ left_of tree i) ⊎ (n ≢ left_of tree i)
        → IsFirstLeaf tree n (get_or (set once (right_of tree i) (f + size)) n 0)
    go n from (inl a) b =
        rw a (subst (IsFirstLeaf tree (right_of tree i)) (sym (get_or-set_same once (right_of tree i) (f + size) 0 (omega (arith, counted, r)))) rights)
    go n from (inr a) (inl b) =
        let at : get_or (set once (right_of tree i) (f + size)) n 0 ≡ f = get_or-set_other once (right_of tree i) n (f + size) 0 a ∙ (ap (λ k. get_or once k 0) b ∙ get_or-set_same
        firsts (left_of tree i) f 0 (omega (arith, are.count, p))) in
        subst (IsFirstLeaf tree n) (sym at) (subst (λ k. IsFirstLeaf tree k f) (sym b) (left_first tree is i f l placed))
    go n (j, s, t, part) (inr a) (inr b) = kept n (are.each n (j, later (cases_lt i j) part, t, part)) b a
      where
        later : (i < j) ⊎ (j ≤ i) → (left_of tree j ≡ n) ⊎ (right_of tree j ≡ n) → i + 1 ≤ j
        later (inl q) part = omega arith
        later (inr q) (inl g) = absurd (let h : j ≡ i = omega arith in b (sym g ∙ ap (left_of tree) h))
        later (inr q) (inr g) = absurd (let h : j ≡ i = omega arith in a (sym g ∙ ap (right_of tree) h))

pub firsts_all : (tree : TreeClaim) → IsTree tree → (firsts : List ℕ) → AreFirstsFrom tree 0 firsts → AreFirsts tree firsts
firsts_all tree is firsts are = record { count = are.count; each = λ n l. go n l (cases_lt (n + 1) (node_count tree)) }
  where
    go : (n : ℕ) → n < node_count tree → (n + 1 < node_count tree) ⊎ (node_count tree ≤ n + 1) → IsFirstLeaf tree n (get_or firsts n 0)
    go n l (inl p) = (let a = part_above tree is n p in are.each n (a.0, omega arith, a.1, a.2))
    go n l (inr p) = (let e : n ≡ root tree = omega arith in rw e are.top)

-- The sum that two reads give is the size of the pair, and it is no more than there are walks.
pub read_sum : (tree : TreeClaim) → IsTree tree → (i : ℕ) (sizes : List ℕ) (pairs : List Pair) (x y : ℕ) → pairs ≡ tree.pairs → i < length pairs → AreSizesTo tree i sizes
    → x ≡ get_or sizes (get_or pairs i no_pair).left x → y ≡ get_or sizes (get_or pairs i no_pair).right y
    → (i < length tree.pairs) × ((get_or pairs i no_pair).left < length sizes) × ((get_or pairs i no_pair).right < length sizes)
    × (x + y ≡ size_of tree (length tree.walks + i)) × (x + y ≤ length tree.walks)
read_sum tree is i sizes pairs x y same l are one two =
    let m : i < length tree.pairs = omega (arith, ap length same) in
    let lefts = ap (λ ps. (get_or ps i no_pair).left) same in
    let rights = ap (λ ps. (get_or ps i no_pair).right) same in
    let p = (parts tree is).left i m in
    let q = (parts tree is).right i m in
    let a : left_of tree i < length sizes = omega (arith, p, are.count) in
    let b : right_of tree i < length sizes = omega (arith, q, are.count) in
    let e = get_or_read sizes (left_of tree i) x a (subst (λ k. x ≡ get_or sizes k x) lefts one) 0 in
    let f = get_or_read sizes (right_of tree i) y b (subst (λ k. y ≡ get_or sizes k y) rights two) 0 in
    let sum = parts_sized tree is i sizes m are in
    let most = size_most tree is (length tree.walks + i) (omega arith) in
    (m, omega (arith, a, lefts), omega (arith, b, rights), omega (arith, e, f, sum), omega (arith, e, f, sum, most))

-- The parts of a pair are nodes.
pub parts_within : (tree : TreeClaim) → IsTree tree → (i : ℕ) (pairs : List Pair) → pairs ≡ tree.pairs → i < length pairs
    → (i < length tree.pairs) × ((get_or pairs i no_pair).left < node_count tree) × ((get_or pairs i no_pair).right < node_count tree)
parts_within tree is i pairs same l =
    let m : i < length tree.pairs = omega (arith, ap length same) in
    let lefts = ap (λ ps. (get_or ps i no_pair).left) same in
    let rights = ap (λ ps. (get_or ps i no_pair).right) same in
    let p = (parts tree is).left i m in
    let q = (parts tree is).right i m in
    (m, omega (arith, p, lefts), omega (arith, q, rights))

-- The place of the right part fits.
pub right_fits : (tree : TreeClaim) → IsTree tree → (i : ℕ) (firsts sizes : List ℕ) → i < length tree.pairs → AreFirstsFrom tree (i + 1) firsts → AreSizes tree sizes
    → get_or firsts (length tree.walks + i) 0 + get_or sizes (left_of tree i) 0 ≤ length tree.walks
right_fits tree is i firsts sizes l are sized =
    let placed = pair_placed tree is i firsts l are in
    let fits = first_fits tree is (length tree.walks + i) (get_or firsts (length tree.walks + i) 0) (omega arith) placed in
    let sum = size_sum tree is i l in
    let count = order_count tree is in
    let p = (parts tree is).left i l in
    let at = size_at tree is sizes sized (left_of tree i) (omega (arith, p)) in
    omega (arith, fits, sum, count, at)
