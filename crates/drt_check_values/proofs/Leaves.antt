-- The leaves below the nodes of a tree: the order of all leaves below the root has each leaf once, and those below a node stand in
-- it one after another.
use Rattle.std.proofs.Common.{◌≡◌, ℕ, zero, suc, ◌+◌, ◌<◌, ◌≤◌, Bool, true, false, cond, eqb, List, [], ◌∷◌, ◌++◌, All, length, map, get_or, take, drop, ◌⊎◌, inl, inr, refl, sym, ap, subst}
use Rattle.std.proofs.Common.{arith, ◌∙◌}
use Rattle.std.specs.Prelude.{max, ◌==◌}
use Rattle.std.specs.List.{range_with_len, count_by}
use Rattle.std.proofs.lemmas.Bool.{cases_lt, eqb-false}
use Rattle.std.proofs.lemmas.List.{get_or-map, length-map, map-append, take-map, drop-map, take-take, take_at, take_all, drop_at, drop-take, drop-drop, get_or-drop, get_or-take}
use Rattle.std.proofs.lemmas.List.{length-take, length-drop, length-append}
use Rattle.std.proofs.lemmas.List.FromFn.{length-map-range_with_len, get_or-map-range_with_len}
use Rattle.std.proofs.lemmas.List.Elements.{All-append}
use Rattle.std.proofs.lemmas.List.Sums.{sum_by-cons, sum_by-append}
use Rattle.std.proofs.lemmas.Option.{slice_get-get_or}
use Rattle.drt_model.specs.Digraph.{Digraph}
use Rattle.drt_claims.specs.declared.evidence.TreeClaim.{TreeClaim}
use Rattle.drt_claims.specs.Trees.{IsTree, node_values, root}
use Rattle.drt_check_values.specs.Greatest.{greatest}
use Rattle.drt_check_values.specs.Leaves.{grown_items, leaf_lists, leaves_below, leaf_order, node_count, IsFirstLeaf}
use Rattle.drt_check_values.proofs.Growing.{no_pair, HasParts, IsGrown, grown_is, joined_grown, each_node}
use Rattle.drt_check_values.proofs.Counting.{tick, last_sum, has_pair, sum_one, sum_same, sum_below, sum_next, sum_none}
use Rattle.drt_check_values.proofs.Halving.{greatest_none, greatest_cons, greatest-append}
use Rattle.drt_model.specs.Walk.{request_of}

-- The parts of a pair.
abbrev pub left_of : TreeClaim → ℕ → ℕ
left_of tree i = (get_or tree.pairs i no_pair).left

abbrev pub right_of : TreeClaim → ℕ → ℕ
right_of tree i = (get_or tree.pairs i no_pair).right

-- Each walk by itself.
abbrev lone : TreeClaim → List (List ℕ)
lone tree = map (λ w. w ∷ []) (range_with_len 0 (length tree.walks))

lone_count : (tree : TreeClaim) → length (lone tree) ≡ length tree.walks
lone_count tree = length-map-range_with_len (λ (w : ℕ). w ∷ []) 0 (length tree.walks)

pub parts : (tree : TreeClaim) → IsTree tree → HasParts (length tree.walks) tree.pairs
parts tree is = record {
  left = λ i l. is.left i (get_or tree.pairs i no_pair) (slice_get-get_or tree.pairs i no_pair l);
  right = λ i l. is.right i (get_or tree.pairs i no_pair) (slice_get-get_or tree.pairs i no_pair l);
}

lists_grown : (tree : TreeClaim) → IsTree tree → IsGrown [] (λ xs ys. xs ++ ys) (lone tree) tree.pairs (leaf_lists tree)
lists_grown tree is = grown_is [] (λ xs ys. xs ++ ys) (lone tree) tree.pairs (rw (lone_count tree) (parts tree is))

pub lists_count : (tree : TreeClaim) → IsTree tree → length (leaf_lists tree) ≡ node_count tree
lists_count tree is = (let c = (lists_grown tree is).count in omega (arith, c, lone_count tree))

pub leaf_at : (tree : TreeClaim) → IsTree tree → (k : ℕ) → k < length tree.walks → leaves_below tree k ≡ k ∷ []
leaf_at tree is k l =
    (lists_grown tree is).items_kept k (omega (arith, lone_count tree))
    ∙ get_or-map-range_with_len (λ (w : ℕ). w ∷ []) 0 (length tree.walks) k k [] l (omega arith)

pub pair_at : (tree : TreeClaim) → IsTree tree → (i : ℕ) → i < length tree.pairs
    → leaves_below tree (length tree.walks + i) ≡ leaves_below tree (left_of tree i) ++ leaves_below tree (right_of tree i)
pair_at tree is i l = ap (λ n. leaves_below tree (n + i)) (sym (lone_count tree)) ∙ (lists_grown tree is).joins i l

-- What holds of single leaves and passes to lists of two such holds of the leaves below each node.
each_leaves : (tree : TreeClaim) → IsTree tree → (P : List ℕ → Type 0) → ((k : ℕ) → k < length tree.walks → P (k ∷ []))
    → ((xs ys : List ℕ) → P xs → P ys → P (xs ++ ys)) → (n : ℕ) → n < node_count tree → P (leaves_below tree n)
each_leaves tree is P one both = each_node (length tree.walks) tree.pairs (λ n. P (leaves_below tree n)) (parts tree is)
    (λ k l. subst P (sym (leaf_at tree is k l)) (one k l))
    (λ i l a b. subst P (sym (pair_at tree is i l)) (both (leaves_below tree (left_of tree i)) (leaves_below tree (right_of tree i)) a b))

-- They are walks.
pub leaves_small : (tree : TreeClaim) → IsTree tree → (n : ℕ) → n < node_count tree → All (λ w. w < length tree.walks) (leaves_below tree n)
leaves_small tree is = each_leaves tree is (λ xs. All (λ w. w < length tree.walks) xs) one (λ xs ys a b. All-append (λ w. w < length tree.walks) xs ys a b)
  where
    one : (k : ℕ) → k < length tree.walks → All (λ w. w < length tree.walks) (k ∷ [])
    one k l zero d p = l
    one k l (suc j) d p = absurd (omega arith)

-- There is one at least.
pub leaves_some : (tree : TreeClaim) → IsTree tree → (n : ℕ) → n < node_count tree → 1 ≤ length (leaves_below tree n)
leaves_some tree is = each_leaves tree is (λ xs. 1 ≤ length xs) (λ k l. omega arith) (λ xs ys a b. (let e = length-append xs ys in omega (arith, e)))

-- A measure of lists of leaves that adds up is, of all leaves, the sum over the single ones.
order_sum : (tree : TreeClaim) → IsTree tree → (f : List ℕ → ℕ) → ((xs ys : List ℕ) → f (xs ++ ys) ≡ f xs + f ys)
    → f (leaf_order tree) ≡ sum_below (λ k. f (k ∷ [])) (length tree.walks)
order_sum tree is f adds =
    last_sum (λ n. f (leaves_below tree n)) (length tree.walks) tree.pairs is.some (parts tree is)
    (λ i l. ap f (pair_at tree is i l) ∙ adds (leaves_below tree (left_of tree i)) (leaves_below tree (right_of tree i)))
    is.once
    ∙ sum_same (λ n. f (leaves_below tree n)) (λ k. f (k ∷ [])) (length tree.walks) (λ k l. ap f (leaf_at tree is k l))

ones : (n : ℕ) → sum_below (λ k. 1) n ≡ n
ones zero = sum_none (λ k. 1)
ones (suc n) = (let e = sum_next (λ k. 1) n in omega (arith, e, ones n))

-- The order has as many leaves as there are walks.
pub order_count : (tree : TreeClaim) → IsTree tree → length (leaf_order tree) ≡ length tree.walks
order_count tree is = order_sum tree is length (λ xs ys. length-append xs ys) ∙ ones (length tree.walks)

-- It has each once.
order_once : (tree : TreeClaim) → IsTree tree → (w : ℕ) → w < length tree.walks → count_by (λ x. x == w) (leaf_order tree) ≡ 1
order_once tree is w l =
    order_sum tree is (λ xs. count_by (λ x. x == w) xs) (λ xs ys. sum_by-append (λ x. cond (x == w) 1 0) xs ys)
    ∙ (sum_same (λ k. count_by (λ x. x == w) (k ∷ [])) (λ k. tick (eqb k w)) (length tree.walks) (λ k p. single k) ∙ sum_one w (length tree.walks) l)
  where
    single : (k : ℕ) → count_by (λ x. x == w) (k ∷ []) ≡ tick (eqb k w)
    single k = (let e = sum_by-cons (λ x. tick (x == w)) k [] in omega (arith, e))

counted : (xs : List ℕ) (w j : ℕ) → j < length xs → get_or xs j 0 ≡ w → 1 ≤ count_by (λ x. x == w) xs
counted [] w j l e = absurd (omega arith)
counted (x ∷ xs) w zero l e =
    let c = sum_by-cons (λ y. tick (y == w)) x xs in
    let t : tick (x == w) ≡ 1 = go (eqb x w) refl in
    omega (arith, c, t)
  where
    go : (b : Bool) → eqb x w ≡ b → tick b ≡ 1
    go true f = refl
    go false f = absurd (eqb-false x w f e)
counted (x ∷ xs) w (suc j) l e =
    let c = sum_by-cons (λ y. tick (y == w)) x xs in
    let ih = counted xs w j (omega arith) e in
    omega (arith, c, ih)

same_place : (xs : List ℕ) (w i j : ℕ) → count_by (λ x. x == w) xs ≤ 1 → i < length xs → j < length xs → get_or xs i 0 ≡ w → get_or xs j 0 ≡ w → i ≡ j
same_place [] w i j few p q e f = absurd (omega arith)
same_place (x ∷ xs) w zero zero few p q e f = refl
same_place (x ∷ xs) w zero (suc j) few p q e f = absurd (
    let c = sum_by-cons (λ y. tick (y == w)) x xs in
    let a = counted xs w j (omega arith) f in
    let t : tick (x == w) ≡ 1 = go (eqb x w) refl in
    omega (arith, c, a, t))
  where
    go : (b : Bool) → eqb x w ≡ b → tick b ≡ 1
    go true g = refl
    go false g = absurd (eqb-false x w g e)
same_place (x ∷ xs) w (suc i) zero few p q e f = absurd (
    let c = sum_by-cons (λ y. tick (y == w)) x xs in
    let a = counted xs w i (omega arith) e in
    let t : tick (x == w) ≡ 1 = go (eqb x w) refl in
    omega (arith, c, a, t))
  where
    go : (b : Bool) → eqb x w ≡ b → tick b ≡ 1
    go true g = refl
    go false g = absurd (eqb-false x w g f)
same_place (x ∷ xs) w (suc i) (suc j) few p q e f =
    let c = sum_by-cons (λ y. tick (y == w)) x xs in
    let ih = same_place xs w i j (omega (arith, c, few)) (omega arith) (omega arith) e f in
    omega (arith, ih)

pub root_node : (tree : TreeClaim) → IsTree tree → root tree < node_count tree
root_node tree is = (let s = is.some in omega (arith, s))

-- So two places with the same leaf are one.
pub order_same : (tree : TreeClaim) → IsTree tree → (i j : ℕ) → i < length (leaf_order tree) → j < length (leaf_order tree)
    → get_or (leaf_order tree) i 0 ≡ get_or (leaf_order tree) j 0 → i ≡ j
order_same tree is i j p q e =
    let small = leaves_small tree is (root tree) (root_node tree is) i 0 p in
    let once = order_once tree is (get_or (leaf_order tree) i 0) small in
    same_place (leaf_order tree) (get_or (leaf_order tree) i 0) i j (omega (arith, once)) p q refl (sym e)

-- No node has more leaves below it than the root.
pub size_most : (tree : TreeClaim) → IsTree tree → (n : ℕ) → n < node_count tree → length (leaves_below tree n) ≤ length tree.walks
size_most tree is n l = go (node_count tree) n l (omega arith)
  where
    step : (n : ℕ) → n < node_count tree → ((m : ℕ) → n < m → m < node_count tree → length (leaves_below tree m) ≤ length tree.walks)
        → (n + 1 < node_count tree) ⊎ (node_count tree ≤ n + 1) → length (leaves_below tree n) ≤ length tree.walks
    step n l higher (inl p) = above (has_pair (length tree.walks) tree.pairs (parts tree is) n (is.once n p))
      where
        above : (i : ℕ) × (i < length tree.pairs) × ((left_of tree i ≡ n) ⊎ (right_of tree i ≡ n)) × (n < length tree.walks + i) → length (leaves_below tree n) ≤ length tree.walks
        above (i, q, inl e, m) =
            let h = higher (length tree.walks + i) m (omega arith) in
            let b = ap length (pair_at tree is i q) ∙ length-append (leaves_below tree (left_of tree i)) (leaves_below tree (right_of tree i)) in
            let f = ap (λ k. length (leaves_below tree k)) e in
            omega (arith, h, b, f)
        above (i, q, inr e, m) =
            let h = higher (length tree.walks + i) m (omega arith) in
            let b = ap length (pair_at tree is i q) ∙ length-append (leaves_below tree (left_of tree i)) (leaves_below tree (right_of tree i)) in
            let f = ap (λ k. length (leaves_below tree k)) e in
            omega (arith, h, b, f)
    step n l higher (inr p) =
        let e : n ≡ root tree = omega arith in
        rw e (let c = order_count tree is in omega (arith, c))

    go : (d n : ℕ) → n < node_count tree → node_count tree ≤ n + d → length (leaves_below tree n) ≤ length tree.walks
    go zero n l p = absurd (omega arith)
    go (suc d) n l p = step n l (λ m q r. go d m r (omega arith)) (cases_lt (n + 1) (node_count tree))

-- All leaves stand at the start.
pub root_first : (tree : TreeClaim) → IsFirstLeaf tree (root tree) 0
root_first tree = take_all (length (leaf_order tree)) (leaf_order tree) (omega arith)

-- The leaves below a pair's left part stand where those below the pair do, and those below the right one after them.
pub left_first : (tree : TreeClaim) → IsTree tree → (i f : ℕ) → i < length tree.pairs → IsFirstLeaf tree (length tree.walks + i) f → IsFirstLeaf tree (left_of tree i) f
left_first tree is i f l first =
    let a = leaves_below tree (left_of tree i) in
    let b = leaves_below tree (right_of tree i) in
    let o = drop f (leaf_order tree) in
    let whole : take (length (a ++ b)) o ≡ a ++ b = subst (λ (xs : List ℕ). take (length xs) o ≡ xs) (pair_at tree is i l) first in
    let n : length a ≤ length (a ++ b) = (let e = length-append a b in omega (arith, e)) in
    sym (take-take (length a) (length (a ++ b)) o n) ∙ (ap (take (length a)) whole ∙ take_at a b (length a) refl)

pub right_first : (tree : TreeClaim) → IsTree tree → (i f : ℕ) → i < length tree.pairs → IsFirstLeaf tree (length tree.walks + i) f
    → IsFirstLeaf tree (right_of tree i) (f + length (leaves_below tree (left_of tree i)))
right_first tree is i f l first =
    let a = leaves_below tree (left_of tree i) in
    let b = leaves_below tree (right_of tree i) in
    let o = drop f (leaf_order tree) in
    let whole : take (length (a ++ b)) o ≡ a ++ b = subst (λ (xs : List ℕ). take (length xs) o ≡ xs) (pair_at tree is i l) first in
    let sum : take (length a + length b) o ≡ a ++ b = ap (λ n. take n o) (sym (length-append a b)) ∙ whole in
    ap (take (length b)) (sym (drop-drop (length a) f (leaf_order tree))) ∙ (sym (drop-take (length a) (length b) o) ∙ (ap (drop (length a)) sum ∙ drop_at a b (length a) refl))

-- The leaves below a node end within the order.
pub first_fits : (tree : TreeClaim) → IsTree tree → (n f : ℕ) → n < node_count tree → IsFirstLeaf tree n f → f + length (leaves_below tree n) ≤ length (leaf_order tree)
first_fits tree is n f l first =
    let a = leaves_below tree n in
    let e = ap length first in
    let t = length-take (length a) (drop f (leaf_order tree)) in
    let d = length-drop f (leaf_order tree) in
    let s = leaves_some tree is n l in
    omega (arith, e, t, d, s)

-- The place of a walk has it.
pub walk_first : (tree : TreeClaim) → IsTree tree → (w f : ℕ) → w < length tree.walks → IsFirstLeaf tree w f → get_or (leaf_order tree) f 0 ≡ w
walk_first tree is w f l first =
    let single : take 1 (drop f (leaf_order tree)) ≡ w ∷ [] = subst (λ (xs : List ℕ). take (length xs) (drop f (leaf_order tree)) ≡ xs) (leaf_at tree is w l) first in
    let at : get_or (take 1 (drop f (leaf_order tree))) 0 0 ≡ w = ap (λ xs. get_or xs 0 0) single in
    let zeroth : f + 0 ≡ f = omega arith in
    ap (λ n. get_or (leaf_order tree) n 0) (sym zeroth) ∙ (sym (get_or-drop f (leaf_order tree) 0 0) ∙ (sym (get_or-take 1 (drop f (leaf_order tree)) 0 0 (omega arith)) ∙ at))

-- The walk of a number asks at t for this.
abbrev pub asked_of : Digraph → TreeClaim → ℕ → ℕ → ℕ
asked_of g tree t w = request_of g (get_or tree.walks w []) t

-- A node's value is the greatest of those of the leaves below it.
pub node_value : (g : Digraph) (tree : TreeClaim) → IsTree tree → (t n : ℕ) → n < node_count tree
    → get_or (node_values g tree t) n 0 ≡ greatest (map (asked_of g tree t) (leaves_below tree n))
node_value g tree is t = each_node (length tree.walks) tree.pairs (λ n. get_or (node_values g tree t) n 0 ≡ greatest (map (asked_of g tree t) (leaves_below tree n))) (parts tree is) one both
  where
    items : List ℕ
    items = map (λ walk. request_of g walk t) tree.walks

    count : length items ≡ length tree.walks
    count = length-map tree.walks (λ walk. request_of g walk t)

    same : node_values g tree t ≡ grown_items 0 (λ x y. max x y) items tree.pairs
    same = joined_grown items tree.pairs

    values : IsGrown 0 (λ x y. max x y) items tree.pairs (node_values g tree t)
    values = rw same (grown_is 0 (λ x y. max x y) items tree.pairs (rw count (parts tree is)))

    one : (k : ℕ) → k < length tree.walks → get_or (node_values g tree t) k 0 ≡ greatest (map (asked_of g tree t) (leaves_below tree k))
    one k l =
        values.items_kept k (omega (arith, count))
        ∙ (get_or-map (λ walk. request_of g walk t) tree.walks k [] 0 l
        ∙ (sym (alone (asked_of g tree t k)) ∙ ap (λ xs. greatest (map (asked_of g tree t) xs)) (sym (leaf_at tree is k l))))
      where
        alone : (x : ℕ) → greatest (x ∷ []) ≡ x
        alone x = greatest_cons x [] ∙ (ap (λ n. max x n) greatest_none ∙ plain x)
          where
            plain : (n : ℕ) → max n 0 ≡ n
            plain n = grind arith

    both : (i : ℕ) → i < length tree.pairs → get_or (node_values g tree t) (left_of tree i) 0 ≡ greatest (map (asked_of g tree t) (leaves_below tree (left_of tree i)))
        → get_or (node_values g tree t) (right_of tree i) 0 ≡ greatest (map (asked_of g tree t) (leaves_below tree (right_of tree i)))
        → get_or (node_values g tree t) (length tree.walks + i) 0 ≡ greatest (map (asked_of g tree t) (leaves_below tree (length tree.walks + i)))
    both i l a b =
        let xs = leaves_below tree (left_of tree i) in
        let ys = leaves_below tree (right_of tree i) in
        let v = asked_of g tree t in
        ap (λ n. get_or (node_values g tree t) (n + i) 0) (sym count)
        ∙ (values.joins i l
        ∙ (ap (λ x. max x (get_or (node_values g tree t) (right_of tree i) 0)) a
        ∙ (ap (λ x. max (greatest (map v xs)) x) b
        ∙ (sym (greatest-append (map v xs) (map v ys))
        ∙ (ap greatest (sym (map-append v xs ys)) ∙ ap (λ zs. greatest (map v zs)) (sym (pair_at tree is i l)))))))

-- So where the places have the values of their walks, it is the greatest value from the node's first place on.
pub value_found : (g : Digraph) (tree : TreeClaim) → IsTree tree → (t n f : ℕ) (values : List ℕ) → n < node_count tree → IsFirstLeaf tree n f
    → values ≡ map (asked_of g tree t) (leaf_order tree)
    → greatest (take (length (leaves_below tree n)) (drop f values)) ≡ get_or (node_values g tree t) n 0
value_found g tree is t n f values l first e =
    let v = asked_of g tree t in
    let m = length (leaves_below tree n) in
    ap (λ xs. greatest (take m (drop f xs))) e
    ∙ (ap (λ xs. greatest (take m xs)) (drop-map v f (leaf_order tree))
    ∙ (ap greatest (take-map v m (drop f (leaf_order tree)))
    ∙ (ap (λ xs. greatest (map v xs)) first ∙ sym (node_value g tree is t n l))))
