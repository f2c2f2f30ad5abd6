-- The tree that is added for the leaves of a search stands for all walks of the graph, and its claim keeps the rules.
use Rattle.std.proofs.Common.{◌≡◌, ℕ, zero, suc, ◌+◌, ◌-◌, ◌<◌, ◌≤◌, ◌⊎◌, inl, inr, true, false, max, Option, Some, None, List, [], ◌∷◌, ◌++◌, All, length, map, get_or, refl, sym}
use Rattle.std.proofs.Common.{ap, ◌∙◌, subst, arith}
use Rattle.std.specs.Prelude.{Any, slice_get, slice_index_or, nat_lt, option_map}
use Rattle.std.specs.List.{range_with_len}
use Rattle.std.specs.List.Sorted.{IsSortedBy}
use Rattle.std.proofs.lemmas.Bool.{cases_lt}
use Rattle.std.proofs.lemmas.Bool.Decides.{nat_tests}
use Rattle.std.proofs.lemmas.List.{length-map}
use Rattle.std.proofs.lemmas.List.Elements.{All-map, All-weaker, All-get_or, All-from_get_or}
use Rattle.std.proofs.lemmas.List.FromFn.{length-map-range_with_len, get_or-map-range_with_len}
use Rattle.std.proofs.lemmas.List.Sorted.{length_permutation}
use Rattle.std.proofs.lemmas.Option.{none-some, same_Some, slice_get-map, slice_get_within, slice_get-get_or, get_or_from_slice_get}
use Rattle.drt_model.specs.Numbers.{most_time}
use Rattle.drt_model.specs.Digraph.{Digraph, IsSoundGraph, vertex_count, out_degree, edge_of}
use Rattle.drt_model.specs.Walk.{last_of, span, request, IsWalk, request_of}
use Rattle.drt_graph.proofs.Edges.{sep_of_edge, gap_of}
use Rattle.drt_graph.proofs.Paths.{path_both, path_within, span_both, span_cons, span_none}
use Rattle.drt_steps.specs.Values.{value_at}
use Rattle.drt_tree.specs.Leaf.{is_leaf_before}
use Rattle.drt_tree.specs.Shape.{Shape, parts as leaf_count, pairs as pair_count, root_of, IsTreeAdded}
use Rattle.drt_tree.specs.Tree.{Plain, IsForest, IsPair, IsUnder, LeadsToLeaf, children, node_children, leaves, node_values_in, walk, node_walk, leaf_node, leaf_steps, with_leaves}
use Rattle.drt_tree.specs.declared.leaf.Leaf.{Leaf}
use Rattle.drt_tree.proofs.Trees.{get_front, grows_on, index_front, leaves_grow, with_long}
use Rattle.drt_sp.specs.Choices.{StandsFor}
use Rattle.drt_busy.specs.Response.{cut_from}
use Rattle.drt_sp.proofs.Cuts.{cut_asks}
use Rattle.drt_claims.specs.Proofs.{node_parts}
use Rattle.drt_claims.specs.Ranges.{IsInRangePair, IsInRangeTree, IsInRangeWalk}
use Rattle.drt_claims.specs.Trees.{HasShortWalks, IsAbove, IsClosedWalk, IsExtendedWalk, IsShortWalk, IsTree, node_values, root}
use Rattle.drt_claims.specs.declared.evidence.Pair.{Pair}
use Rattle.drt_claims.specs.declared.evidence.TreeClaim.{TreeClaim}
use Rattle.drt_sp.specs.TaskTrees.{AreWalkLeaves, IsTaskTree, IsWalkLeaf, pair_of, pairs_from, walks_from}
use Rattle.drt_sp.specs.TreeClaims.{HaveOneLabel, IsClaimOf, IsExactTree, IsNonDominatedWalk, IsTreeOf, lowered}
use Rattle.drt_sp.specs.declared.trees.TaskTree.{TaskTree}
use Rattle.drt_sp.proofs.ShortWalks.{above_asks, cut_short, walk_in_range, walk_is}
use Rattle.drt_sp.proofs.TreeLeaves.{any_at, leaves_permutation}
use Rattle.drt_sp.proofs.TreeShapes.{HasKids, kids, named_once, pairs_of, pairs_stand, parts_pairs, root_last, under_all, under_range}
use Rattle.drt_sp.proofs.TreeValues.{IsJoin, joined_is, most_value}
use Rattle.drt_sp.proofs.WrittenTrees.{claim_halved, leaves_are}

-- An element of a mapped list is the image of one.
record IsImageAt {A B : Type 0} (f : A → B) (xs : List A) (i : ℕ) (y : B) : Type 0 where
  source : A
  at : slice_get xs i ≡ Some source
  image : f source ≡ y

image_at : {A B : Type 0} (f : A → B) (xs : List A) (i : ℕ) (y : B) → slice_get (map f xs) i ≡ Some y → IsImageAt f xs i y
image_at f [] i y e = absurd (none-some y e)
image_at f (x ∷ xs) zero y e = record { source = x; at = refl; image = same_Some (f x) y e }
image_at f (x ∷ xs) (suc i) y e = let h = image_at f xs i y e in record { source = h.source; at = h.at; image = h.image }

map_got : {A B : Type 0} (f : A → B) (xs : List A) (i : ℕ) (x : A) → slice_get xs i ≡ Some x → slice_get (map f xs) i ≡ Some (f x)
map_got f xs i x e = slice_get-map f xs i ∙ ap (λ o. option_map f o) e

any_map : {A B : Type 0} (P : B → Type 0) (f : A → B) (xs : List A) → Any (λ x. P (f x)) xs → Any P (map f xs)
any_map P f xs a = any_at P (map f xs) a.0 (f a.1) (map_got f xs a.0 a.1 (slice_get-get_or xs a.0 a.1 a.2 ∙ ap (λ x. Some x) a.3)) a.4

-- The values of a function at some numbers from a on are a list's.
map_range_is : {A : Type 0} (f : ℕ → A) (ys : List A) (a : ℕ) → ((i : ℕ) (y : A) → slice_get ys i ≡ Some y → f (a + i) ≡ y) → map f (range_with_len a (length ys)) ≡ ys
map_range_is f [] a h = refl
map_range_is f (y ∷ ys) a h =
    ap (λ x. x ∷ map f (range_with_len (a + 1) (length ys))) (ap f (let e : a ≡ a + 0 = omega arith in e) ∙ h 0 y refl)
    ∙ ap (λ xs. y ∷ xs) (map_range_is f ys (a + 1) (λ i x at. ap f (let e : a + 1 + i ≡ a + suc i = omega arith in e) ∙ h (suc i) x at))

get_past : {A : Type 0} (xs ys : List A) (k : ℕ) → slice_get (xs ++ ys) (length xs + k) ≡ slice_get ys k
get_past [] ys k = ap (λ n. slice_get ys n) (let e : 0 + k ≡ k = omega arith in e)
get_past (x ∷ xs) ys k = ap (λ n. slice_get (x ∷ (xs ++ ys)) n) (let e : suc (length xs) + k ≡ suc (length xs + k) = omega arith in e) ∙ get_past xs ys k

pub parts_before : (claim : TreeClaim) (k : ℕ) → k < length claim.walks → node_parts claim k ≡ None
parts_before claim k l = let t : nat_lt k (length claim.walks) ≡ true = grind (arith, nat_tests) in rw t refl

pub parts_after : (claim : TreeClaim) (k : ℕ) (p : Pair) → length claim.walks ≤ k → slice_get claim.pairs (k - length claim.walks) ≡ Some p
    → ◌≡◌ {A = Option (ℕ × ℕ)} (node_parts claim k) (Some (p.left, p.right))
parts_after claim k p l at = let t : nat_lt k (length claim.walks) ≡ false = grind (arith, nat_tests) in rw (t, at) refl

module _ (f h : Plain) (ls : List Leaf) (top : ℕ) (old : IsForest f) (added : IsTreeAdded f h ls top) where
  abbrev low : ℕ
  low = length f.nodes

  abbrev mid : Plain
  mid = with_leaves f added.sorted

  abbrev first : ℕ
  first = length mid.nodes

  abbrev tree : Shape
  tree = added.built.shape

  abbrev count : ℕ
  count = length added.sorted

  counted : count ≡ length ls
  counted = length_permutation ls added.sorted added.permutation

  shape_counted : leaf_count tree ≡ count
  shape_counted = added.built.parts_are ∙ sym counted

  first_is : first ≡ low + count
  first_is = with_long f added.sorted

  pairs_counted : pair_count tree + 1 ≡ count
  pairs_counted = sym (parts_pairs tree) ∙ shape_counted

  long : length h.nodes + 1 ≡ low + count + count
  long = let a = added.built.long in let b = first_is in let c = counted in omega (arith, a, b, c)

  root_top : top ≡ root_of tree low first
  root_top = added.built.root_is

  top_is : top + 1 ≡ first + pair_count tree
  top_is =
      let e : low + leaf_count tree ≡ first = ap (λ n. low + n) shape_counted ∙ sym first_is in
      let r = root_last tree low in
      let s : root_of tree low (low + leaf_count tree) ≡ root_of tree low first = ap (λ n. root_of tree low n) e in
      let t = root_top in
      omega (arith, e, r, s, t)

  -- The node of a leaf.
  record HasLeafNode (i : ℕ) (l : Leaf) : Type 0 where
    node : slice_get h.nodes (low + i) ≡ Some (leaf_node l)
    steps : node_values_in h (low + i) ≡ l.steps

  leaf_at : (i : ℕ) (l : Leaf) → slice_get added.sorted i ≡ Some l → HasLeafNode i l
  leaf_at i l at =
      let w = slice_get_within added.sorted i l at in
      let in_mid : low + i < length mid.nodes = (let e = first_is in omega (arith, w, e)) in
      let same : length f.nodes ≡ length f.pool = old.same in
      let pool : slice_get mid.pool (length f.pool + i) ≡ Some l.steps = get_past f.pool (map leaf_steps added.sorted) i ∙ map_got leaf_steps added.sorted i l at in
      let there : slice_get mid.pool (low + i) ≡ Some l.steps = ap (λ n. slice_get mid.pool (n + i)) same ∙ pool in
      record {
        node =
            ap (λ xs. slice_get xs (low + i)) added.grows.nodes
            ∙ (get_front mid.nodes added.grows.more (low + i) in_mid
            ∙ (get_past f.nodes (map leaf_node added.sorted) i
            ∙ map_got leaf_node added.sorted i l at));
        steps =
            ap (λ xs. slice_index_or xs (low + i) []) added.grows.pool
            ∙ (index_front [] mid.pool added.grows.functions (low + i) (slice_get_within mid.pool (low + i) l.steps there)
            ∙ get_or_from_slice_get mid.pool (low + i) l.steps [] there);
      }

  leaf_walk : (i : ℕ) (l : Leaf) → slice_get added.sorted i ≡ Some l → walk h (low + i) ≡ l.walk
  leaf_walk i l at = ap node_walk (leaf_at i l at).node

  leaf_children : (i : ℕ) (l : Leaf) → slice_get added.sorted i ≡ Some l → children h (low + i) ≡ None
  leaf_children i l at = ap node_children (leaf_at i l at).node

  default_leaf : Leaf
  default_leaf = record { steps = []; walk = [] }

  -- The leaf of a number, out of the tree's.
  record IsLeafAt (n : ℕ) : Type 0 where
    place : ℕ
    leaf : Leaf
    at : slice_get added.sorted place ≡ Some leaf
    number : low + place ≡ n

  leaf_of : (n : ℕ) → low ≤ n → n < low + count → IsLeafAt n
  leaf_of n from to =
      let w : n - low < count = omega (arith, from, to) in
      record { place = n - low; leaf = get_or added.sorted (n - low) default_leaf; at = slice_get-get_or added.sorted (n - low) default_leaf w; number = omega (arith, from) }

  kids_at : (i : ℕ) → i < pair_count tree → HasKids h low (first + i)
  kids_at i l = kids h tree low first low added.built.stands (omega arith) (let e = first_is in omega (arith, e)) (first + i) (omega arith) (omega (arith, l))

  -- The forest has the leaves and the pairs more.
  pub added_long : length h.nodes + 1 ≡ length f.nodes + length ls + length ls
  added_long = let a = long in let b = counted in omega (arith, a, b)

  -- The leaves come first.
  pub added_leaves : (k : ℕ) → length f.nodes ≤ k → k < length f.nodes + length ls → children h k ≡ None
  added_leaves k from to =
      let c = counted in
      let i = leaf_of k from (omega (arith, to, c)) in
      subst (λ n. children h n ≡ None) i.number (leaf_children i.place i.leaf i.at)

  -- And then the pairs.
  pub added_kids : (k : ℕ) → length f.nodes + length ls ≤ k → k < length f.nodes + length ls + (length ls - 1) → HasKids h (length f.nodes) k
  added_kids k from to =
      let a = first_is in
      let b = counted in
      let c = pairs_counted in
      let e : first + (k - first) ≡ k = omega (arith, a, b, from) in
      subst (λ n. HasKids h (length f.nodes) n) e (kids_at (k - first) (omega (arith, a, b, c, from, to)))

  module _ (g : Digraph) (sound : IsSoundGraph g) (bound : ℕ) (given : AreWalkLeaves bound g ls) where
    are : AreWalkLeaves bound g added.sorted
    are = leaves_permutation bound g ls added.sorted added.permutation given

    is_leaf : (i : ℕ) (l : Leaf) → slice_get added.sorted i ≡ Some l → IsWalkLeaf bound g l
    is_leaf i l at = subst (IsWalkLeaf bound g) (get_or_from_slice_get added.sorted i l l at) (All-get_or (IsWalkLeaf bound g) added.sorted i l (slice_get_within added.sorted i l at) are.each)

    leaf_value : (i : ℕ) (l : Leaf) (t : ℕ) → slice_get added.sorted i ≡ Some l → 1 ≤ t → t ≤ bound → value_at (node_values_in h (low + i)) t ≡ request_of g l.walk t
    leaf_value i l t at from to = ap (λ xs. value_at xs t) (leaf_at i l at).steps ∙ (is_leaf i l at).values t from to

    -- There is a leaf, since a graph has a vertex.
    single : (v : ℕ) → v < vertex_count g → 1 ≤ bound → IsShortWalk bound g (v ∷ [])
    single v l b = (l, tt, let s = span_none g v in omega (arith, s, b))

    some_leaf : 1 ≤ bound → 1 ≤ count
    some_leaf b = let a = (are.covers 0 [] (single 0 (let s = sound.some in omega (arith, s)) b)).2 in omega (arith, a)

    under_leaf : (n : ℕ) → IsUnder h n top → IsLeafAt n
    under_leaf n u =
        let r = under_range h tree low first added.built.stands u.0 n (subst (λ x. LeadsToLeaf h x u.0 n) root_top u.1) in
        let a = r.0 in
        let b = r.1 in
        let c = shape_counted in
        leaf_of n a (omega (arith, b, c))

    leaf_under : (i : ℕ) → i < count → IsUnder h (low + i) top
    leaf_under i l =
        let c = shape_counted in
        let u = under_all h tree low first added.built.stands (low + i) (omega arith) (omega (arith, l, c)) in
        (u.0, subst (λ x. LeadsToLeaf h x u.0 (low + i)) (sym root_top) u.1)

    -- The tree stands for the walks of the graph.
    pub stands_for : 1 ≤ bound → StandsFor g bound h top
    stands_for some = record {
      covers = covers;
      walks = λ n u.
          let i = under_leaf n u in
          subst (λ k. IsWalk g (walk h k)) i.number (subst (IsWalk g) (sym (leaf_walk i.place i.leaf i.at)) (walk_is bound g i.leaf.walk (is_leaf i.place i.leaf i.at).short));
      asks = λ n t u from to.
          let i = under_leaf n u in
          subst (λ k. value_at (node_values_in h k) t ≡ request_of g (walk h k) t) i.number
          (leaf_value i.place i.leaf t i.at from to ∙ ap (λ w. request_of g w t) (sym (leaf_walk i.place i.leaf i.at)));
    }
      where
        covers : (w : List ℕ) → IsWalk g w → (leaf : ℕ) × IsUnder h leaf top × ((t : ℕ) → 1 ≤ t → t ≤ bound → request_of g w t ≤ value_at (node_values_in h leaf) t)
        covers [] is = (low + 0, leaf_under 0 (some_leaf some), λ t from to. omega arith)
        covers (u ∷ vs) is =
            let xs : List ℕ = cut_from g bound 0 u vs in
            let a = are.covers u xs (cut_short g bound some u vs is) in
            let at : slice_get added.sorted a.0 ≡ Some a.1 = slice_get-get_or added.sorted a.0 a.1 a.2 ∙ ap (λ x. Some x) a.3 in (
              low + a.0,
              leaf_under a.0 a.2,
              λ t from to.
                  let e : request g u xs t ≡ request g u vs t = cut_asks g bound t to (u ∷ vs) in
                  let b = above_asks bound g u xs a.1.walk t a.4 from to in
                  let v = leaf_value a.0 a.1 t at from to in
                  omega (arith, e, b, v),
            )

    -- The claim's walks and pairs.
    abbrev walks_are : List (List ℕ)
    walks_are = map (λ l. l.walk) added.sorted

    abbrev pairs_are : List Pair
    pairs_are = pairs_of tree 0 (leaf_count tree)

    abbrev written : TreeClaim
    written = record { walks = walks_are; pairs = pairs_are }

    walks_long : length walks_are ≡ count
    walks_long = length-map added.sorted (λ l. l.walk)

    pairs_made : pairs_from h low first (pair_count tree) ≡ pairs_are
    pairs_made = pairs_stand h tree low 0 (leaf_count tree) low first (omega arith) (let a = first_is in let b = shape_counted in omega (arith, a, b)) added.built.stands

    pairs_long : length pairs_are ≡ pair_count tree
    pairs_long = ap length (sym pairs_made) ∙ length-map-range_with_len (λ k. pair_of low (children h k)) first (pair_count tree)

    pair_there : (i : ℕ) → i < pair_count tree → slice_get pairs_are i ≡ Some (pair_of low (children h (first + i)))
    pair_there i l =
        let d : Pair = record { left = 0; right = 0 } in
        let e = pairs_long in
        slice_get-get_or pairs_are i d (omega (arith, l, e))
        ∙ ap (λ x. Some x) (ap (λ xs. get_or xs i d) (sym pairs_made) ∙ get_or-map-range_with_len (λ k. pair_of low (children h k)) first (pair_count tree) i (first + i) d l refl)

    -- A pair of the claim and the node that it is of.
    record IsPairAt (i : ℕ) (p : Pair) : Type 0 where
      within : i < pair_count tree
      kids : HasKids h low (first + i)
      left : low + p.left ≡ kids.left
      right : low + p.right ≡ kids.right
      pair : IsPair h (first + i) kids.left kids.right

    pair_at : (i : ℕ) (p : Pair) → slice_get pairs_are i ≡ Some p → IsPairAt i p
    pair_at i p at =
        let w = slice_get_within pairs_are i p at in
        let e = pairs_long in
        let l : i < pair_count tree = omega (arith, w, e) in
        let k = kids_at i l in
        let made : pair_of low (children h (first + i)) ≡ p = same_Some (pair_of low (children h (first + i))) p (sym (pair_there i l) ∙ at) in
        let is : record { left = k.left - low; right = k.right - low } ≡ p = ap (λ o. pair_of low o) (sym k.children) ∙ made in
        let x : k.left - low ≡ p.left = ap (λ (q : Pair). q.left) is in
        let y : k.right - low ≡ p.right = ap (λ (q : Pair). q.right) is in
        let a = k.left_from in
        let b = k.right_from in
        record {
          within = l;
          kids = k;
          left = omega (arith, x, a);
          right = omega (arith, y, b);
          pair = added.built.forest.pairs (first + i) k.left k.right k.children;
        }

    -- The walks of the leaves are the claim's.
    pub walks_made : walks_from h low (length ls) ≡ walks_are
    walks_made =
        ap (λ n. map (λ k. walk h k) (range_with_len low n)) (let a = counted in let b = walks_long in let e : length ls ≡ length walks_are = omega (arith, a, b) in e)
        ∙ map_range_is (λ k. walk h k) walks_are low (λ i w at. let m = image_at (λ l. l.walk) added.sorted i w at in leaf_walk i m.source m.at ∙ m.image)

    root_is : 1 ≤ count → low + root written ≡ top
    root_is some = let a = walks_long in let b = pairs_long in let c = top_is in let d = first_is in let e = pairs_counted in omega (arith, a, b, c, d, e, some)

    -- A node of the claim is a leaf or a pair.
    node_cases : (k : ℕ) → 1 ≤ count → k ≤ root written → (IsLeafAt (low + k) × (k < count)) ⊎ ((count ≤ k) × (k - count < pair_count tree))
    node_cases k some le = go (cases_lt k count)
      where
        go : (k < count) ⊎ (count ≤ k) → (IsLeafAt (low + k) × (k < count)) ⊎ ((count ≤ k) × (k - count < pair_count tree))
        go (inl l) = inl (leaf_of (low + k) (omega arith) (omega (arith, l)), l)
        go (inr l) = inr (l, let a = walks_long in let b = pairs_long in let c = pairs_counted in omega (arith, a, b, c, le, l))

    leaf_none : (k : ℕ) → IsLeafAt (low + k) → children h (low + k) ≡ None
    leaf_none k i = subst (λ n. children h n ≡ None) i.number (leaf_children i.place i.leaf i.at)

    -- The number of a pair's node.
    node_is : (k : ℕ) → count ≤ k → first + (k - count) ≡ low + k
    node_is k l = let e = first_is in omega (arith, e, l)

    written_parts : (k : ℕ) → 1 ≤ count → k ≤ root written → node_parts written k ≡ lowered low (children h (low + k))
    written_parts k some le = go (node_cases k some le)
      where
        go : (IsLeafAt (low + k) × (k < count)) ⊎ ((count ≤ k) × (k - count < pair_count tree)) → node_parts written k ≡ lowered low (children h (low + k))
        go (inl i) = parts_before written k (let l = i.1 in let e = walks_long in omega (arith, l, e)) ∙ ap (λ o. lowered low o) (sym (leaf_none k i.0))
        go (inr i) =
            let p : Pair = pair_of low (children h (first + (k - count))) in
            let kid = kids_at (k - count) i.1 in
            let e = walks_long in
            let c = i.0 in
            parts_after written k p (omega (arith, c, e)) (ap (λ n. slice_get pairs_are (k - n)) e ∙ pair_there (k - count) i.1)
            ∙ (ap (λ o. Some ((pair_of low o).left, (pair_of low o).right)) kid.children
            ∙ (ap (λ o. lowered low o) (sym kid.children)
            ∙ ap (λ n. lowered low (children h n)) (node_is k c)))

    written_above : (k l r : ℕ) → 1 ≤ count → k ≤ root written → children h (low + k) ≡ Some (l, r) → (low ≤ l) × (low ≤ r) × (l < low + k) × (r < low + k)
    written_above k l r some le e = go (node_cases k some le)
      where
        p : IsPair h (low + k) l r
        p = added.built.forest.pairs (low + k) l r e

        go : (IsLeafAt (low + k) × (k < count)) ⊎ ((count ≤ k) × (k - count < pair_count tree)) → (low ≤ l) × (low ≤ r) × (l < low + k) × (r < low + k)
        go (inl i) = let q : ℕ × ℕ = (l, r) in absurd (none-some q (sym (leaf_none k i.0) ∙ e))
        go (inr i) =
            let kid = kids_at (k - count) i.1 in
            let q : ℕ × ℕ = (kid.left, kid.right) in
            let z : ℕ × ℕ = (l, r) in
            let same : q ≡ z = same_Some q z (sym kid.children ∙ (ap (λ n. children h n) (node_is k i.0) ∙ e)) in
            let x : kid.left ≡ l = ap (λ (y : ℕ × ℕ). y.0) same in
            let y : kid.right ≡ r = ap (λ (y : ℕ × ℕ). y.1) same in
            (subst (λ n. low ≤ n) x kid.left_from, subst (λ n. low ≤ n) y kid.right_from, p.left, p.right)

    -- The value of a node of the tree at t.
    abbrev value_of : ℕ → ℕ → ℕ
    value_of t k = value_at (node_values_in h (low + k)) t

    join_at : (t i : ℕ) (p : Pair) → slice_get pairs_are i ≡ Some p → IsJoin (value_of t) (count + i) p
    join_at t i p at =
        let q = pair_at i p at in
        let forest = added.built.forest in
        let a = q.left in
        let b = q.right in
        let c = q.pair.left in
        let d = q.pair.right in
        let e = first_is in
        let w = q.within in
        let long_pool : first + i < length h.pool = (let x = forest.same in let y = long in let z = pairs_counted in omega (arith, x, y, z, e, w)) in
        let same : length (node_values_in h q.kids.left) ≡ length (node_values_in h q.kids.right) = forest.bound q.kids.left q.kids.right (omega (arith, c, long_pool)) (omega (arith, d, long_pool)) in
        let most : value_at (node_values_in h (first + i)) t ≡ max (value_at (node_values_in h q.kids.left) t) (value_at (node_values_in h q.kids.right) t) =
        ap (λ xs. value_at xs t) q.pair.most ∙ most_value (node_values_in h q.kids.left) (node_values_in h q.kids.right) t same in
        record {
          left = omega (arith, a, c, e);
          right = omega (arith, b, d, e);
          most =
              ap (λ n. value_at (node_values_in h n) t) (let x : low + (count + i) ≡ first + i = omega (arith, e) in x)
              ∙ (most
              ∙ (ap (λ n. max (value_at (node_values_in h n) t) (value_at (node_values_in h q.kids.right) t)) (sym a)
              ∙ ap (λ n. max (value_of t p.left) (value_at (node_values_in h n) t)) (sym b)));
        }

    written_values : (k t : ℕ) → 1 ≤ count → k ≤ root written → 1 ≤ t → t ≤ bound → slice_index_or (node_values g written t) k 0 ≡ value_of t k
    written_values k t some le from to =
        let vs : List ℕ = map (λ walk. request_of g walk t) walks_are in
        let n : length vs ≡ count = length-map walks_are (λ walk. request_of g walk t) ∙ walks_long in
        joined_is (value_of t) vs pairs_are
        (λ i l.
        let w : i < count = omega (arith, l, n) in
        let leaf : Leaf = get_or added.sorted i default_leaf in
        let at : slice_get added.sorted i ≡ Some leaf = slice_get-get_or added.sorted i default_leaf w in
        get_or_from_slice_get vs i (request_of g leaf.walk t) 0 (map_got (λ walk. request_of g walk t) walks_are i leaf.walk (map_got (λ (x : Leaf). x.walk) added.sorted i leaf at))
        ∙ sym (leaf_value i leaf t at from to))
        (λ i p at. subst (λ m. IsJoin (value_of t) (m + i) p) (sym n) (join_at t i p at))
        k (let a = walks_long in let b = pairs_long in let c = pairs_counted in omega (arith, le, n, a, b, c))

    written_claim : 1 ≤ count → IsClaimOf g bound h low top written
    written_claim some = record {
      root_is = root_is some;
      within = (let a = top_is in let b = long in let c = first_is in let d = pairs_counted in omega (arith, a, b, c, d));
      parts = λ k le. written_parts k some le;
      above = λ k l r le e. written_above k l r some le e;
      values = λ k t le from to. written_values k t some le from to;
    }

    written_tree : 1 ≤ count → IsTree written
    written_tree some = record {
      some = (let a = walks_long in omega (arith, a, some));
      pairs = (let a = walks_long in let b = pairs_long in let c = pairs_counted in omega (arith, a, b, c));
      left = λ i p at. let j = (join_at 0 i p at).left in let a = walks_long in omega (arith, j, a);
      right = λ i p at. let j = (join_at 0 i p at).right in let a = walks_long in omega (arith, j, a);
      once = λ n l. named_once tree n (let a = walks_long in let b = pairs_long in let c = shape_counted in omega (arith, l, a, b, c));
    }

    covered : (u : ℕ) (vs : List ℕ) → IsShortWalk bound g (u ∷ vs) → Any (IsAbove bound g u vs) walks_are
    covered u vs short = any_map (IsAbove bound g u vs) (λ l. l.walk) added.sorted (are.covers u vs short)

    extended : (u : ℕ) (vs : List ℕ) → IsShortWalk bound g (u ∷ vs) → (k : ℕ) → k < out_degree g (last_of u vs) → IsExtendedWalk bound g written u vs k
    extended u vs short k l = go (cases_lt (span g u vs + (edge_of g (last_of u vs) k).sep) bound)
      where
        go : (span g u vs + (edge_of g (last_of u vs) k).sep < bound) ⊎ (bound ≤ span g u vs + (edge_of g (last_of u vs) k).sep) → IsExtendedWalk bound g written u vs k
        go (inr m) = inl m
        go (inl m) =
            let v : ℕ = (edge_of g (last_of u vs) k).to in
            let named = sep_of_edge g sound (last_of u vs) k (path_within g sound u vs short.0 short.1) l in
            let e = gap_of g (last_of u vs) v (edge_of g (last_of u vs) k).sep named in
            let both = span_both g u vs (v ∷ []) in
            let c = span_cons g (last_of u vs) v [] in
            let n = span_none g v in
            let x = e.0 in
            inr (covered u (vs ++ v ∷ []) (short.0, path_both g u vs (v ∷ []) short.1 (e.1, tt), omega (arith, m, both, c, n, x)))

    closed : (w : List ℕ) → IsShortWalk bound g w → IsClosedWalk bound g written w
    closed [] short = absurd short
    closed (u ∷ vs) short = λ k l. extended u vs short k l

    shorts : HasShortWalks bound g written
    shorts = All-map (IsShortWalk bound g) (λ l. l.walk) added.sorted (All-weaker (IsWalkLeaf bound g) (λ l. IsShortWalk bound g l.walk) (λ l is. is.short) added.sorted are.each)

    written_exact : IsExactTree bound g written
    written_exact = record {
      alone = All-map (IsNonDominatedWalk bound g) (λ l. l.walk) added.sorted are.alone;
      each = each;
      once = λ i j w x at bt one.
          let m = image_at (λ l. l.walk) added.sorted i w at in
          let n = image_at (λ l. l.walk) added.sorted j x bt in
          are.once i j m.source n.source m.at n.at (subst (λ y. HaveOneLabel bound g y n.source.walk) (sym m.image) (subst (λ y. HaveOneLabel bound g w y) (sym n.image) one));
    }
      where
        each : (w : List ℕ) → IsShortWalk bound g w → IsNonDominatedWalk bound g w → (i : ℕ) × (x : List ℕ) × (slice_get walks_are i ≡ Some x) × HaveOneLabel bound g w x
        each [] short alone = absurd short
        each (u ∷ vs) short alone =
            let a = are.covers u vs short in
            let at : slice_get added.sorted a.0 ≡ Some a.1 = slice_get-get_or added.sorted a.0 a.1 a.2 ∙ ap (λ x. Some x) a.3 in
            (a.0, a.1.walk, map_got (λ (x : Leaf). x.walk) added.sorted a.0 a.1 at, alone a.1.walk (is_leaf a.0 a.1 at).short a.4)

    written_rules : 1 ≤ bound → IsTreeOf bound g written
    written_rules some = record {
      short = shorts;
      covers = (
        λ v l. covered v [] (single v l some),
        All-weaker (IsShortWalk bound g) (IsClosedWalk bound g written) closed walks_are shorts,
      );
      tree = written_tree (some_leaf some);
      exact = written_exact;
      order = subst (IsSortedBy is_leaf_before) (sym (leaves_are bound g added.sorted are.each)) added.order;
      halves = claim_halved tree added.built.halved walks_are (walks_long ∙ sym shape_counted);
    }

    written_range : bound ≤ most_time → count ≤ 1000096 → IsInRangeTree written
    written_range le few = record {
      walks = All-weaker (IsShortWalk bound g) IsInRangeWalk (walk_in_range g sound bound le) walks_are shorts;
      walks_counted = (let a = walks_long in omega (arith, a, few));
      pairs = All-from_get_or IsInRangePair pairs_are none (λ i l.
          let at = slice_get-get_or pairs_are i none l in
          let j = join_at 0 i (get_or pairs_are i none) at in
          let a = j.left in
          let b = j.right in
          let c = pairs_long in
          let d = pairs_counted in
          (omega (arith, a, l, c, d, few), omega (arith, b, l, c, d, few)));
      pairs_counted = (let a = pairs_long in let b = pairs_counted in omega (arith, a, b, few));
    }
      where
        none : Pair
        none = record { left = 0; right = 0 }

    all_functions : 1 ≤ bound → All (λ xs. length xs ≡ bound) h.pool
    all_functions some =
        let i = leaf_of low (omega arith) (let c = some_leaf some in omega (arith, c)) in
        let forest = added.built.forest in
        let here : length (node_values_in h low) ≡ bound = ap (λ n. length (node_values_in h n)) (sym i.number)
        ∙ (ap length (leaf_at i.place i.leaf i.at).steps ∙ (is_leaf i.place i.leaf i.at).long) in
        let inside : low < length h.pool = (let a = forest.same in let b = long in let c = some_leaf some in omega (arith, a, b, c)) in
        All-from_get_or (λ xs. length xs ≡ bound) h.pool [] (λ k l. forest.bound k low l inside ∙ here)

    -- What is written is the tree's claim.
    claim_is : (claim : TreeClaim) → claim.walks ≡ walks_from h low (length ls) → claim.pairs ≡ pairs_from h low (low + length ls) (length ls - 1) → written ≡ claim
    claim_is claim p q =
        let a = counted in
        let b = first_is in
        let c = pairs_counted in
        let x : walks_are ≡ claim.walks = sym (p ∙ walks_made) in
        let m : low + length ls ≡ first = omega (arith, a, b) in
        let n : length ls - 1 ≡ pair_count tree = omega (arith, a, c) in
        let y : pairs_are ≡ claim.pairs = sym (q ∙ (ap (λ k. pairs_from h low k (length ls - 1)) m ∙ (ap (λ k. pairs_from h low first k) n ∙ pairs_made))) in
        ap (λ ws. record { walks = ws; pairs = pairs_are }) x ∙ ap (λ ps. record { walks = claim.walks; pairs = ps }) y

    -- The tree is one of the task.
    pub task_tree : 1 ≤ bound → bound ≤ most_time → length ls ≤ 1000096 → (t : TaskTree) → t.low ≡ low → t.top ≡ top → t.claim.walks ≡ walks_from h t.low (length ls)
        → t.claim.pairs ≡ pairs_from h t.low (t.low + length ls) (length ls - 1) → IsTaskTree g bound f h t
    task_tree some le few t is_low is_top ws ps =
        let claim : written ≡ t.claim = claim_is t.claim (ws ∙ ap (λ n. walks_from h n (length ls)) is_low) (ps ∙ ap (λ n. pairs_from h n (n + length ls) (length ls - 1)) is_low) in
        let c = counted in
        let s = some_leaf some in
        let q = first_is in
        let n = top_is in
        let m = pairs_counted in
        record {
          grows = grows_on f mid h (leaves_grow f added.sorted) added.grows;
          begins = is_low;
          ends = (let l = long in omega (arith, l, c, q, n, m, is_top));
          functions = all_functions some;
          room = (let l = long in omega (arith, l, c, few));
          stands = subst (λ n. StandsFor g bound h n) (sym is_top) (stands_for some);
          count = ap (λ n. leaves h n) is_top ∙ (added.built.count_is ∙ sym (ap length ws ∙ length-map-range_with_len (λ k. walk h k) t.low (length ls)));
          claim =
              subst (λ n. IsClaimOf g bound h n t.top t.claim) (sym is_low)
              (subst (λ n. IsClaimOf g bound h low n t.claim) (sym is_top) (subst (λ x. IsClaimOf g bound h low top x) claim (written_claim s)));
          rules = subst (IsTreeOf bound g) claim (written_rules some);
          range = subst IsInRangeTree claim (written_range le (omega (arith, c, few)));
        }
