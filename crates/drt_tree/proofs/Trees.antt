-- Trees in forests that grow.
use Rattle.std.proofs.Common.{◌≡◌, ℕ, suc, zero, ◌+◌, ◌-◌, ◌<◌, ◌≤◌, Bool, true, false, cond, List, [], ◌∷◌, ◌++◌, length, refl, sym, ap, ◌∙◌, subst, arith, append_assoc, length-append, map, take, Some, None, max}
use Rattle.std.specs.Prelude.{slice_get, slice_index_or, slice_index, ltb}
use Rattle.std.proofs.lemmas.Bool.Decides.{nat_tests}
use Rattle.std.proofs.lemmas.Option.{none-some, same_Some}
use Rattle.drt_steps.specs.Values.{max_of, value_at}
use Rattle.std.specs.Prelude.{Result, Ok, Err, IfOk}
use Rattle.std.proofs.Math.Seq.{take-append_seam}
use Rattle.std.specs.List.{All}
use Rattle.std.specs.List.Sorted.{IsPermutation, IsSortedBy}
use Rattle.std.specs.declared.sync.Arc.{Arc}
use Rattle.std.proofs.lemmas.List.Elements.{All-append, All-map}
use Rattle.std.proofs.lemmas.List.Sorted.{All-permutation}
use Rattle.drt_request.specs.Request.{Request}
use Rattle.drt_tree.specs.Leaf.{leaves_of, is_leaf_before}
use Rattle.drt_tree.specs.declared.leaf.Leaf.{Leaf}
use Rattle.drt_tree.specs.declared.node.Node.{Node}
use Rattle.drt_tree.specs.Tree.{Plain, plain, IsForest, IsPair, IsUnder, Grows, HaveOneBound, children, node_children, leaves, leaves_of_node, node_values_in, LeadsToLeaf, leaf_node, leaf_steps, with_leaves}
use Rattle.drt_tree.specs.Shape.{Shape, one, two, parts, pairs, root_of, Stands, IsBuilt, IsTreeAdded}
use Rattle.drt_tree.proofs.Apart.{roots_apart}

pub get_front : {A : Type 0} (xs ys : List A) (n : ℕ) → n < length xs → slice_get (xs ++ ys) n ≡ slice_get xs n
get_front [] ys n lt = absurd (omega arith)
get_front (x ∷ xs) ys zero lt = refl
get_front (x ∷ xs) ys (suc n) lt = get_front xs ys n (omega arith)

pub index_front : {A : Type 0} (d : A) (xs ys : List A) (n : ℕ) → n < length xs → slice_index_or (xs ++ ys) n d ≡ slice_index_or xs n d
index_front d [] ys n lt = absurd (omega arith)
index_front d (x ∷ xs) ys zero lt = refl
index_front d (x ∷ xs) ys (suc n) lt = index_front d xs ys n (omega arith)

pub get_end : {A : Type 0} (xs : List A) (y : A) → slice_get (xs ++ y ∷ []) (length xs) ≡ Some y
get_end [] y = refl
get_end (x ∷ xs) y = get_end xs y

pub index_end : {A : Type 0} (d : A) (xs : List A) (y : A) → slice_index_or (xs ++ y ∷ []) (length xs) d ≡ y
index_end d [] y = refl
index_end d (x ∷ xs) y = index_end d xs y

pub length_end : {A : Type 0} (xs : List A) (y : A) → length (xs ++ y ∷ []) ≡ length xs + 1
length_end [] y = refl
length_end (x ∷ xs) y = let e : length (xs ++ y ∷ []) ≡ length xs + 1 = length_end xs y in omega arith

length_longer : {A : Type 0} (xs ys : List A) → length xs ≤ length (xs ++ ys)
length_longer [] ys = omega arith
length_longer (x ∷ xs) ys = let e : length xs ≤ length (xs ++ ys) = length_longer xs ys in omega arith

past_end : {A : Type 0} (xs : List A) (n : ℕ) → length xs ≤ n → slice_get xs n ≡ None
past_end [] n le = refl
past_end (x ∷ xs) zero le = absurd (let h : length xs + 1 ≤ 0 = omega arith in omega arith)
past_end (x ∷ xs) (suc n) le = past_end xs n (omega arith)

append_nil : {A : Type 0} (xs : List A) → xs ++ [] ≡ xs
append_nil [] = refl
append_nil (x ∷ xs) = ap (λ ys. x ∷ ys) (append_nil xs)

pub grows_none : (f : Plain) → Grows f f
grows_none f = record { more = []; functions = []; nodes = sym (append_nil f.nodes); pool = sym (append_nil f.pool) }

pub grows_on : (f g h : Plain) → Grows f g → Grows g h → Grows f h
grows_on f g h a b = record {
  more = a.more ++ b.more;
  functions = a.functions ++ b.functions;
  nodes = b.nodes ∙ (ap (λ z. z ++ b.more) a.nodes ∙ append_assoc f.nodes a.more b.more);
  pool = b.pool ∙ (ap (λ z. z ++ b.functions) a.pool ∙ append_assoc f.pool a.functions b.functions);
}

pub grows_long : (f g : Plain) → Grows f g → length f.nodes ≤ length g.nodes
grows_long f g a = subst (λ (z : List Node). length f.nodes ≤ length z) (sym a.nodes) (length_longer f.nodes a.more)

node_stays : (f g : Plain) (n : ℕ) → Grows f g → n < length f.nodes → slice_get g.nodes n ≡ slice_get f.nodes n
node_stays f g n a lt = ap (λ z. slice_get z n) a.nodes ∙ get_front f.nodes a.more n lt

pub children_stay : (f g : Plain) (n : ℕ) → Grows f g → n < length f.nodes → children g n ≡ children f n
children_stay f g n a lt = ap node_children (node_stays f g n a lt)

pub leaves_stay : (f g : Plain) (n : ℕ) → Grows f g → n < length f.nodes → leaves g n ≡ leaves f n
leaves_stay f g n a lt = ap leaves_of_node (node_stays f g n a lt)

pub values_stay : (f g : Plain) (n : ℕ) → Grows f g → n < length f.pool → node_values_in g n ≡ node_values_in f n
values_stay f g n a lt = ap (λ z. slice_index_or z n []) a.pool ∙ index_front [] f.pool a.functions n lt

-- a node with children is there
child_within_at : (f : Plain) (n l r : ℕ) (inside : Bool) → ltb n (length f.nodes) ≡ inside → children f n ≡ Some (l, r) → n < length f.nodes
child_within_at f n l r true t h = grind (arith, nat_tests)
child_within_at f n l r false t h =
    let e : children f n ≡ None = ap node_children (past_end f.nodes n (grind (arith, nat_tests))) in
    let p : ℕ × ℕ = (l, r) in
    absurd (none-some p (sym e ∙ h))

pub child_within : (f : Plain) (n l r : ℕ) → children f n ≡ Some (l, r) → n < length f.nodes
child_within f n l r h = child_within_at f n l r (ltb n (length f.nodes)) refl h

pub stands_on : (f g : Plain) (s : Shape) (low first : ℕ) → Grows f g → Stands f s low first → Stands g s low first
stands_on f g one low first a h = (let l : length f.nodes ≤ length g.nodes = grows_long f g a in let w : low < length f.nodes = h.0 in omega arith, children_stay f g low a h.0 ∙ h.1)
stands_on f g (two l r) low first a h =
    let n : ℕ = first + pairs l + pairs r in
    let w : n < length f.nodes = child_within f n (root_of l low first) (root_of r (low + parts l) (first + pairs l)) h.2 in
    (stands_on f g l low first a h.0, stands_on f g r (low + parts l) (first + pairs l) a h.1, children_stay f g n a w ∙ h.2)

-- a pair has at each time at least the values of its children
at_most_left : (xs ys : List ℕ) (i : ℕ) → length xs ≡ length ys → slice_index xs i ≤ slice_index (max_of xs ys) i
at_most_left [] ys i e = omega arith
at_most_left (x ∷ xs) [] i e = absurd (let h : length xs + 1 ≡ 0 = omega arith in omega arith)
at_most_left (x ∷ xs) (y ∷ ys) zero e = let h : x ≤ max x y = omega arith in h
at_most_left (x ∷ xs) (y ∷ ys) (suc i) e = at_most_left xs ys i (omega arith)

at_most_right : (xs ys : List ℕ) (i : ℕ) → length xs ≡ length ys → slice_index ys i ≤ slice_index (max_of xs ys) i
at_most_right [] [] i e = omega arith
at_most_right [] (y ∷ ys) i e = absurd (let h : 0 ≡ length ys + 1 = omega arith in omega arith)
at_most_right (x ∷ xs) [] i e = absurd (let h : length xs + 1 ≡ 0 = omega arith in omega arith)
at_most_right (x ∷ xs) (y ∷ ys) zero e = let h : y ≤ max x y = omega arith in h
at_most_right (x ∷ xs) (y ∷ ys) (suc i) e = at_most_right xs ys i (omega arith)

below_most : (f : Plain) (l r t : ℕ) (b : Bool) → length (node_values_in f l) ≡ length (node_values_in f r)
    → slice_index (node_values_in f (cond b l r)) (t - 1) ≤ slice_index (max_of (node_values_in f l) (node_values_in f r)) (t - 1)
below_most f l r t true e = at_most_left (node_values_in f l) (node_values_in f r) (t - 1) e
below_most f l r t false e = at_most_right (node_values_in f l) (node_values_in f r) (t - 1) e

child_below : (f : Plain) (n l r t : ℕ) (b : Bool) → IsForest f → children f n ≡ Some (l, r) → value_at (node_values_in f (cond b l r)) t ≤ value_at (node_values_in f n) t
unfolding value_at
child_below f n l r t b k h =
    let p : IsPair f n l r = k.pairs n l r h in
    let w : n < length f.nodes = child_within f n l r h in
    let s : length f.nodes ≡ length f.pool = k.same in
    let pl : l < n = p.left in
    let pr : r < n = p.right in
    let e : length (node_values_in f l) ≡ length (node_values_in f r) = k.bound l r (omega arith) (omega arith) in
    subst (λ (z : List ℕ). slice_index (node_values_in f (cond b l r)) (t - 1) ≤ slice_index z (t - 1)) (sym p.most) (below_most f l r t b e)

pub leaf_below : (f : Plain) (n : ℕ) (turns : List Bool) (leaf t : ℕ) → IsForest f → LeadsToLeaf f n turns leaf → value_at (node_values_in f leaf) t ≤ value_at (node_values_in f n) t
leaf_below f n [] leaf t k h = subst (λ (z : ℕ). value_at (node_values_in f z) t ≤ value_at (node_values_in f n) t) h.0 (omega arith)
leaf_below f n (b ∷ turns) leaf t k h =
    let a : value_at (node_values_in f leaf) t ≤ value_at (node_values_in f (cond b h.0 h.1)) t = leaf_below f (cond b h.0 h.1) turns leaf t k h.3 in
    let c : value_at (node_values_in f (cond b h.0 h.1)) t ≤ value_at (node_values_in f n) t = child_below f n h.0 h.1 t b k h.2 in
    omega arith

-- one leaf is a tree
pub built_one : (f : Plain) (low count : ℕ) → IsForest f → count ≡ 1 → low < length f.nodes → children f low ≡ None → IsBuilt f f low count low
built_one f low count k e w h = record {
  forest = k;
  long = omega arith;
  within = w;
  count_is = k.ones low h ∙ sym e;
  shape = one;
  halved = tt;
  parts_are = sym e;
  stands = (w, h);
  root_is = refl;
}

-- the functions of a forest with one more
pub record Paired (f : Plain) (n l r : ℕ) (g : Plain) : Type 0 where
  pub nodes : g.nodes ≡ f.nodes ++ record { children = Some (l, r); leaves = n; walk = [] } ∷ []
  pub pool : g.pool ≡ f.pool ++ max_of (node_values_in f l) (node_values_in f r) ∷ []

paired_grows : (f g : Plain) (n l r : ℕ) → Paired f n l r g → Grows f g
paired_grows f g n l r p = record
    { more = record { children = Some (l, r); leaves = n; walk = [] } ∷ []; functions = max_of (node_values_in f l) (node_values_in f r) ∷ []; nodes = p.nodes; pool = p.pool }

new_node : (f g : Plain) (n l r : ℕ) → Paired f n l r g → slice_get g.nodes (length f.nodes) ≡ Some (record { children = Some (l, r); leaves = n; walk = [] })
new_node f g n l r p = ap (λ z. slice_get z (length f.nodes)) p.nodes ∙ get_end f.nodes (record { children = Some (l, r); leaves = n; walk = [] })

new_values : (f g : Plain) (n l r : ℕ) → length f.nodes ≡ length f.pool → Paired f n l r g → node_values_in g (length f.nodes) ≡ max_of (node_values_in f l) (node_values_in f r)
new_values f g n l r e p = ap (λ z. slice_index_or z (length f.nodes) []) p.pool
    ∙ (ap (λ k. slice_index_or (f.pool ++ max_of (node_values_in f l) (node_values_in f r) ∷ []) k []) e ∙ index_end [] f.pool (max_of (node_values_in f l) (node_values_in f r)))

paired_long : (f g : Plain) (n l r : ℕ) → Paired f n l r g → length g.nodes ≡ length f.nodes + 1
paired_long f g n l r p = ap length p.nodes ∙ length_end f.nodes (record { children = Some (l, r); leaves = n; walk = [] })

paired_long_pool : (f g : Plain) (n l r : ℕ) → Paired f n l r g → length g.pool ≡ length f.pool + 1
paired_long_pool f g n l r p = ap length p.pool ∙ length_end f.pool (max_of (node_values_in f l) (node_values_in f r))

length-max_of : (xs ys : List ℕ) → length xs ≡ length ys → length (max_of xs ys) ≡ length xs
length-max_of [] ys e = refl
length-max_of (x ∷ xs) [] e = absurd (let h : length xs + 1 ≡ 0 = omega arith in omega arith)
length-max_of (x ∷ xs) (y ∷ ys) e = ap suc (length-max_of xs ys (omega arith))

-- each pair has one leaf more than it has pairs
parts_pairs : (s : Shape) → parts s ≡ pairs s + 1
parts_pairs one = refl
parts_pairs (two l r) = let a : parts l ≡ pairs l + 1 = parts_pairs l in let b : parts r ≡ pairs r + 1 = parts_pairs r in omega arith

pub any_default : {A : Type 0} (d e : A) (xs : List A) (n : ℕ) → n < length xs → slice_index_or xs n d ≡ slice_index_or xs n e
any_default d e [] n lt = absurd (omega arith)
any_default d e (x ∷ xs) zero lt = refl
any_default d e (x ∷ xs) (suc n) lt = any_default d e xs n (omega arith)

pair_on : (f g : Plain) (n l r : ℕ) → Grows f g → length f.nodes ≡ length f.pool → n < length f.nodes → IsPair f n l r → IsPair g n l r
pair_on f g n l r a e w p =
    let wl : l < n = p.left in
    let wr : r < n = p.right in
    let vl : node_values_in g l ≡ node_values_in f l = values_stay f g l a (omega arith) in
    let vr : node_values_in g r ≡ node_values_in f r = values_stay f g r a (omega arith) in
    let vn : node_values_in g n ≡ node_values_in f n = values_stay f g n a (omega arith) in
    let cl : leaves g l ≡ leaves f l = leaves_stay f g l a (omega arith) in
    let cr : leaves g r ≡ leaves f r = leaves_stay f g r a (omega arith) in
    let cn : leaves g n ≡ leaves f n = leaves_stay f g n a w in
    let c : leaves f n ≡ leaves f l + leaves f r = p.count in
    record {
      left = p.left;
      right = p.right;
      count = omega arith;
      most = vn ∙ (p.most ∙ (ap (λ z. max_of z (node_values_in f r)) (sym vl) ∙ ap (λ z. max_of (node_values_in g l) z) (sym vr)));
    }

pair_new : (f g : Plain) (n l r : ℕ) → IsForest f → Paired f n l r g → l < length f.nodes → r < length f.nodes → n ≡ leaves f l + leaves f r → IsPair g (length f.nodes) l r
pair_new f g n l r k p wl wr e =
    let a : Grows f g = paired_grows f g n l r p in
    let s : length f.nodes ≡ length f.pool = k.same in
    let vl : node_values_in g l ≡ node_values_in f l = values_stay f g l a (omega arith) in
    let vr : node_values_in g r ≡ node_values_in f r = values_stay f g r a (omega arith) in
    let cl : leaves g l ≡ leaves f l = leaves_stay f g l a wl in
    let cr : leaves g r ≡ leaves f r = leaves_stay f g r a wr in
    let cn : leaves g (length f.nodes) ≡ n = ap leaves_of_node (new_node f g n l r p) in
    record {
      left = wl;
      right = wr;
      count = omega arith;
      most = new_values f g n l r s p ∙ (ap (λ z. max_of z (node_values_in f r)) (sym vl) ∙ ap (λ z. max_of (node_values_in g l) z) (sym vr));
    }

paired_pair : (f g : Plain) (n l r : ℕ) → IsForest f → Paired f n l r g → l < length f.nodes → r < length f.nodes → n ≡ leaves f l + leaves f r
    → (m l2 r2 : ℕ) (old : Bool) → ltb m (length f.nodes) ≡ old → children g m ≡ Some (l2, r2) → IsPair g m l2 r2
paired_pair f g n l r k p wl wr e m l2 r2 true t h =
    let a : Grows f g = paired_grows f g n l r p in
    let w : m < length f.nodes = grind (arith, nat_tests) in
    pair_on f g m l2 r2 a k.same w (k.pairs m l2 r2 (sym (children_stay f g m a w) ∙ h))
paired_pair f g n l r k p wl wr e m l2 r2 false t h =
    let late : length f.nodes ≤ m = grind (arith, nat_tests) in
    let w : m < length g.nodes = child_within g m l2 r2 h in
    let long : length g.nodes ≡ length f.nodes + 1 = paired_long f g n l r p in
    let is : length f.nodes ≡ m = omega arith in
    let v : ℕ × ℕ = (l, r) in
    let v2 : ℕ × ℕ = (l2, r2) in
    let c : children g m ≡ Some v = ap (λ z. children g z) (sym is) ∙ ap node_children (new_node f g n l r p) in
    let same : v ≡ v2 = same_Some v v2 (sym c ∙ h) in
    let el : l ≡ l2 = ap (λ (z : ℕ × ℕ). z.0) same in
    let er : r ≡ r2 = ap (λ (z : ℕ × ℕ). z.1) same in
    let q : IsPair g (length f.nodes) l r = pair_new f g n l r k p wl wr e in
    let q1 : IsPair g m l r = subst (λ (z : ℕ). IsPair g z l r) is q in
    let q2 : IsPair g m l2 r = subst (λ (z : ℕ). IsPair g m z r) el q1 in
    subst (λ (z : ℕ). IsPair g m l2 z) er q2

paired_ones_past : (f g : Plain) (n l r : ℕ) → Paired f n l r g → (m : ℕ) (inside : Bool) → ltb m (length g.nodes) ≡ inside → length f.nodes ≤ m → children g m ≡ None → leaves g m ≡ 1
paired_ones_past f g n l r p m true t late h =
    let w : m < length g.nodes = grind (arith, nat_tests) in
    let long : length g.nodes ≡ length f.nodes + 1 = paired_long f g n l r p in
    let is : length f.nodes ≡ m = omega arith in
    let v : ℕ × ℕ = (l, r) in
    let c : children g m ≡ Some v = ap (λ z. children g z) (sym is) ∙ ap node_children (new_node f g n l r p) in
    absurd (none-some v (sym h ∙ c))
paired_ones_past f g n l r p m false t late h = ap leaves_of_node (past_end g.nodes m (grind (arith, nat_tests)))

paired_ones : (f g : Plain) (n l r : ℕ) → IsForest f → Paired f n l r g → (m : ℕ) (old : Bool) → ltb m (length f.nodes) ≡ old → children g m ≡ None → leaves g m ≡ 1
paired_ones f g n l r k p m true t h =
    let a : Grows f g = paired_grows f g n l r p in
    let w : m < length f.nodes = grind (arith, nat_tests) in
    leaves_stay f g m a w ∙ k.ones m (sym (children_stay f g m a w) ∙ h)
paired_ones f g n l r k p m false t h = paired_ones_past f g n l r p m (ltb m (length g.nodes)) refl (grind (arith, nat_tests)) h

paired_bound : (f g : Plain) (n l r : ℕ) → IsForest f → Paired f n l r g → l < length f.nodes → r < length f.nodes → (m : ℕ) (old : Bool) → ltb m (length f.pool) ≡ old
    → m < length g.pool → length (node_values_in g m) ≡ length (node_values_in f l)
paired_bound f g n l r k p wl wr m true t w =
    let a : Grows f g = paired_grows f g n l r p in
    let s : length f.nodes ≡ length f.pool = k.same in
    let w2 : m < length f.pool = grind (arith, nat_tests) in
    ap length (values_stay f g m a w2) ∙ k.bound m l w2 (omega arith)
paired_bound f g n l r k p wl wr m false t w =
    let s : length f.nodes ≡ length f.pool = k.same in
    let late : length f.pool ≤ m = grind (arith, nat_tests) in
    let long : length g.pool ≡ length f.pool + 1 = paired_long_pool f g n l r p in
    let is : m ≡ length f.nodes = omega arith in
    ap (λ z. length (node_values_in g z)) is ∙ (ap length (new_values f g n l r s p) ∙ length-max_of (node_values_in f l) (node_values_in f r) (k.bound l r (omega arith) (omega arith)))

-- a leaf under an old node of a forest that grew was under it before
turned_within : (f : Plain) (n l r : ℕ) (b : Bool) → n < length f.nodes → IsPair f n l r → cond b l r < length f.nodes
turned_within f n l r true w p = let le : l < n = p.left in omega arith
turned_within f n l r false w p = let le : r < n = p.right in omega arith

leads_back : (f g : Plain) → Grows f g → IsForest f → (n : ℕ) (turns : List Bool) (leaf : ℕ) → n < length f.nodes → LeadsToLeaf g n turns leaf → LeadsToLeaf f n turns leaf
leads_back f g a k n [] leaf w h = (h.0, sym (children_stay f g n a w) ∙ h.1)
leads_back f g a k n (b ∷ turns) leaf w h =
    let e : children f n ≡ Some (h.0, h.1) = sym (children_stay f g n a w) ∙ h.2 in
    let next : cond b h.0 h.1 < length f.nodes = turned_within f n h.0 h.1 b w (k.pairs n h.0 h.1 e) in
    (h.0, h.1, e, leads_back f g a k (cond b h.0 h.1) turns leaf next h.3)

under_back : (f g : Plain) → Grows f g → IsForest f → (n leaf : ℕ) → n < length f.nodes → IsUnder g leaf n → IsUnder f leaf n
under_back f g a k n leaf w h = (h.0, leads_back f g a k n h.0 leaf w h.1)

-- the parts of an old node stay apart
apart_stays : (f g : Plain) (n l r leaf : ℕ) → Grows f g → IsForest f → n < length f.nodes → children g n ≡ Some (l, r) → IsUnder g leaf l → ¬ IsUnder g leaf r
apart_stays f g n l r leaf a k w h under other =
    let e : children f n ≡ Some (l, r) = sym (children_stay f g n a w) ∙ h in
    let p : IsPair f n l r = k.pairs n l r e in
    let wl : l < n = p.left in
    let wr : r < n = p.right in
    k.apart n l r leaf e (under_back f g a k l leaf (omega arith) under) (under_back f g a k r leaf (omega arith) other)

paired_apart : (f g : Plain) (n l r : ℕ) → IsForest f → Paired f n l r g → l < length f.nodes → r < length f.nodes → ((leaf : ℕ) → IsUnder f leaf l → ¬ IsUnder f leaf r)
    → (m l2 r2 leaf : ℕ) (old : Bool) → ltb m (length f.nodes) ≡ old → children g m ≡ Some (l2, r2) → IsUnder g leaf l2 → ¬ IsUnder g leaf r2
paired_apart f g n l r k p wl wr apart m l2 r2 leaf true t h = apart_stays f g m l2 r2 leaf (paired_grows f g n l r p) k (grind (arith, nat_tests)) h
paired_apart f g n l r k p wl wr apart m l2 r2 leaf false t h =
    let late : length f.nodes ≤ m = grind (arith, nat_tests) in
    let w : m < length g.nodes = child_within g m l2 r2 h in
    let long : length g.nodes ≡ length f.nodes + 1 = paired_long f g n l r p in
    let is : length f.nodes ≡ m = omega arith in
    let v : ℕ × ℕ = (l, r) in
    let v2 : ℕ × ℕ = (l2, r2) in
    let c : children g m ≡ Some v = ap (λ z. children g z) (sym is) ∙ ap node_children (new_node f g n l r p) in
    let same : v ≡ v2 = same_Some v v2 (sym c ∙ h) in
    let el : l2 ≡ l = sym (ap (λ (z : ℕ × ℕ). z.0) same) in
    let er : r2 ≡ r = sym (ap (λ (z : ℕ × ℕ). z.1) same) in
    let a : Grows f g = paired_grows f g n l r p in
    λ under other. apart leaf (under_back f g a k l leaf wl (subst (λ (z : ℕ). IsUnder g leaf z) el under)) (under_back f g a k r leaf wr (subst (λ (z : ℕ). IsUnder g leaf z) er other))

paired_forest : (f g : Plain) (n l r : ℕ) → IsForest f → Paired f n l r g → l < length f.nodes → r < length f.nodes → n ≡ leaves f l + leaves f r
    → ((leaf : ℕ) → IsUnder f leaf l → ¬ IsUnder f leaf r) → IsForest g
paired_forest f g n l r k p wl wr e apart =
    let s : length f.nodes ≡ length f.pool = k.same in
    let a : length g.nodes ≡ length f.nodes + 1 = paired_long f g n l r p in
    let b : length g.pool ≡ length f.pool + 1 = paired_long_pool f g n l r p in
    record {
      same = omega arith;
      pairs = λ m l2 r2 h. paired_pair f g n l r k p wl wr e m l2 r2 (ltb m (length f.nodes)) refl h;
      ones = λ m h. paired_ones f g n l r k p m (ltb m (length f.nodes)) refl h;
      bound = λ i j wi wj. paired_bound f g n l r k p wl wr i (ltb i (length f.pool)) refl wi ∙ sym (paired_bound f g n l r k p wl wr j (ltb j (length f.pool)) refl wj);
      apart = λ m l2 r2 leaf h. paired_apart f g n l r k p wl wr apart m l2 r2 leaf (ltb m (length f.nodes)) refl h;
    }

-- two trees and their pair are a tree
pub built_two : (f a b g : Plain) (low count half rest l r : ℕ) → half + rest ≡ count → rest ≤ half → half ≤ rest + 1 → Grows f a → IsBuilt f a low half l → Grows a b
    → IsBuilt a b (low + half) rest r → Paired b count l r g → IsBuilt f g low count (length b.nodes)
built_two f a b g low count half rest l r sum le ge ga ba gb bb p =
    let gg : Grows b g = paired_grows b g count l r p in
    let ab : length a.nodes ≤ length b.nodes = grows_long a b gb in
    let lw : l < length a.nodes = ba.within in
    let rw : r < length b.nodes = bb.within in
    let cl : leaves b l ≡ half = leaves_stay a b l gb lw ∙ ba.count_is in
    let cr : leaves b r ≡ rest = bb.count_is in
    let long : length g.nodes ≡ length b.nodes + 1 = paired_long b g count l r p in
    let la : length a.nodes + 1 ≡ length f.nodes + half = ba.long in
    let lb : length b.nodes + 1 ≡ length a.nodes + rest = bb.long in
    let sa : parts ba.shape ≡ half = ba.parts_are in
    let sb : parts bb.shape ≡ rest = bb.parts_are in
    let pa : parts ba.shape ≡ pairs ba.shape + 1 = parts_pairs ba.shape in
    let pb : parts bb.shape ≡ pairs bb.shape + 1 = parts_pairs bb.shape in
    let first : length a.nodes ≡ length f.nodes + pairs ba.shape = omega arith in
    let root : length b.nodes ≡ length f.nodes + pairs ba.shape + pairs bb.shape = omega arith in
    let second : low + half ≡ low + parts ba.shape = omega arith in
    let right : Stands g bb.shape (low + half) (length a.nodes) = stands_on b g bb.shape (low + half) (length a.nodes) gg bb.stands in
    let right2 : Stands g bb.shape (low + parts ba.shape) (length a.nodes) = subst (λ (z : ℕ). Stands g bb.shape z (length a.nodes)) second right in
    let right3 : Stands g bb.shape (low + parts ba.shape) (length f.nodes + pairs ba.shape) = subst (λ (z : ℕ). Stands g bb.shape (low + parts ba.shape) z) first right2 in
    let rr : r ≡ root_of bb.shape (low + parts ba.shape) (length f.nodes + pairs ba.shape) = bb.root_is
    ∙ (ap (λ z. root_of bb.shape z (length a.nodes)) second ∙ ap (λ z. root_of bb.shape (low + parts ba.shape) z) first) in
    let left1 : Stands b ba.shape low (length f.nodes) = stands_on a b ba.shape low (length f.nodes) gb ba.stands in
    let right1 : Stands b bb.shape (low + parts ba.shape) (length a.nodes) = subst (λ (z : ℕ). Stands b bb.shape z (length a.nodes)) second bb.stands in
    let rr1 : r ≡ root_of bb.shape (low + parts ba.shape) (length a.nodes) = bb.root_is ∙ ap (λ z. root_of bb.shape z (length a.nodes)) second in
    let apart : (leaf : ℕ) → IsUnder b leaf l → ¬ IsUnder b leaf r = λ leaf under other. roots_apart b ba.shape bb.shape low (length f.nodes) (length a.nodes) leaf left1 right1
    (subst (λ (z : ℕ). IsUnder b leaf z) ba.root_is under) (subst (λ (z : ℕ). IsUnder b leaf z) rr1 other) in
    let kids : children g (length b.nodes) ≡ Some (l, r) = ap node_children (new_node b g count l r p) in
    let kids2 : children g (length f.nodes + pairs ba.shape + pairs bb.shape) ≡ Some
    (root_of ba.shape low (length f.nodes), root_of bb.shape (low + parts ba.shape) (length f.nodes + pairs ba.shape)) =
    ap (λ z. children g z) (sym root) ∙ (kids ∙ (ap (λ z. Some (z, r)) ba.root_is ∙ ap (λ z. Some (root_of ba.shape low (length f.nodes), z)) rr)) in
    record {
      forest = paired_forest b g count l r bb.forest p (omega arith) rw (omega arith) apart;
      long = omega arith;
      within = omega arith;
      count_is = ap leaves_of_node (new_node b g count l r p);
      shape = two ba.shape bb.shape;
      halved = (ba.halved, bb.halved, omega arith, omega arith);
      parts_are = omega arith;
      stands = (stands_on a g ba.shape low (length f.nodes) (grows_on a b g gb gg) ba.stands, right3, kids2);
      root_is = root;
    }

-- leaves behind the nodes
get_past : {A : Type 0} (xs ys : List A) (k : ℕ) → slice_get (xs ++ ys) (length xs + k) ≡ slice_get ys k
get_past [] ys k = ap (λ z. slice_get ys z) (let e : 0 + k ≡ k = omega arith in e)
get_past (x ∷ xs) ys k = ap (λ z. slice_get (x ∷ (xs ++ ys)) z) (let e : length xs + 1 + k ≡ suc (length xs + k) = omega arith in
    let f : length (x ∷ xs) + k ≡ suc (length xs + k) = omega arith in f) ∙ get_past xs ys k

leaf_children : (ls : List Leaf) (k : ℕ) → node_children (slice_get (map leaf_node ls) k) ≡ None
leaf_children [] k = refl
leaf_children (l ∷ ls) zero = refl
leaf_children (l ∷ ls) (suc k) = leaf_children ls k

leaf_ones : (ls : List Leaf) (k : ℕ) → leaves_of_node (slice_get (map leaf_node ls) k) ≡ 1
leaf_ones [] k = refl
leaf_ones (l ∷ ls) zero = refl
leaf_ones (l ∷ ls) (suc k) = leaf_ones ls k

past_node : (f : Plain) (ls : List Leaf) (n : ℕ) → length f.nodes ≤ n → slice_get (with_leaves f ls).nodes n ≡ slice_get (map leaf_node ls) (n - length f.nodes)
past_node f ls n le = ap (λ z. slice_get (f.nodes ++ map leaf_node ls) z) (let e : n ≡ length f.nodes + (n - length f.nodes) = omega arith in e)
    ∙ get_past f.nodes (map leaf_node ls) (n - length f.nodes)

pub leaves_grow : (f : Plain) (ls : List Leaf) → Grows f (with_leaves f ls)
leaves_grow f ls = record { more = map leaf_node ls; functions = map leaf_steps ls; nodes = refl; pool = refl }

pub leaf_none : (f : Plain) (ls : List Leaf) (n : ℕ) → length f.nodes ≤ n → children (with_leaves f ls) n ≡ None
leaf_none f ls n le = ap node_children (past_node f ls n le) ∙ leaf_children ls (n - length f.nodes)

leaf_one : (f : Plain) (ls : List Leaf) (n : ℕ) → length f.nodes ≤ n → leaves (with_leaves f ls) n ≡ 1
leaf_one f ls n le = ap leaves_of_node (past_node f ls n le) ∙ leaf_ones ls (n - length f.nodes)

with_pair : (f : Plain) (ls : List Leaf) → IsForest f → (n l r : ℕ) (old : Bool) → ltb n (length f.nodes) ≡ old → children (with_leaves f ls) n ≡ Some (l, r) → IsPair (with_leaves f ls) n l r
with_pair f ls k n l r true t h =
    let w : n < length f.nodes = grind (arith, nat_tests) in
    pair_on f (with_leaves f ls) n l r (leaves_grow f ls) k.same w (k.pairs n l r (sym (children_stay f (with_leaves f ls) n (leaves_grow f ls) w) ∙ h))
with_pair f ls k n l r false t h =
    let p : ℕ × ℕ = (l, r) in
    absurd (none-some p (sym (leaf_none f ls n (grind (arith, nat_tests))) ∙ h))

with_apart : (f : Plain) (ls : List Leaf) → IsForest f → (n l r leaf : ℕ) (old : Bool) → ltb n (length f.nodes) ≡ old → children (with_leaves f ls) n ≡ Some (l, r)
    → IsUnder (with_leaves f ls) leaf l → ¬ IsUnder (with_leaves f ls) leaf r
with_apart f ls k n l r leaf true t h = apart_stays f (with_leaves f ls) n l r leaf (leaves_grow f ls) k (grind (arith, nat_tests)) h
with_apart f ls k n l r leaf false t h =
    let p : ℕ × ℕ = (l, r) in
    absurd (none-some p (sym (leaf_none f ls n (grind (arith, nat_tests))) ∙ h))

with_one : (f : Plain) (ls : List Leaf) → IsForest f → (n : ℕ) (old : Bool) → ltb n (length f.nodes) ≡ old → children (with_leaves f ls) n ≡ None → leaves (with_leaves f ls) n ≡ 1
with_one f ls k n true t h =
    let w : n < length f.nodes = grind (arith, nat_tests) in
    leaves_stay f (with_leaves f ls) n (leaves_grow f ls) w ∙ k.ones n (sym (children_stay f (with_leaves f ls) n (leaves_grow f ls) w) ∙ h)
with_one f ls k n false t h = leaf_one f ls n (grind (arith, nat_tests))

length-nodes : (ls : List Leaf) → length (map leaf_node ls) ≡ length ls
length-nodes [] = refl
length-nodes (l ∷ ls) = ap suc (length-nodes ls)

same_maps : (ls : List Leaf) → length (map leaf_node ls) ≡ length (map leaf_steps ls)
same_maps [] = refl
same_maps (l ∷ ls) = ap suc (same_maps ls)

maps_end : {A B : Type 0} (f : A → B) (xs : List A) (x : A) → map f xs ++ f x ∷ [] ≡ map f (xs ++ x ∷ [])
maps_end f [] x = refl
maps_end f (y ∷ xs) x = ap (λ z. f y ∷ z) (maps_end f xs x)

long_leaves : (xs : List Node) (ys : List (List ℕ)) (ls : List Leaf) → length xs ≡ length ys → length (xs ++ map leaf_node ls) ≡ length (ys ++ map leaf_steps ls)
long_leaves xs ys ls e =
    length-append xs (map leaf_node ls) ∙ (ap (λ z. z + length (map leaf_node ls)) e ∙ (ap (λ z. length ys + z) (same_maps ls) ∙ sym (length-append ys (map leaf_steps ls))))

pub with_forest : (f : Plain) (ls : List Leaf) → IsForest f → HaveOneBound f.pool ls → IsForest (with_leaves f ls)
with_forest f ls k h =
    let all : All (λ (xs : List ℕ). length xs ≡ h.0) (f.pool ++ map leaf_steps ls) = All-append (λ (xs : List ℕ). length xs ≡ h.0) f.pool (map leaf_steps ls) h.1
    (All-map (λ (xs : List ℕ). length xs ≡ h.0) leaf_steps ls h.2) in
    record {
      same = long_leaves f.nodes f.pool ls k.same;
      pairs = λ n l r e. with_pair f ls k n l r (ltb n (length f.nodes)) refl e;
      ones = λ n e. with_one f ls k n (ltb n (length f.nodes)) refl e;
      bound = λ m n wm wn. all m [] wm ∙ sym (all n [] wn);
      apart = λ n l r leaf e. with_apart f ls k n l r leaf (ltb n (length f.nodes)) refl e;
    }

pub with_long : (f : Plain) (ls : List Leaf) → length (with_leaves f ls).nodes ≡ length f.nodes + length ls
with_long f ls = length-append f.nodes (map leaf_node ls) ∙ ap (λ z. length f.nodes + z) (length-nodes ls)

pub one_bound : (pool : List (List ℕ)) (ls ks : List Leaf) → IsPermutation ls ks → HaveOneBound pool ls → HaveOneBound pool ks
one_bound pool ls ks p h = (h.0, h.1, All-permutation (λ (l : Leaf). length l.steps ≡ h.0) ls ks p h.2)

pub length-leaves_of : {Z : Type 0} (labels : List (Arc Request Z)) (walks : List (List ℕ)) → length labels ≡ length walks → length (leaves_of labels walks) ≡ length labels
length-leaves_of [] walks e = refl
length-leaves_of (l ∷ labels) [] e = absurd (let h : length labels + 1 ≡ 0 = omega arith in omega arith)
length-leaves_of (l ∷ labels) (w ∷ walks) e = ap suc (length-leaves_of labels walks (omega arith))

pub map_more : {A B : Type 0} (f : A → B) (front : List B) (xs : List A) (x : A) → (front ++ map f xs) ++ f x ∷ [] ≡ front ++ map f (xs ++ x ∷ [])
map_more f front xs x = append_assoc front (map f xs) (f x ∷ []) ∙ ap (λ z. front ++ z) (maps_end f xs x)

pub if_ok_more : {T E : Type 0} (P Q : T → Type 0) (r : Result T E) → ((x : T) → P x → Q x) → IfOk r P → IfOk r Q
if_ok_more P Q (Ok x) f h = f x h
if_ok_more P Q (Err e) f h = h

pub plain_is : (nodes nodes2 : List Node) (pool pool2 : List (List ℕ)) → nodes ≡ nodes2 → pool ≡ pool2 → plain nodes pool ≡ plain nodes2 pool2
plain_is nodes nodes2 pool pool2 a b = ap (λ z. plain z pool) a ∙ ap (λ z. plain nodes2 z) b

pub added : (f p g : Plain) (ls sorted : List Leaf) (low count root : ℕ) → p ≡ with_leaves f sorted → IsPermutation ls sorted → IsSortedBy is_leaf_before sorted
    → low ≡ length f.nodes → count ≡ length ls → Grows p g → IsBuilt p g low count root → IsTreeAdded f g ls root
added f p g ls sorted low count root e perm order el ec gr b =
    let b1 : IsBuilt (with_leaves f sorted) g low count root = subst (λ (z : Plain). IsBuilt z g low count root) e b in
    let b2 : IsBuilt (with_leaves f sorted) g (length f.nodes) count root = subst (λ (z : ℕ). IsBuilt (with_leaves f sorted) g z count root) el b1 in
    record {
      sorted = sorted;
      permutation = perm;
      order = order;
      grows = subst (λ (z : Plain). Grows z g) e gr;
      built = subst (λ (z : ℕ). IsBuilt (with_leaves f sorted) g (length f.nodes) z root) ec b2;
    }

-- what was there first is left by cutting the rest off
pub cut : (f g : Plain) (m n : ℕ) → Grows f g → m ≡ length f.nodes → n ≡ length f.pool → plain (take m g.nodes) (take n g.pool) ≡ f
cut f g m n a e d =
    plain_is (take m g.nodes) f.nodes (take n g.pool) f.pool
    (ap (λ z. take z g.nodes) e ∙ (ap (λ z. take (length f.nodes) z) a.nodes ∙ take-append_seam f.nodes a.more))
    (ap (λ z. take z g.pool) d ∙ (ap (λ z. take (length f.pool) z) a.pool ∙ take-append_seam f.pool a.functions))
