-- From the kept nodes of a finished search to the leaves of a tree.
use Rattle.std.proofs.Common.{◌≡◌, ℕ, zero, suc, ◌<◌, ◌≤◌, ◌⊎◌, inl, inr, true, false, cond, Some, List, [], ◌∷◌, ◌++◌, All, length, get_or, refl, sym, ap, ◌∙◌, subst, arith}
use Rattle.std.specs.Prelude.{Any, Contains, slice_get, ◌==◌}
use Rattle.std.specs.List.{swap}
use Rattle.std.specs.List.Sorted.{IsPermutation}
use Rattle.std.proofs.lemmas.Bool.{cases_lt}
use Rattle.std.proofs.lemmas.Bool.Decides.{nat_tests}
use Rattle.std.proofs.lemmas.List.Edits.{Swapped, swapped_from_swap, length-swap}
use Rattle.std.proofs.lemmas.List.Elements.{All-nil, All-push}
use Rattle.std.proofs.lemmas.List.Sorted.{All-permutation, Contains-permutation, IsPermutation-keeps}
use Rattle.std.proofs.lemmas.Option.{none-some, same_Some, slice_get_within, slice_get-get_or, get_or_from_slice_get}
use Rattle.drt_model.specs.Digraph.{Digraph, IsSoundGraph}
use Rattle.drt_request.specs.Request.{Request, request_algebra}
use Rattle.drt_request.specs.Walk.{IsRequestLabelOf}
use Rattle.drt_steps.specs.Values.{value_at}
use Rattle.drt_table.specs.Cover.{IsFront, KeptAt}
use Rattle.drt_table.specs.Machine.{Setting}
use Rattle.drt_table.specs.Node.{NodeOf, is_kept}
use Rattle.drt_tree.specs.declared.leaf.Leaf.{Leaf}
use Rattle.drt_claims.specs.Trees.{IsAbove, IsShortWalk}
use Rattle.drt_sp.specs.Gathering.{AreLeavesGathered, IsLeafOfNode}
use Rattle.drt_sp.specs.TaskTrees.{AreWalkLeaves, IsWalkLeaf}
use Rattle.drt_sp.specs.TreeClaims.{HaveOneLabel, IsNonDominatedWalk}
use Rattle.drt_sp.proofs.RequestWalks.{IsLabelled, walk_short, short_walk, above_of, dominates_of, same_labels, one_label}
use Rattle.drt_model.specs.Walk.{request_of}

-- An element of a list with one more at its end.
got_push : {A : Type 0} (xs : List A) (y : A) (i : ℕ) (x : A) → slice_get (xs ++ y ∷ []) i ≡ Some x → (slice_get xs i ≡ Some x) ⊎ ((i ≡ length xs) × (y ≡ x))
got_push [] y zero x e = inr (refl, same_Some y x e)
got_push [] y (suc i) x e = absurd (none-some x e)
got_push (z ∷ xs) y zero x e = inl e
got_push (z ∷ xs) y (suc i) x e = go (got_push xs y i x e)
  where
    go : (slice_get xs i ≡ Some x) ⊎ ((i ≡ length xs) × (y ≡ x)) → (slice_get xs i ≡ Some x) ⊎ ((suc i ≡ suc (length xs)) × (y ≡ x))
    go (inl h) = inl h
    go (inr h) = inr (ap suc h.0, h.1)

got_front : {A : Type 0} (xs : List A) (y : A) (i : ℕ) (x : A) → slice_get xs i ≡ Some x → slice_get (xs ++ y ∷ []) i ≡ Some x
got_front [] y i x e = absurd (none-some x e)
got_front (z ∷ xs) y zero x e = e
got_front (z ∷ xs) y (suc i) x e = got_front xs y i x e

got_end : {A : Type 0} (xs : List A) (y : A) → slice_get (xs ++ y ∷ []) (length xs) ≡ Some y
got_end [] y = refl
got_end (x ∷ xs) y = got_end xs y

-- An element that was read is one that a list has.
pub any_at : {A : Type 0} (P : A → Type 0) (xs : List A) (i : ℕ) (x : A) → slice_get xs i ≡ Some x → P x → Any P xs
any_at P xs i x at p = (i, x, slice_get_within xs i x at, get_or_from_slice_get xs i x x at, p)

module _ (t : Setting) (nodes : List (NodeOf Request)) where
  -- The kept node that a leaf is of.
  pub record HasOrigin (i : ℕ) (l : Leaf) : Type 0 where
    pub number : ℕ
    pub node : NodeOf Request
    pub below : number < i
    pub kept : KeptAt request_algebra t nodes number node
    pub leaf : IsLeafOfNode t node l

  origin_later : (i j : ℕ) (l : Leaf) → i ≤ j → HasOrigin i l → HasOrigin j l
  origin_later i j l le o = let b = o.below in record { number = o.number; node = o.node; below = omega (arith, b, le); kept = o.kept; leaf = o.leaf }

  origins : (i : ℕ) (ls : List Leaf) → AreLeavesGathered t nodes i ls → (p : ℕ) (x : Leaf) → slice_get ls p ≡ Some x → HasOrigin i x
  origins zero ls are p x at = absurd (none-some x (ap (λ ys. slice_get ys p) (sym are) ∙ at))
  origins (suc i) ls (inl are) p x at = origin_later i (suc i) x (omega arith) (origins i ls are.3 p x at)
  origins (suc i) ls (inr are) p x at = go (λ h. origins i are.2 are.6 p x h) (got_push are.2 are.1 p x (ap (λ ys. slice_get ys p) (sym are.5) ∙ at))
    where
      go : (slice_get are.2 p ≡ Some x → HasOrigin i x) → (slice_get are.2 p ≡ Some x) ⊎ ((p ≡ length are.2) × (are.1 ≡ x)) → HasOrigin (suc i) x
      go before (inl h) = origin_later i (suc i) x (omega arith) (before h)
      go before (inr h) = record { number = i; node = are.0; below = omega arith; kept = are.3; leaf = subst (λ l. IsLeafOfNode t are.0 l) h.1 are.4 }

  -- The leaf of a kept node.
  pub record HasLeaf (ls : List Leaf) (n : NodeOf Request) : Type 0 where
    pub place : ℕ
    pub leaf : Leaf
    pub at : slice_get ls place ≡ Some leaf
    pub is : IsLeafOfNode t n leaf

  found : (i : ℕ) (ls : List Leaf) → AreLeavesGathered t nodes i ls → (j : ℕ) (n : NodeOf Request) → j < i → KeptAt request_algebra t nodes j n → HasLeaf ls n
  found zero ls are j n l kept = absurd (omega (arith, l))
  found (suc i) ls (inl are) j n l kept = go (λ m. found i ls are.3 j n m kept) (cases_lt j i)
    where
      go : (j < i → HasLeaf ls n) → (j < i) ⊎ (i ≤ j) → HasLeaf ls n
      go before (inl m) = before m
      go before (inr m) =
          let e : j ≡ i = omega (arith, l, m) in
          let same : n ≡ are.0 = same_Some n are.0 (sym kept.at ∙ (ap (λ k. slice_get nodes k) e ∙ are.1)) in
          let k : is_kept n ≡ true = kept.kept in
          let d : is_kept n ≡ false = ap (λ x. is_kept x) same ∙ are.2 in
          absurd (cc)
  found (suc i) ls (inr are) j n l kept = go (λ m. found i are.2 are.6 j n m kept) (cases_lt j i)
    where
      go : (j < i → HasLeaf are.2 n) → (j < i) ⊎ (i ≤ j) → HasLeaf ls n
      go before (inl m) =
          let h = before m in
          record { place = h.place; leaf = h.leaf; at = ap (λ ys. slice_get ys h.place) are.5 ∙ got_front are.2 are.1 h.place h.leaf h.at; is = h.is }
      go before (inr m) =
          let e : j ≡ i = omega (arith, l, m) in
          let same : are.0 ≡ n = same_Some are.0 n (sym are.3.at ∙ (ap (λ k. slice_get nodes k) (sym e) ∙ kept.at)) in
          record { place = length are.2; leaf = are.1; at = ap (λ ys. slice_get ys (length are.2)) are.5 ∙ got_end are.2 are.1; is = subst (λ x. IsLeafOfNode t x are.1) same are.4 }

  module _ (sound : IsSoundGraph t.graph) (front : IsFront request_algebra t nodes) where
    -- The walk of a leaf, by its node's label.
    walked : (n : NodeOf Request) (l : Leaf) → IsLeafOfNode t n l → IsLabelled t.graph t.bound l.walk n.label
    walked n l is = walk_short t sound l.walk n.label is.walk

    leaf_is : (n : NodeOf Request) (l : Leaf) → IsLeafOfNode t n l → IsWalkLeaf t.bound t.graph l
    leaf_is n l is =
        let w = walked n l is in
        record {
          short = subst (IsShortWalk t.bound t.graph) (sym w.is) w.short;
          long = ap length is.steps ∙ w.label.long;
          values = λ k from to. ap (λ xs. value_at xs k) is.steps ∙ (w.label.values k from to ∙ ap (λ xs. request_of t.graph xs k) (sym w.is));
        }

    alone_is : (i : ℕ) (n : NodeOf Request) (l : Leaf) → KeptAt request_algebra t nodes i n → IsLeafOfNode t n l → IsNonDominatedWalk t.bound t.graph l.walk
    alone_is i n l kept is =
        let w = walked n l is in
        subst (IsNonDominatedWalk t.bound t.graph) (sym w.is) (λ v short above. go w.first w.others w.label v short above)
      where
        go : (u : ℕ) (vs : List ℕ) → IsRequestLabelOf t.graph t.bound u vs n.label → (v : List ℕ) → IsShortWalk t.bound t.graph v → IsAbove t.bound t.graph u vs v
            → HaveOneLabel t.bound t.graph (u ∷ vs) v
        go u vs label [] short above = absurd short
        go u vs label (x ∷ xs) short above =
            let m = short_walk t sound x xs short in
            let d = dominates_of t.graph t.bound u vs x xs n.label m.0 label m.2 above in
            let same : m.0 ≡ n.label = (front.sound i n kept).alone m.0 m.1 d in
            one_label t.graph t.bound u vs x xs n.label m.0 label m.2 (sym same)

    covered_by : (ls : List Leaf) → AreLeavesGathered t nodes (length nodes) ls → (u : ℕ) (vs : List ℕ) → IsShortWalk t.bound t.graph (u ∷ vs) → Any (λ l. IsAbove t.bound t.graph u vs l.walk) ls
    covered_by ls are u vs short =
        let m = short_walk t sound u vs short in
        let c = front.covers m.0 m.1 in
        let h = found (length nodes) ls are c.by c.node (slice_get_within nodes c.by c.node c.kept.at) c.kept in
        let w = walked c.node h.leaf h.is in
        any_at (λ l. IsAbove t.bound t.graph u vs l.walk) ls h.place h.leaf h.at
        (subst (λ x. IsAbove t.bound t.graph u vs x) (sym w.is) (above_of t.graph t.bound u vs w.first w.others m.0 c.node.label m.2 w.label c.dominates))

    same_node : (i j : ℕ) (m n : NodeOf Request) (x y : Leaf) → KeptAt request_algebra t nodes i m → KeptAt request_algebra t nodes j n → IsLeafOfNode t m x → IsLeafOfNode t n y
        → HaveOneLabel t.bound t.graph x.walk y.walk → i ≡ j
    same_node i j m n x y p q a b have =
        let v = walked m x a in
        let w = walked n y b in
        let one : HaveOneLabel t.bound t.graph (v.first ∷ v.others) (w.first ∷ w.others) =
        subst (λ z. HaveOneLabel t.bound t.graph z (w.first ∷ w.others)) v.is (subst (λ z. HaveOneLabel t.bound t.graph x.walk z) w.is have) in
        front.once i j m n p q (same_labels t.graph t.bound v.first v.others w.first w.others m.label n.label v.label w.label one)

    once_is : (i : ℕ) (ls : List Leaf) → AreLeavesGathered t nodes i ls → (p q : ℕ) (x y : Leaf) → slice_get ls p ≡ Some x → slice_get ls q ≡ Some y
        → HaveOneLabel t.bound t.graph x.walk y.walk → p ≡ q
    once_is zero ls are p q x y at bt have = absurd (none-some x (ap (λ ys. slice_get ys p) (sym are) ∙ at))
    once_is (suc i) ls (inl are) p q x y at bt have = once_is i ls are.3 p q x y at bt have
    once_is (suc i) ls (inr are) p q x y at bt have =
        go (λ h k. once_is i are.2 are.6 p q x y h k have) (got_push are.2 are.1 p x (ap (λ ys. slice_get ys p) (sym are.5) ∙ at))
        (got_push are.2 are.1 q y (ap (λ ys. slice_get ys q) (sym are.5) ∙ bt))
      where
        here : (z : Leaf) → are.1 ≡ z → IsLeafOfNode t are.0 z
        here z e = subst (λ l. IsLeafOfNode t are.0 l) e are.4

        go : (slice_get are.2 p ≡ Some x → slice_get are.2 q ≡ Some y → p ≡ q) → (slice_get are.2 p ≡ Some x) ⊎ ((p ≡ length are.2) × (are.1 ≡ x))
            → (slice_get are.2 q ≡ Some y) ⊎ ((q ≡ length are.2) × (are.1 ≡ y)) → p ≡ q
        go before (inl h) (inl k) = before h k
        go before (inl h) (inr k) =
            let o = origins i are.2 are.6 p x h in
            let e = same_node o.number i o.node are.0 x y o.kept are.3 o.leaf (here y k.1) have in
            let b = o.below in
            absurd (omega (arith, e, b))
        go before (inr h) (inl k) =
            let o = origins i are.2 are.6 q y k in
            let e = same_node i o.number are.0 o.node x y are.3 o.kept (here x h.1) o.leaf have in
            let b = o.below in
            absurd (omega (arith, e, b))
        go before (inr h) (inr k) = h.0 ∙ sym k.0

    each_is : (P : Leaf → Type 0) → ((i : ℕ) (n : NodeOf Request) (l : Leaf) → KeptAt request_algebra t nodes i n → IsLeafOfNode t n l → P l) → (i : ℕ) (ls : List Leaf)
        → AreLeavesGathered t nodes i ls → All P ls
    each_is P f zero ls are = subst (All P) (sym are) (All-nil P)
    each_is P f (suc i) ls (inl are) = each_is P f i ls are.3
    each_is P f (suc i) ls (inr are) = subst (All P) (sym are.5) (All-push P are.2 are.1 (each_is P f i are.2 are.6) (f i are.0 are.1 are.3 are.4))

    -- The leaves of all kept nodes of a finished search.
    pub walk_leaves : (ls : List Leaf) → AreLeavesGathered t nodes (length nodes) ls → AreWalkLeaves t.bound t.graph ls
    walk_leaves ls are = record {
      each = each_is (IsWalkLeaf t.bound t.graph) (λ i n l kept is. leaf_is n l is) (length nodes) ls are;
      alone = each_is (λ l. IsNonDominatedWalk t.bound t.graph l.walk) alone_is (length nodes) ls are;
      covers = covered_by ls are;
      once = once_is (length nodes) ls are;
    }

any_permutation : {A : Type 0} (P : A → Type 0) (xs ys : List A) → IsPermutation xs ys → Any P xs → Any P ys
any_permutation P xs ys perm a =
    let c : Contains ys a.1 = Contains-permutation xs ys a.1 perm (a.0, a.2, a.3) in
    (c.0, a.1, c.1, c.2, a.4)

-- No two places of the list have elements that are alike.
abbrev AreApart : {A : Type 0} → (A → A → Type 0) → List A → Type 0
AreApart {A} R xs = (i j : ℕ) (x y : A) → slice_get xs i ≡ Some x → slice_get xs j ≡ Some y → R x y → i ≡ j

-- Where a place's element was before two were swapped.
back : ℕ → ℕ → ℕ → ℕ
back a b k = cond (k == a) b (cond (k == b) a k)

back_within : (a b n k : ℕ) → a < n → b < n → k < n → back a b k < n
unfolding back
back_within a b n k l m h = grind (arith, nat_tests)

back_once : (a b i j : ℕ) → back a b i ≡ back a b j → i ≡ j
unfolding back
back_once a b i j e = grind (arith, nat_tests)

back_first : (a b : ℕ) → back a b a ≡ b
unfolding back
back_first a b = grind (arith, nat_tests)

back_last : (a b : ℕ) → back a b b ≡ a
unfolding back
back_last a b = grind (arith, nat_tests)

back_other : (a b k : ℕ) → (k ≡ a → ⊥) → (k ≡ b → ⊥) → back a b k ≡ k
unfolding back
back_other a b k p q = grind (arith, nat_tests)

same_number : (m n : ℕ) → (m ≡ n) ⊎ (m ≡ n → ⊥)
same_number m n = go (cases_lt m n) (cases_lt n m)
  where
    go : (m < n) ⊎ (n ≤ m) → (n < m) ⊎ (m ≤ n) → (m ≡ n) ⊎ (m ≡ n → ⊥)
    go (inl h) k = inr (λ e. omega (arith, h, e))
    go (inr h) (inl k) = inr (λ e. omega (arith, k, e))
    go (inr h) (inr k) = inl (omega (arith, h, k))

got_back : {A : Type 0} (xs : List A) (a b : ℕ) → a < length xs → b < length xs → (k : ℕ) (x : A) → slice_get (swap xs a b) k ≡ Some x → slice_get xs (back a b k) ≡ Some x
got_back xs a b l m k x at =
    let w : k < length xs = (let h = slice_get_within (swap xs a b) k x at in let e = length-swap xs a b in omega (arith, h, e)) in
    let s = swapped_from_swap xs (swap xs a b) a b x l m refl in
    let v : get_or (swap xs a b) k x ≡ x = get_or_from_slice_get (swap xs a b) k x x at in
    let moved : get_or (swap xs a b) k x ≡ get_or xs (back a b k) x = go s (same_number k a) (same_number k b) in
    slice_get-get_or xs (back a b k) x (back_within a b (length xs) k l m w) ∙ ap (λ y. Some y) (sym moved ∙ v)
  where
    go : Swapped (λ i. get_or xs i x) (λ i. get_or (swap xs a b) i x) a b → (k ≡ a) ⊎ (k ≡ a → ⊥) → (k ≡ b) ⊎ (k ≡ b → ⊥) → get_or (swap xs a b) k x ≡ get_or xs (back a b k) x
    go s (inl e) q = ap (λ n. get_or (swap xs a b) n x) e ∙ (s.0 ∙ ap (λ n. get_or xs n x) (sym (back_first a b) ∙ ap (λ n. back a b n) (sym e)))
    go s (inr p) (inl e) = ap (λ n. get_or (swap xs a b) n x) e ∙ (s.1 ∙ ap (λ n. get_or xs n x) (sym (back_last a b) ∙ ap (λ n. back a b n) (sym e)))
    go s (inr p) (inr q) = s.2 k p q ∙ ap (λ n. get_or xs n x) (sym (back_other a b k p q))

apart_permutation : {A : Type 0} (R : A → A → Type 0) (xs ys : List A) → IsPermutation xs ys → AreApart R xs → AreApart R ys
apart_permutation R xs ys perm apart =
    IsPermutation-keeps xs (AreApart R) apart
    (λ l a b la lb h i j x y at bt r. back_once a b i j (h (back a b i) (back a b j) x y (got_back l a b la lb i x at) (got_back l a b la lb j y bt) r)) ys perm

-- In another order they are such leaves too.
pub leaves_permutation : (bound : ℕ) (g : Digraph) (xs ys : List Leaf) → IsPermutation xs ys → AreWalkLeaves bound g xs → AreWalkLeaves bound g ys
leaves_permutation bound g xs ys perm are = record {
  each = All-permutation (IsWalkLeaf bound g) xs ys perm are.each;
  alone = All-permutation (λ l. IsNonDominatedWalk bound g l.walk) xs ys perm are.alone;
  covers = λ u vs short. any_permutation (λ l. IsAbove bound g u vs l.walk) xs ys perm (are.covers u vs short);
  once = apart_permutation (λ x y. HaveOneLabel bound g x.walk y.walk) xs ys perm are.once;
}
