-- What is below a combination, before and after it is split.
use Rattle.std.proofs.Common.{◌≡◌, ℕ, suc, zero, ◌+◌, ◌*◌, ◌<◌, ◌≤◌, ◌⊎◌, Bool, true, false, cond, Option, Some, None, List, [], ◌∷◌, refl, sym, ap, ◌∙◌, subst, inl, inr, arith, set}
use Rattle.std.specs.Prelude.{slice_get}
use Rattle.std.proofs.lemmas.Option.{none-some, same_Some}
use Rattle.drt_steps.specs.Values.{value_at}
use Rattle.drt_steps.specs.Time.{sum_at, Passes}
use Rattle.drt_tree.specs.Tree.{Plain, IsForest, IsPair, children, leaves, node_values_in, LeadsToLeaf, IsUnder}
use Rattle.drt_tree.proofs.Trees.{leaf_below}
use Rattle.drt_refine.specs.Below.{AreBelow, IsConcrete, tuples}
use Rattle.drt_worst.specs.Splitting.{IsSplit, IsHalfOf, IsPartBy, IsPart}

-- the value of the children where both pairs are the same
pub same_pair : (l r l' r' : ℕ) (o : Option (ℕ × ℕ)) → o ≡ Some (l, r) → o ≡ Some (l', r') → (l ≡ l') × (r ≡ r')
same_pair l r l' r' o e g =
    let p : ℕ × ℕ = (l, r) in
    let q : ℕ × ℕ = (l', r') in
    let h : p ≡ q = same_Some p q (sym e ∙ g) in
    (ap (λ (x : ℕ × ℕ). x.0) h, ap (λ (x : ℕ × ℕ). x.1) h)

module _ (f : Plain) where
  turn : (l r l' r' leaf : ℕ) (b : Bool) (turns : List Bool) → (l ≡ l') × (r ≡ r') → LeadsToLeaf f (cond b l' r') turns leaf → IsUnder f leaf l ⊎ IsUnder f leaf r
  turn l r l' r' leaf true turns e h = inl (turns, subst (λ (n : ℕ). LeadsToLeaf f n turns leaf) (sym e.0) h)
  turn l r l' r' leaf false turns e h = inr (turns, subst (λ (n : ℕ). LeadsToLeaf f n turns leaf) (sym e.1) h)

  under_by : (leaf n l r : ℕ) → children f n ≡ Some (l, r) → (turns : List Bool) → LeadsToLeaf f n turns leaf → IsUnder f leaf l ⊎ IsUnder f leaf r
  under_by leaf n l r h [] g =
      let p : ℕ × ℕ = (l, r) in
      absurd (none-some p (sym g.1 ∙ h))
  under_by leaf n l r h (b ∷ turns) g = turn l r g.0 g.1 leaf b turns (same_pair l r g.0 g.1 (children f n) h g.2) g.3

  -- a leaf under a pair is under one of its children
  pub under_child : (leaf n l r : ℕ) → children f n ≡ Some (l, r) → IsUnder f leaf n → IsUnder f leaf l ⊎ IsUnder f leaf r
  under_child leaf n l r h u = under_by leaf n l r h u.0 u.1

  -- and a leaf under a child is under the pair
  pub under_left : (leaf n l r : ℕ) → children f n ≡ Some (l, r) → IsUnder f leaf l → IsUnder f leaf n
  under_left leaf n l r h u = (true ∷ u.0, (l, r, h, u.1))

  pub under_right : (leaf n l r : ℕ) → children f n ≡ Some (l, r) → IsUnder f leaf r → IsUnder f leaf n
  under_right leaf n l r h u = (false ∷ u.0, (l, r, h, u.1))

  -- a tuple below the nodes is below one of the halves
  pub below_half : (tuple nodes : List ℕ) (place n l r : ℕ) → slice_get nodes place ≡ Some n → children f n ≡ Some (l, r)
      → AreBelow f tuple nodes → AreBelow f tuple (set nodes place l) ⊎ AreBelow f tuple (set nodes place r)
  below_half [] [] place n l r at h b = absurd (none-some n at)
  below_half [] (m ∷ nodes) place n l r at h b = elim b [ ]
  below_half (leaf ∷ tuple) [] place n l r at h b = elim b [ ]
  below_half (leaf ∷ tuple) (m ∷ nodes) zero n l r at h b =
      elim (under_child leaf n l r h (subst (λ (k : ℕ). IsUnder f leaf k) (same_Some m n at) b.0)) as (λ _. AreBelow f (leaf ∷ tuple) (l ∷ nodes) ⊎ AreBelow f (leaf ∷ tuple) (r ∷ nodes)) [
        | inl u ↦ inl (u, b.1)
        | inr u ↦ inr (u, b.1)
      ]
  below_half (leaf ∷ tuple) (m ∷ nodes) (suc place) n l r at h b =
      elim (below_half tuple nodes place n l r at h b.1) as (λ _. AreBelow f (leaf ∷ tuple) (m ∷ set nodes place l) ⊎ AreBelow f (leaf ∷ tuple) (m ∷ set nodes place r)) [
        | inl u ↦ inl (b.0, u)
        | inr u ↦ inr (b.0, u)
      ]

  -- what is below the nodes with one of them replaced is below the nodes, where each leaf under the new one is under the old one
  pub below_whole : (tuple nodes : List ℕ) (place n k : ℕ) → slice_get nodes place ≡ Some n
      → ((leaf : ℕ) → IsUnder f leaf k → IsUnder f leaf n) → AreBelow f tuple (set nodes place k) → AreBelow f tuple nodes
  below_whole tuple [] place n k at h b = absurd (none-some n at)
  below_whole [] (m ∷ nodes) zero n k at h b = elim b [ ]
  below_whole [] (m ∷ nodes) (suc place) n k at h b = elim b [ ]
  below_whole (leaf ∷ tuple) (m ∷ nodes) zero n k at h b = (subst (λ (j : ℕ). IsUnder f leaf j) (sym (same_Some m n at)) (h leaf b.0), b.1)
  below_whole (leaf ∷ tuple) (m ∷ nodes) (suc place) n k at h b = (b.0, below_whole tuple nodes place n k at h b.1)

  -- a tuple below a combination is below one of its parts
  pub below_parts : (tuple c l r : List ℕ) → IsSplit f c l r → AreBelow f tuple c → AreBelow f tuple l ⊎ AreBelow f tuple r
  below_parts tuple c l r h b =
      elim (below_half tuple c h.place h.widest.node h.left h.right h.widest.at h.forks b) as (λ _. AreBelow f tuple l ⊎ AreBelow f tuple r) [
        | inl u ↦ inl (subst (λ (x : List ℕ). AreBelow f tuple x) (sym h.left_is) u)
        | inr u ↦ inr (subst (λ (x : List ℕ). AreBelow f tuple x) (sym h.right_is) u)
      ]

  pub below_from_left : (tuple c l r : List ℕ) → IsSplit f c l r → AreBelow f tuple l → AreBelow f tuple c
  below_from_left tuple c l r h b =
      below_whole tuple c h.place h.widest.node h.left h.widest.at (λ leaf u. under_left leaf h.widest.node h.left h.right h.forks u) (subst (λ (x : List ℕ). AreBelow f tuple x) h.left_is b)

  pub below_from_right : (tuple c l r : List ℕ) → IsSplit f c l r → AreBelow f tuple r → AreBelow f tuple c
  below_from_right tuple c l r h b =
      below_whole tuple c h.place h.widest.node h.right h.widest.at (λ leaf u. under_right leaf h.widest.node h.left h.right h.forks u) (subst (λ (x : List ℕ). AreBelow f tuple x) h.right_is b)

  below_half_of : (tuple c d other : List ℕ) → IsSplit f c d other ⊎ IsSplit f c other d → AreBelow f tuple d → AreBelow f tuple c
  below_half_of tuple c d other (inl h) b = below_from_left tuple c d other h b
  below_half_of tuple c d other (inr h) b = below_from_right tuple c other d h b

  below_part_by : (tuple c : List ℕ) (path : List (List ℕ)) (d : List ℕ) → IsPartBy f c path d → AreBelow f tuple d → AreBelow f tuple c
  below_part_by tuple c [] d h b = subst (λ (x : List ℕ). AreBelow f tuple x) (sym h) b
  below_part_by tuple c (m ∷ path) d h b = below_half_of tuple c m h.0.0 h.0.1 (below_part_by tuple m path d h.1 b)

  -- what is below a combination of the splitting tree is below the roots
  pub below_part : (tuple roots c : List ℕ) → IsPart f roots c → AreBelow f tuple c → AreBelow f tuple roots
  below_part tuple roots c h b = below_part_by tuple roots h.0 c h.1 b

  part_by_more : (c : List ℕ) (path : List (List ℕ)) (d b : List ℕ) → IsPartBy f c path d → IsHalfOf f d b → IsPart f c b
  part_by_more c [] d b h g = (b ∷ [], (subst (λ (x : List ℕ). IsHalfOf f x b) (sym h) g, refl))
  part_by_more c (m ∷ path) d b h g =
      let more : IsPart f m b = part_by_more m path d b h.1 g in
      (m ∷ more.0, (h.0, more.1))

  pub part_more : (c d b : List ℕ) → IsPart f c d → IsHalfOf f d b → IsPart f c b
  part_more c d b h g = part_by_more c h.0 d b h.1 g

  pub part_self : (c : List ℕ) → IsPart f c c
  part_self c = ([], refl)

  -- a concrete combination is below itself
  pub concrete_below : (c : List ℕ) → IsConcrete f c → AreBelow f c c
  concrete_below [] h = tt
  concrete_below (n ∷ c) h = (([], (refl, h.0)), concrete_below c h.1)

  leads_leaf : (n : ℕ) (turns : List Bool) (leaf : ℕ) → LeadsToLeaf f n turns leaf → children f leaf ≡ None
  leads_leaf n [] leaf h = subst (λ (k : ℕ). children f k ≡ None) h.0 h.1
  leads_leaf n (b ∷ turns) leaf h = leads_leaf (cond b h.0 h.1) turns leaf h.3

  -- what is below nodes is concrete
  pub below_concrete : (tuple nodes : List ℕ) → AreBelow f tuple nodes → IsConcrete f tuple
  below_concrete [] nodes b = tt
  below_concrete (leaf ∷ tuple) [] b = elim b [ ]
  below_concrete (leaf ∷ tuple) (n ∷ nodes) b = (leads_leaf n b.0.0 leaf b.0.1, below_concrete tuple nodes b.1)

  concrete_node : (c : List ℕ) (place n : ℕ) → IsConcrete f c → slice_get c place ≡ Some n → children f n ≡ None
  concrete_node [] place n h at = absurd (none-some n at)
  concrete_node (m ∷ c) zero n h at = subst (λ (k : ℕ). children f k ≡ None) (same_Some m n at) h.0
  concrete_node (m ∷ c) (suc place) n h at = concrete_node c place n h.1 at

  -- a concrete combination isn't split
  pub concrete_whole : (c l r : List ℕ) → IsConcrete f c → IsSplit f c l r → ⊥
  concrete_whole c l r h s =
      let p : ℕ × ℕ = (s.left, s.right) in
      absurd (none-some p (sym (concrete_node c s.place s.widest.node h s.widest.at) ∙ s.forks))

  -- the sum of the functions of a tuple is at most that of the nodes that it is below
  pub below_sum : IsForest f → (tuple nodes : List ℕ) (t : ℕ) → AreBelow f tuple nodes → sum_at f.pool tuple t ≤ sum_at f.pool nodes t
  below_sum sound [] [] t h = omega arith
  below_sum sound [] (n ∷ nodes) t h = elim h [ ]
  below_sum sound (leaf ∷ tuple) [] t h = elim h [ ]
  below_sum sound (leaf ∷ tuple) (n ∷ nodes) t h =
      let a : value_at (node_values_in f leaf) t ≤ value_at (node_values_in f n) t = leaf_below f n h.0.0 leaf t sound h.0.1 in
      let b : sum_at f.pool tuple t ≤ sum_at f.pool nodes t = below_sum sound tuple nodes t h.1 in
      omega arith

  -- what passes for the nodes passes for each tuple below them
  pub passes_below : IsForest f → (wcet deadline : ℕ) (tuple nodes : List ℕ) (t : ℕ) → AreBelow f tuple nodes → Passes wcet deadline f.pool nodes t → Passes wcet deadline f.pool tuple t
  passes_below sound wcet deadline tuple nodes t h p =
      let a : sum_at f.pool tuple t ≤ sum_at f.pool nodes t = below_sum sound tuple nodes t h in
      let b : wcet + sum_at f.pool nodes t ≤ t = p.passes in
      record { from = p.from; to = p.to; passes = omega arith }

  -- there is a leaf under each node, by going down
  some_leaf_by : IsForest f → (fuel n : ℕ) → n < fuel → (o : Option (ℕ × ℕ)) → children f n ≡ o → (leaf : ℕ) × IsUnder f leaf n
  some_leaf_by sound zero n lt o h = absurd (omega arith)
  some_leaf_by sound (suc fuel) n lt None h = (n, ([], (refl, h)))
  some_leaf_by sound (suc fuel) n lt (Some p) h =
      let e : children f n ≡ Some (p.0, p.1) = h in
      let pair : IsPair f n p.0 p.1 = sound.pairs n p.0 p.1 e in
      let l : p.0 < n = pair.left in
      let down : (leaf : ℕ) × IsUnder f leaf p.0 = some_leaf_by sound fuel p.0 (omega arith) (children f p.0) refl in
      (down.0, under_left down.0 n p.0 p.1 e down.1)

  pub some_tuple : IsForest f → (nodes : List ℕ) → (tuple : List ℕ) × AreBelow f tuple nodes
  some_tuple sound [] = ([], tt)
  some_tuple sound (n ∷ nodes) =
      let here : (leaf : ℕ) × IsUnder f leaf n = some_leaf_by sound (suc n) n (omega arith) (children f n) refl in
      let more : (tuple : List ℕ) × AreBelow f tuple nodes = some_tuple sound nodes in
      (here.0 ∷ more.0, (here.1, more.1))

  -- the number of tuples
  leaves_some_by : IsForest f → (fuel n : ℕ) → n < fuel → (o : Option (ℕ × ℕ)) → children f n ≡ o → 1 ≤ leaves f n
  leaves_some_by sound zero n lt o h = absurd (omega arith)
  leaves_some_by sound (suc fuel) n lt None h = let e : leaves f n ≡ 1 = sound.ones n h in omega arith
  leaves_some_by sound (suc fuel) n lt (Some p) h =
      let e : children f n ≡ Some (p.0, p.1) = h in
      let pair : IsPair f n p.0 p.1 = sound.pairs n p.0 p.1 e in
      let l : p.0 < n = pair.left in
      let count : leaves f n ≡ leaves f p.0 + leaves f p.1 = pair.count in
      let down : 1 ≤ leaves f p.0 = leaves_some_by sound fuel p.0 (omega arith) (children f p.0) refl in
      omega arith

  pub leaves_some : IsForest f → (n : ℕ) → 1 ≤ leaves f n
  leaves_some sound n = leaves_some_by sound (suc n) n (omega arith) (children f n) refl

  product : (a b : ℕ) → 1 ≤ a → 1 ≤ b → 1 ≤ a * b
  product zero b p q = absurd (omega arith)
  product (suc a) b p q = let e : suc a * b ≡ a * b + b = omega arith in omega arith

  pub tuples_some : IsForest f → (nodes : List ℕ) → 1 ≤ tuples f nodes
  tuples_some sound [] = omega arith
  tuples_some sound (n ∷ nodes) = product (leaves f n) (tuples f nodes) (leaves_some sound n) (tuples_some sound nodes)

  tuples_halved : IsForest f → (nodes : List ℕ) (place n l r : ℕ) → slice_get nodes place ≡ Some n
      → children f n ≡ Some (l, r) → tuples f (set nodes place l) + tuples f (set nodes place r) ≡ tuples f nodes
  tuples_halved sound [] place n l r at h = absurd (none-some n at)
  tuples_halved sound (m ∷ nodes) zero n l r at h =
      let pair : IsPair f n l r = sound.pairs n l r h in
      let e : leaves f m ≡ leaves f l + leaves f r = ap (λ k. leaves f k) (same_Some m n at) ∙ pair.count in
      let g : leaves f m * tuples f nodes ≡ (leaves f l + leaves f r) * tuples f nodes = ap (λ x. x * tuples f nodes) e in
      omega arith
  tuples_halved sound (m ∷ nodes) (suc place) n l r at h =
      let e : tuples f (set nodes place l) + tuples f (set nodes place r) ≡ tuples f nodes = tuples_halved sound nodes place n l r at h in
      let g : leaves f m * (tuples f (set nodes place l) + tuples f (set nodes place r)) ≡ leaves f m * tuples f nodes = ap (λ x. leaves f m * x) e in
      omega arith

  pub tuples_split : IsForest f → (c l r : List ℕ) → IsSplit f c l r → tuples f l + tuples f r ≡ tuples f c
  tuples_split sound c l r h =
      let e : tuples f (set c h.place h.left) + tuples f (set c h.place h.right) ≡ tuples f c = tuples_halved sound c h.place h.widest.node h.left h.right h.widest.at h.forks in
      let a : tuples f l ≡ tuples f (set c h.place h.left) = ap (λ x. tuples f x) h.left_is in
      let b : tuples f r ≡ tuples f (set c h.place h.right) = ap (λ x. tuples f x) h.right_is in
      omega arith

  tuples_half_of : IsForest f → (c d other : List ℕ) → IsSplit f c d other ⊎ IsSplit f c other d → tuples f d ≤ tuples f c
  tuples_half_of sound c d other (inl h) = let e : tuples f d + tuples f other ≡ tuples f c = tuples_split sound c d other h in omega arith
  tuples_half_of sound c d other (inr h) = let e : tuples f other + tuples f d ≡ tuples f c = tuples_split sound c other d h in omega arith

  tuples_part_by : IsForest f → (c : List ℕ) (path : List (List ℕ)) (d : List ℕ) → IsPartBy f c path d → tuples f d ≤ tuples f c
  tuples_part_by sound c [] d h = let e : tuples f c ≡ tuples f d = ap (λ x. tuples f x) h in omega arith
  tuples_part_by sound c (m ∷ path) d h =
      let a : tuples f m ≤ tuples f c = tuples_half_of sound c m h.0.0 h.0.1 in
      let b : tuples f d ≤ tuples f m = tuples_part_by sound m path d h.1 in
      omega arith

  pub tuples_part : IsForest f → (roots c : List ℕ) → IsPart f roots c → tuples f c ≤ tuples f roots
  tuples_part sound roots c h = tuples_part_by sound roots h.0 c h.1
