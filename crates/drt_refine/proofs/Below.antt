-- Tuples below a combination: what a split of one of its nodes leaves below each half, and that what passes above passes below.
use Rattle.std.proofs.Common.{◌≡◌, ℕ, suc, zero, ◌+◌, ◌*◌, ◌<◌, ◌≤◌, ◌⊎◌, Bool, true, false, cond, Option, Some, None, List, [], ◌∷◌, length, refl, sym, ap, ◌∙◌, subst, inl, inr, arith, set}
use Rattle.std.specs.Prelude.{slice_get}
use Rattle.std.proofs.lemmas.Option.{none-some, same_Some, slice_get_within}
use Rattle.drt_steps.specs.Values.{value_at}
use Rattle.drt_steps.specs.Time.{sum_at, Passes, AreChosen}
use Rattle.drt_tree.specs.Tree.{Plain, IsForest, IsPair, IsUnder, LeadsToLeaf, children, node_children, leaves, node_values_in}
use Rattle.drt_tree.specs.declared.node.Node.{Node}
use Rattle.drt_refine.specs.Below.{AreBelow, AreNodes, tuples}

module _ (f : Plain) where
  turn : (l r l' r' leaf : ℕ) (b : Bool) (turns : List Bool) → (l ≡ l') × (r ≡ r') → LeadsToLeaf f (cond b l' r') turns leaf → IsUnder f leaf l ⊎ IsUnder f leaf r
  turn l r l' r' leaf true turns e h = inl (turns, subst (λ (n : ℕ). LeadsToLeaf f n turns leaf) (sym e.0) h)
  turn l r l' r' leaf false turns e h = inr (turns, subst (λ (n : ℕ). LeadsToLeaf f n turns leaf) (sym e.1) h)

  -- a leaf under a pair is under one of its children
  under_by : (leaf n l r : ℕ) → children f n ≡ Some (l, r) → (turns : List Bool) → LeadsToLeaf f n turns leaf → IsUnder f leaf l ⊎ IsUnder f leaf r
  under_by leaf n l r h [] g = absurd (let p : ℕ × ℕ = (l, r) in none-some p (sym g.1 ∙ h))
  under_by leaf n l r h (b ∷ turns) g =
      let p : ℕ × ℕ = (l, r) in
      let q : ℕ × ℕ = (g.0, g.1) in
      let e : p ≡ q = same_Some p q (sym h ∙ g.2) in
      turn l r g.0 g.1 leaf b turns (ap (λ (x : ℕ × ℕ). x.0) e, ap (λ (x : ℕ × ℕ). x.1) e) g.3

  pub under_child : (leaf n l r : ℕ) → children f n ≡ Some (l, r) → IsUnder f leaf n → IsUnder f leaf l ⊎ IsUnder f leaf r
  under_child leaf n l r h u = under_by leaf n l r h u.0 u.1

  -- a tuple below the nodes is below one of the halves
  pub below_half : (tuple nodes : List ℕ) (place n l r : ℕ) → slice_get nodes place ≡ Some n → children f n ≡ Some (l, r) → AreBelow f tuple nodes
      → AreBelow f tuple (set nodes place l) ⊎ AreBelow f tuple (set nodes place r)
  below_half [] [] place n l r at h b = absurd (none-some n at)
  below_half [] (m ∷ nodes) place n l r at h b = elim b [ ]
  below_half (leaf ∷ tuple) [] place n l r at h b = elim b [ ]
  below_half (leaf ∷ tuple) (m ∷ nodes) zero n l r at h b =
      elim (under_child leaf n l r h (subst (λ (k : ℕ). IsUnder f leaf k) (same_Some m n at) b.0)) as
      (λ _. AreBelow f (leaf ∷ tuple) (l ∷ nodes) ⊎ AreBelow f (leaf ∷ tuple) (r ∷ nodes)) [ inl u ↦ inl (u, b.1) | inr u ↦ inr (u, b.1) ]
  below_half (leaf ∷ tuple) (m ∷ nodes) (suc place) n l r at h b =
      elim (below_half tuple nodes place n l r at h b.1) as (λ _. AreBelow f (leaf ∷ tuple) (m ∷ set nodes place l) ⊎ AreBelow f (leaf ∷ tuple) (m ∷ set nodes place r))
      [ inl u ↦ inl (b.0, u) | inr u ↦ inr (b.0, u) ]

  module _ (above : (leaf n t : ℕ) → IsUnder f leaf n → value_at (node_values_in f leaf) t ≤ value_at (node_values_in f n) t) where
    below_sum : (tuple nodes : List ℕ) (t : ℕ) → AreBelow f tuple nodes → sum_at f.pool tuple t ≤ sum_at f.pool nodes t
    below_sum [] [] t h = omega arith
    below_sum [] (n ∷ nodes) t h = elim h [ ]
    below_sum (leaf ∷ tuple) [] t h = elim h [ ]
    below_sum (leaf ∷ tuple) (n ∷ nodes) t h =
        let a : value_at (node_values_in f leaf) t ≤ value_at (node_values_in f n) t = above leaf n t h.0 in
        let b : sum_at f.pool tuple t ≤ sum_at f.pool nodes t = below_sum tuple nodes t h.1 in
        omega arith

    -- what passes for the nodes passes for each tuple below them
    pub passes_below : (wcet deadline : ℕ) (tuple nodes : List ℕ) (t : ℕ) → AreBelow f tuple nodes → Passes wcet deadline f.pool nodes t → Passes wcet deadline f.pool tuple t
    passes_below wcet deadline tuple nodes t h p =
        let a : sum_at f.pool tuple t ≤ sum_at f.pool nodes t = below_sum tuple nodes t h in
        let b : wcet + sum_at f.pool nodes t ≤ t = p.passes in
        record { from = p.from; to = p.to; passes = omega arith }

  -- a child in place of its pair
  pub chosen_set : (deadline : ℕ) (nodes : List ℕ) (place k : ℕ) → k < length f.pool → deadline ≤ length (node_values_in f k) → AreChosen deadline f.pool nodes
      → AreChosen deadline f.pool (set nodes place k)
  chosen_set deadline [] place k lt le h = tt
  chosen_set deadline (m ∷ nodes) zero k lt le h = (lt, le, h.2)
  chosen_set deadline (m ∷ nodes) (suc place) k lt le h = (h.0, h.1, chosen_set deadline nodes place k lt le h.2)

  pub chosen_at : (deadline : ℕ) (nodes : List ℕ) (place n : ℕ) → slice_get nodes place ≡ Some n → AreChosen deadline f.pool nodes → (n < length f.pool) × (deadline ≤ length (node_values_in f n))
  chosen_at deadline [] place n at h = absurd (none-some n at)
  chosen_at deadline (m ∷ nodes) zero n at h = subst (λ (k : ℕ). (k < length f.pool) × (deadline ≤ length (node_values_in f k))) (same_Some m n at) (h.0, h.1)
  chosen_at deadline (m ∷ nodes) (suc place) n at h = chosen_at deadline nodes place n at h.2

  pub chosen_halves : IsForest f → (deadline : ℕ) (nodes : List ℕ) (place n l r : ℕ) → slice_get nodes place ≡ Some n → children f n ≡ Some (l, r)
      → AreChosen deadline f.pool nodes → AreChosen deadline f.pool (set nodes place l) × AreChosen deadline f.pool (set nodes place r)
  chosen_halves forest deadline nodes place n l r at h chosen =
      let here : (n < length f.pool) × (deadline ≤ length (node_values_in f n)) = chosen_at deadline nodes place n at chosen in
      let lt : n < length f.pool = here.0 in
      let le : deadline ≤ length (node_values_in f n) = here.1 in
      let pair : IsPair f n l r = forest.pairs n l r h in
      let pl : l < n = pair.left in
      let pr : r < n = pair.right in
      let el : length (node_values_in f l) ≡ length (node_values_in f n) = forest.bound l n (omega arith) lt in
      let er : length (node_values_in f r) ≡ length (node_values_in f n) = forest.bound r n (omega arith) lt in
      (chosen_set deadline nodes place l (omega arith) (omega arith) chosen, chosen_set deadline nodes place r (omega arith) (omega arith) chosen)

  pub chosen_nodes : IsForest f → (deadline : ℕ) (nodes : List ℕ) → AreChosen deadline f.pool nodes → AreNodes f nodes
  chosen_nodes forest deadline [] h = tt
  chosen_nodes forest deadline (n ∷ nodes) h = ((let same : length f.nodes ≡ length f.pool = forest.same in let lt : n < length f.pool = h.0 in omega arith), chosen_nodes forest deadline nodes h.2)

  module _ (forest : IsForest f) (some : (n : ℕ) → 1 ≤ leaves f n) where
    product : (a b : ℕ) → 1 ≤ a → 1 ≤ b → 1 ≤ a * b
    product zero b p q = absurd (omega arith)
    product (suc a) b p q = let e : suc a * b ≡ a * b + b = omega arith in omega arith

    -- there is a tuple below each combination
    pub tuples_some : (nodes : List ℕ) → 1 ≤ tuples f nodes
    tuples_some [] = omega arith
    tuples_some (n ∷ nodes) = product (leaves f n) (tuples f nodes) (some n) (tuples_some nodes)

    -- the tuples below the halves are those below the combination
    pub tuples_halved : (nodes : List ℕ) (place n l r : ℕ) → slice_get nodes place ≡ Some n → children f n ≡ Some (l, r) → tuples f (set nodes place l) + tuples f (set nodes place r) ≡ tuples f nodes
    tuples_halved [] place n l r at h = absurd (none-some n at)
    tuples_halved (m ∷ nodes) zero n l r at h =
        let pair : IsPair f n l r = forest.pairs n l r h in
        let e : leaves f m ≡ leaves f l + leaves f r = ap (λ k. leaves f k) (same_Some m n at) ∙ pair.count in
        let g : leaves f m * tuples f nodes ≡ (leaves f l + leaves f r) * tuples f nodes = ap (λ x. x * tuples f nodes) e in
        omega arith
    tuples_halved (m ∷ nodes) (suc place) n l r at h =
        let e : tuples f (set nodes place l) + tuples f (set nodes place r) ≡ tuples f nodes = tuples_halved nodes place n l r at h in
        let g : leaves f m * (tuples f (set nodes place l) + tuples f (set nodes place r)) ≡ leaves f m * tuples f nodes = ap (λ x. leaves f m * x) e in
        omega arith

pub length_set : {A : Type 0} (xs : List A) (i : ℕ) (x : A) → length (set xs i x) ≡ length xs
length_set [] i x = refl
length_set (y ∷ xs) zero x = refl
length_set (y ∷ xs) (suc i) x = ap suc (length_set xs i x)

within_by : (f : Plain) (n : ℕ) (p : ℕ × ℕ) (o : Option Node) → slice_get f.nodes n ≡ o → node_children o ≡ Some p → n < length f.nodes
within_by f n p None e h = absurd (none-some p h)
within_by f n p (Some x) e h = slice_get_within f.nodes n x e

-- a pair is in the forest
pub child_within : (f : Plain) (n l r : ℕ) → children f n ≡ Some (l, r) → n < length f.nodes
child_within f n l r h = within_by f n (l, r) (slice_get f.nodes n) refl h

pub nodes_at : (f : Plain) (nodes : List ℕ) (i n : ℕ) → slice_get nodes i ≡ Some n → AreNodes f nodes → n < length f.nodes
nodes_at f [] i n at h = absurd (none-some n at)
nodes_at f (m ∷ nodes) zero n at h = subst (λ (k : ℕ). k < length f.nodes) (same_Some m n at) h.0
nodes_at f (m ∷ nodes) (suc i) n at h = nodes_at f nodes i n at h.1
