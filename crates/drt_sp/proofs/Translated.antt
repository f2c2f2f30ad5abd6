-- The items of a vertex's proof, which speak of nodes of a forest, are those of a dossier, which speak of nodes of claimed trees: a node
-- has its number in the forest less the low of its tree. For the assembly: `items_shape` and `items_pass`.
use Rattle.std.proofs.Common.{◌≡◌, ℕ, suc, zero, ◌+◌, ◌-◌, ◌≤◌, ◌<◌, Option, Some, List, [], ◌∷◌, map, All, refl, sym, ap, ◌∙◌, subst, arith, set}
use Rattle.std.specs.Prelude.{slice_get, slice_index_or}
use Rattle.std.proofs.lemmas.Option.{none-some, same_Some}
use Rattle.std.proofs.lemmas.List.Elements.{All-nil, All-cons}
use Rattle.drt_model.specs.Digraph.{Digraph}
use Rattle.drt_model.specs.Walk.{wcet, deadline}
use Rattle.drt_steps.specs.Values.{value_at}
use Rattle.drt_steps.specs.Time.{Passes, sum_at as forest_sum}
use Rattle.drt_tree.specs.Tree.{Plain, children, node_values_in}
use Rattle.drt_claims.specs.Trees.{root, node_values}
use Rattle.drt_claims.specs.Proofs.{HasPassingTime, after, after_all, halved, node_parts, parts_in, passes, tree_sum_at}
use Rattle.drt_claims.specs.declared.evidence.Item.{Item}
use Rattle.drt_claims.specs.declared.evidence.Item.TheVariants.{Split}
use Rattle.drt_claims.specs.declared.evidence.TreeClaim.{TreeClaim}
use Rattle.drt_sp.specs.TreeClaims.{IsClaimOf, lowered}
use Rattle.drt_sp.specs.Claims.{AreClaimsOf}
use Rattle.drt_sp.specs.Items.{AreItems, AreHalves, none, pass, split}

-- the numbers of nodes of the trees at the places, each less the low of its tree
abbrev pub lower : List ℕ → List ℕ → List ℕ
lower lows [] = []
lower [] (n ∷ nodes) = []
lower (low ∷ lows) (n ∷ nodes) = (n - low) ∷ lower lows nodes

abbrev pub lower_all : List ℕ → List (List ℕ) → List (List ℕ)
lower_all lows stack = map (lower lows) stack

module _ (bound : ℕ) (f : Plain) where
  -- the node is one of the claimed tree
  pub record IsIn (g : Digraph) (claim : TreeClaim) (low n : ℕ) : Type 0 where
    pub top : ℕ
    pub claim_is : IsClaimOf g bound f low top claim
    pub from : low ≤ n
    pub to : n ≤ low + root claim

  -- each node is one of the tree at its place
  abbrev pub AreIn : List Digraph → List TreeClaim → List ℕ → List ℕ → Type 0
  AreIn graphs claims lows [] = Unit {0}
  AreIn (g ∷ graphs) (claim ∷ claims) (low ∷ lows) (n ∷ nodes) = IsIn g claim low n × AreIn graphs claims lows nodes
  AreIn graphs claims lows (n ∷ nodes) = ⊥

  module _ (g : Digraph) (claim : TreeClaim) (low n : ℕ) (is : IsIn g claim low n) where
    pub inside : n - low ≤ root claim
    inside = omega (arith, is.to)

    pub again : low + (n - low) ≡ n
    again = omega (arith, is.from)

    module _ (l r : ℕ) (pair : children f n ≡ Some (l, r)) where
      pair_is : children f (low + (n - low)) ≡ Some (l, r)
      pair_is = ap (children f) again ∙ pair

      part_of : node_parts claim (n - low) ≡ Some (l - low, r - low)
      part_of = is.claim_is.parts (n - low) inside ∙ ap (lowered low) pair_is

      part_in : IsIn g claim low l × IsIn g claim low r
      part_in =
          let h : (low ≤ l) × (low ≤ r) × (l < low + (n - low)) × (r < low + (n - low)) = is.claim_is.above (n - low) l r inside pair_is in
          let to : n ≤ low + root claim = is.to in (
            record { top = is.top; claim_is = is.claim_is; from = h.0; to = omega (arith, again, h.2, to) },
            record { top = is.top; claim_is = is.claim_is; from = h.1; to = omega (arith, again, h.3, to) },
          )

  -- a combination is split at a place, in the forest and in the claims
  pub record IsSplitOf (graphs : List Digraph) (claims : List TreeClaim) (lows nodes : List ℕ) (place l r : ℕ) : Type 0 where
    pub low : ℕ
    pub parts_are : parts_in (slice_get claims place) (slice_get (lower lows nodes) place) ≡ Some (l - low, r - low)
    pub left_low : lower lows (set nodes place l) ≡ set (lower lows nodes) place (l - low)
    pub right_low : lower lows (set nodes place r) ≡ set (lower lows nodes) place (r - low)
    pub left_in : AreIn graphs claims lows (set nodes place l)
    pub right_in : AreIn graphs claims lows (set nodes place r)

  split_of : (graphs : List Digraph) (claims : List TreeClaim) (lows nodes : List ℕ) (place n l r : ℕ) → AreIn graphs claims lows nodes → slice_get nodes place ≡ Some n
      → children f n ≡ Some (l, r) → IsSplitOf graphs claims lows nodes place l r
  split_of graphs claims lows [] place n l r h at pair = absurd (none-some n at)
  split_of (g ∷ graphs) (claim ∷ claims) (low ∷ lows) (m ∷ nodes) zero n l r h at pair =
      let here : children f m ≡ Some (l, r) = ap (children f) (same_Some m n at) ∙ pair in
      let in_tree : IsIn g claim low l × IsIn g claim low r = part_in g claim low m h.0 l r here in
      record {
        low = low;
        parts_are = part_of g claim low m h.0 l r here;
        left_low = refl;
        right_low = refl;
        left_in = (in_tree.0, h.1);
        right_in = (in_tree.1, h.1);
      }
  split_of (g ∷ graphs) (claim ∷ claims) (low ∷ lows) (m ∷ nodes) (suc place) n l r h at pair =
      let s : IsSplitOf graphs claims lows nodes place l r = split_of graphs claims lows nodes place n l r h.1 at pair in
      record {
        low = s.low;
        parts_are = s.parts_are;
        left_low = ap (λ (ns : List ℕ). (m - low) ∷ ns) s.left_low;
        right_low = ap (λ (ns : List ℕ). (m - low) ∷ ns) s.right_low;
        left_in = (h.0, s.left_in);
        right_in = (h.0, s.right_in);
      }
  split_of graphs claims lows (m ∷ nodes) place n l r h at pair = elim h [ ]

  -- the sums are the same
  pub sums_are : (graphs : List Digraph) (claims : List TreeClaim) (lows nodes : List ℕ) (t : ℕ) → AreIn graphs claims lows nodes → 1 ≤ t → t ≤ bound
      → tree_sum_at graphs claims (lower lows nodes) t ≡ forest_sum f.pool nodes t
  unfolding tree_sum_at
  sums_are graphs claims lows [] t h some near = refl
  sums_are (g ∷ graphs) (claim ∷ claims) (low ∷ lows) (n ∷ nodes) t h some near =
      let v : slice_index_or (node_values g claim t) (n - low) 0 ≡ value_at (node_values_in f (low + (n - low))) t = h.0.claim_is.values (n - low) t (inside g claim low n h.0) some near in
      let w : slice_index_or (node_values g claim t) (n - low) 0 ≡ value_at (node_values_in f n) t = v ∙ ap (λ i. value_at (node_values_in f i) t) (again g claim low n h.0) in
      let rest : tree_sum_at graphs claims (lower lows nodes) t ≡ forest_sum f.pool nodes t = sums_are graphs claims lows nodes t h.1 some near in
      ap (λ x. x + tree_sum_at graphs claims (lower lows nodes) t) w ∙ ap (λ x. value_at (node_values_in f n) t + x) rest
  sums_are graphs claims lows (n ∷ nodes) t h some near = elim h [ ]

  -- the tops are in their trees, and are their roots
  pub tops_in : (graphs : List Digraph) (lows tops : List ℕ) (claims : List TreeClaim) → AreClaimsOf bound f graphs lows tops claims → AreIn graphs claims lows tops
  tops_in [] [] [] [] are = tt
  tops_in (g ∷ graphs) (low ∷ lows) (top ∷ tops) (claim ∷ claims) are =
      (record { top = top; claim_is = are.0; from = omega (arith, are.0.root_is); to = omega (arith, are.0.root_is) }, tops_in graphs lows tops claims are.1)
  tops_in graphs lows tops claims are = elim are [ ]

  pub tops_low : (graphs : List Digraph) (lows tops : List ℕ) (claims : List TreeClaim) → AreClaimsOf bound f graphs lows tops claims → map root claims ≡ lower lows tops
  tops_low [] [] [] [] are = refl
  tops_low (g ∷ graphs) (low ∷ lows) (top ∷ tops) (claim ∷ claims) are =
      let e : root claim ≡ top - low = omega (arith, are.0.root_is) in
      ap (λ x. x ∷ map root claims) e ∙ ap (λ (ns : List ℕ). (top - low) ∷ ns) (tops_low graphs lows tops claims are.1)
  tops_low graphs lows tops claims are = elim are [ ]

  module _ (graphs : List Digraph) (claims : List TreeClaim) (lows : List ℕ) where
    -- the nodes of each combination of the stack are in their trees
    abbrev pub AllIn : List (List ℕ) → Type 0
    AllIn [] = Unit {0}
    AllIn (nodes ∷ stack) = AreIn graphs claims lows nodes × AllIn stack

    pub halves_of : (w d : ℕ) (nodes : List ℕ) (place l r : ℕ) → AreIn graphs claims lows nodes → AreHalves f w d nodes place l r → IsSplitOf graphs claims lows nodes place l r
    halves_of w d nodes place l r h halves = split_of graphs claims lows nodes place halves.node l r h halves.at halves.children

    pub split_after : (nodes : List ℕ) (stack : List (List ℕ)) (place l r : ℕ) → IsSplitOf graphs claims lows nodes place l r
        → after claims (Split place) (lower_all lows (nodes ∷ stack)) ≡ Some (lower_all lows (set nodes place l ∷ set nodes place r ∷ stack))
    split_after nodes stack place l r s =
        ap (halved (lower lows nodes) place (lower_all lows stack)) s.parts_are
        ∙ (ap (λ (ns : List ℕ). Some (ns ∷ set (lower lows nodes) place (r - s.low) ∷ lower_all lows stack)) (sym s.left_low)
        ∙ ap (λ (ns : List ℕ). Some (lower lows (set nodes place l) ∷ ns ∷ lower_all lows stack)) (sym s.right_low))

    shape_of : (w d : ℕ) (items : List Item) (stack : List (List ℕ)) → AreItems f w d items stack → AllIn stack → after_all claims items (Some (lower_all lows stack)) ≡ Some []
    unfolding after_all
    shape_of w d items stack none h = refl
    shape_of w d items stack (pass t more nodes rest least are) h = shape_of w d more rest are h.1
    shape_of w d items stack (split place l r more nodes rest hopeless place_is halves are) h =
        let s : IsSplitOf graphs claims lows nodes place l r = halves_of w d nodes place l r h.0 halves in
        ap (after_all claims more) (split_after nodes rest place l r s) ∙ shape_of w d more (set nodes place l ∷ set nodes place r ∷ rest) are (s.left_in, (s.right_in, h.1))

    module _ (g : Digraph) (v : ℕ) (near : deadline g v ≤ bound) where
      pub passed : (nodes : List ℕ) (t : ℕ) → AreIn graphs claims lows nodes → Passes (wcet g v) (deadline g v) f.pool nodes t → HasPassingTime graphs claims g v (lower lows nodes, t)
      passed nodes t h p =
          let sum : tree_sum_at graphs claims (lower lows nodes) t ≡ forest_sum f.pool nodes t = sums_are graphs claims lows nodes t h p.from (omega (arith, p.to)) in
          record { some = p.from; within = omega (arith, p.to); fits = omega (arith, p.passes) }

      passes_of : (items : List Item) (stack : List (List ℕ)) → AreItems f (wcet g v) (deadline g v) items stack → AllIn stack
          → All (HasPassingTime graphs claims g v) (passes claims items (Some (lower_all lows stack)))
      unfolding passes
      passes_of items stack none h = All-nil (HasPassingTime graphs claims g v)
      passes_of items stack (pass t more nodes rest least are) h =
          All-cons (HasPassingTime graphs claims g v) (lower lows nodes, t) (passes claims more (Some (lower_all lows rest))) (passed nodes t h.0 least.passes) (passes_of more rest are h.1)
      passes_of items stack (split place l r more nodes rest hopeless place_is halves are) h =
          let s : IsSplitOf graphs claims lows nodes place l r = halves_of (wcet g v) (deadline g v) nodes place l r h.0 halves in
          subst (λ (o : Option (List (List ℕ))). All (HasPassingTime graphs claims g v) (passes claims more o)) (sym (split_after nodes rest place l r s))
          (passes_of more (set nodes place l ∷ set nodes place r ∷ rest) are (s.left_in, (s.right_in, h.1)))

-- The items of a proof from the tops on end the stack of a dossier's proof, and not before the last one.
pub items_shape : (bound : ℕ) (f : Plain) (graphs : List Digraph) (lows tops : List ℕ) (claims : List TreeClaim) → AreClaimsOf bound f graphs lows tops claims
    → (w d : ℕ) (items : List Item) → AreItems f w d items (tops ∷ []) → after_all claims items (Some (map root claims ∷ [])) ≡ Some []
items_shape bound f graphs lows tops claims are w d items is =
    ap (λ (nodes : List ℕ). after_all claims items (Some (nodes ∷ []))) (tops_low bound f graphs lows tops claims are)
    ∙ shape_of bound f graphs claims lows w d items (tops ∷ []) is (tops_in bound f graphs lows tops claims are, tt)

-- Each of its items that passes does so at a time that passes for the vertex and the nodes of the claimed trees.
pub items_pass : (bound : ℕ) (f : Plain) (graphs : List Digraph) (lows tops : List ℕ) (claims : List TreeClaim) → AreClaimsOf bound f graphs lows tops claims
    → (g : Digraph) (v : ℕ) → deadline g v ≤ bound → (items : List Item) → AreItems f (wcet g v) (deadline g v) items (tops ∷ [])
    → All (HasPassingTime graphs claims g v) (passes claims items (Some (map root claims ∷ [])))
items_pass bound f graphs lows tops claims are g v near items is =
    subst (λ (nodes : List ℕ). All (HasPassingTime graphs claims g v) (passes claims items (Some (nodes ∷ [])))) (sym (tops_low bound f graphs lows tops claims are))
    (passes_of bound f graphs claims lows g v near items (tops ∷ []) is (tops_in bound f graphs lows tops claims are, tt))
