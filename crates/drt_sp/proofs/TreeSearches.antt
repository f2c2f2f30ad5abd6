-- How a search of a graph's walks ends, and the leaves that it gives.
use Rattle.std.proofs.Common.{◌≡◌, ℕ, suc, ◌+◌, ◌≤◌, inl, inr, true, false, Option, None, Some, List, [], ◌∷◌, ◌++◌, All, length, refl, sym, ap, ◌∙◌, subst, arith}
use Rattle.std.specs.Prelude.{is_none, is_some, option_map, slice_get}
use Rattle.std.specs.declared.alloc.Global.{Global}
use Rattle.std.specs.declared.sync.Arc.{Arc}
use Rattle.std.proofs.lemmas.List.{length-map}
use Rattle.std.proofs.lemmas.Option.{slice_get-map}
use Rattle.std.proofs.lemmas.List.Elements.{All-weaker}
use Rattle.drt_table.specs.Machine.{search_of}
use Rattle.drt_effort.specs.Efforts.{most_budget}
use Rattle.drt_model.specs.Digraph.{Digraph, IsSoundGraph}
use Rattle.drt_graph.proofs.Paths.{span_none}
use Rattle.drt_request.specs.Laws.{request_laws}
use Rattle.drt_request.specs.Request.{Request, request_algebra}
use Rattle.drt_table.specs.Cover.{IsFront}
use Rattle.drt_table.specs.Node.{Held, NodeOf}
use Rattle.drt_table.specs.Walk.{IsWalkOf}
use Rattle.drt_table.specs.View.{View, IsTable, setting_of, state_of}
use Rattle.drt_table.proofs.Tables.{nodes_few, log_within}
use Rattle.drt_tree.specs.Leaf.{leaves_of}
use Rattle.drt_tree.specs.Tree.{HaveOneBound}
use Rattle.drt_tree.specs.declared.leaf.Leaf.{Leaf}
use Rattle.drt_tree.proofs.Trees.{length-leaves_of}
use Rattle.drt_sp.specs.Gathering.{AreLeavesGathered}
use Rattle.drt_sp.specs.TaskTrees.{AreWalkLeaves, IsWalkLeaf}
use Rattle.drt_sp.specs.Searches.{AreLeavesOf}
use Rattle.drt_sp.specs.declared.trees.gathering.Leaves.{Leaves}
use Rattle.drt_sp.proofs.TreeLeaves.{walk_leaves}

module _ (g : Digraph) (bound budget : ℕ) (v : View Request) (setting : setting_of v ≡ search_of g bound budget) (is : IsTable request_algebra v) where
  search_sound : IsSoundGraph g
  search_sound = subst IsSoundGraph (ap (λ t. t.graph) setting) is.sound

  search_leaves : (ls : List Leaf) → AreWalkLeaves v.bound v.graph ls → AreWalkLeaves bound g ls
  search_leaves ls are = subst (λ x. AreWalkLeaves bound x ls) (ap (λ t. t.graph) setting) (subst (λ b. AreWalkLeaves b v.graph ls) (ap (λ t. t.bound) setting) are)

  -- A search has at most 1,000,096 nodes.
  search_few : budget ≤ most_budget → length v.nodes ≤ 1000096
  search_few le =
      let a = nodes_few request_algebra request_laws v is in
      let b = log_within request_algebra request_laws v is in
      let c : v.budget ≡ budget = ap (λ t. t.budget) setting in
      let d = is.sound.few in
      omega (arith, a, b, c, d, le)

-- There is a leaf.
some_leaves : (g : Digraph) (bound : ℕ) (ls : List Leaf) → IsSoundGraph g → 1 ≤ bound → AreWalkLeaves bound g ls → 1 ≤ length ls
some_leaves g bound ls sound some are =
    let s = sound.some in
    let z = span_none g 0 in
    let a = (are.covers 0 [] (omega (arith, s), tt, omega (arith, z, some))).2 in
    omega (arith, a)

-- The leaves of a search, as labels and walks that are lent.
pub record AreLent {Z : Type 0} (g : Digraph) (bound : ℕ) (labels : List (Arc Request Z)) (walks : List (List ℕ)) : Type 0 where
  pub sound : IsSoundGraph g
  pub leaves : AreWalkLeaves bound g (leaves_of labels walks)
  pub counted : length (leaves_of labels walks) ≡ length labels
  pub some : 1 ≤ length labels
  pub few : length labels ≤ 1000096

-- The leaves that a finished search of the graph gives are those of its tree.
pub searched_leaves : (g : Digraph) (bound budget : ℕ) (v : View Request) → setting_of v ≡ search_of g bound budget → IsTable request_algebra v → budget ≤ most_budget
    → (leaves : Leaves) → length leaves.labels.items ≡ length leaves.walks.items → length leaves.labels.items ≤ length v.nodes
    → AreWalkLeaves v.bound v.graph (leaves_of leaves.labels.items leaves.walks.items) → AreLeavesOf g bound leaves
searched_leaves g bound budget v setting is to leaves same few are =
    let most = search_few g bound budget v setting is to in
    record {
      sound = search_sound g bound budget v setting is;
      same = same;
      few = omega (arith, few, most);
      leaves_are = search_leaves g bound budget v setting is (leaves_of leaves.labels.items leaves.walks.items) are;
    }

pub lent_leaves : (g : Digraph) (bound : ℕ) (leaves : Leaves) → AreLeavesOf g bound leaves → 1 ≤ bound
    → (labels : List (Arc Request Global)) (walks : List (List ℕ)) → labels ≡ leaves.labels.items → walks ≡ leaves.walks.items → AreLent g bound labels walks
lent_leaves g bound leaves are from labels walks p q =
    let kept = leaves.labels.items in
    let found = leaves.walks.items in
    let n : length (leaves_of kept found) ≡ length kept = length-leaves_of kept found are.same in
    let some = some_leaves g bound (leaves_of kept found) are.sound from are.leaves_are in
    rw (p, q) (record { sound = are.sound; leaves = are.leaves_are; counted = n; some = omega (arith, n, some); few = are.few })

-- The leaves have the bound, as the functions of the forest have.
pub one_bound : (g : Digraph) (bound : ℕ) (pool : List (List ℕ)) (ls : List Leaf) → All (λ xs. length xs ≡ bound) pool → AreWalkLeaves bound g ls → HaveOneBound pool ls
one_bound g bound pool ls all are = (bound, all, All-weaker (IsWalkLeaf bound g) (λ l. length l.steps ≡ bound) (λ l is. is.long) ls are.each)

-- One more label and its walk are one more leaf.
pub leaves_push : {Z : Type 0} (labels : List (Arc Request Z)) (walks : List (List ℕ)) (l : Arc Request Z) (w : List ℕ) → length labels ≡ length walks
    → leaves_of (labels ++ l ∷ []) (walks ++ w ∷ []) ≡ leaves_of labels walks ++ record { steps = l.value.values; walk = w } ∷ []
leaves_push [] [] l w e = refl
leaves_push [] (x ∷ walks) l w e = absurd (omega arith)
leaves_push (x ∷ labels) [] l w e = absurd (omega arith)
leaves_push (x ∷ labels) (y ∷ walks) l w e = ap (λ ls. record { steps = x.value.values; walk = y } ∷ ls) (leaves_push labels walks l w (omega arith))

-- The leaves of all kept nodes of a finished search are those of a tree.
pub gathered_leaves : (v : View Request) → IsTable request_algebra v → IsFront request_algebra (setting_of v) (state_of v).nodes → (ls : List Leaf)
    → AreLeavesGathered (setting_of v) (state_of v).nodes (length v.nodes) ls → AreWalkLeaves v.bound v.graph ls
gathered_leaves v is front ls are =
    let long : length v.nodes ≡ length (state_of v).nodes = sym (length-map v.nodes (λ h. h.node)) in
    walk_leaves (setting_of v) (state_of v).nodes is.sound front ls (subst (λ n. AreLeavesGathered (setting_of v) (state_of v).nodes n ls) long are)

none_of : (o : Option ℕ) → is_some o ≡ false → is_none o ≡ true
none_of None e = refl
none_of (Some k) e = absurd (cc)

some_of : (o : Option ℕ) → is_some o ≡ true → is_none o ≡ false
some_of None e = absurd (cc)
some_of (Some k) e = refl

module _ (v : View Request) (i : ℕ) (h : Held Request) (at : slice_get v.nodes i ≡ Some h) where
  node_at : slice_get (state_of v).nodes i ≡ Some h.node
  node_at = slice_get-map (λ h. h.node) v.nodes i ∙ ap (λ o. option_map (λ h. h.node) o) at

  next_is : suc i ≡ i + 1
  next_is = omega arith

  -- A kept node gives a leaf more.
  pub gathered_kept : {Z : Type 0} (labels : List (Arc Request Z)) (walks : List (List ℕ)) (l : Arc Request Z) (w : List ℕ) → is_some h.node.dropped_by ≡ false
      → length labels ≡ length walks → l.value ≡ h.node.label
      → ((n : NodeOf Request) → slice_get (state_of v).nodes i ≡ Some n → IsWalkOf request_algebra (setting_of v) w n.label)
      → AreLeavesGathered (setting_of v) (state_of v).nodes i (leaves_of labels walks) → AreLeavesGathered (setting_of v) (state_of v).nodes (i + 1) (leaves_of (labels ++ l ∷ []) (walks ++ w ∷ []))
  gathered_kept labels walks l w kept same label walk before =
      let leaf : Leaf = record { steps = l.value.values; walk = w } in
      subst (λ k. AreLeavesGathered (setting_of v) (state_of v).nodes k (leaves_of (labels ++ l ∷ []) (walks ++ w ∷ []))) next_is
      (inr (
        h.node,
        leaf,
        leaves_of labels walks,
        record { at = node_at; kept = none_of h.node.dropped_by kept },
        record { steps = ap (λ x. x.values) label; walk = walk h.node node_at },
        leaves_push labels walks l w same,
        before,
      ))

  -- A dropped one gives none.
  pub gathered_dropped : (ls : List Leaf) → is_some h.node.dropped_by ≡ true → AreLeavesGathered (setting_of v) (state_of v).nodes i ls → AreLeavesGathered (setting_of v) (state_of v).nodes (i + 1) ls
  gathered_dropped ls dropped before =
      subst (λ k. AreLeavesGathered (setting_of v) (state_of v).nodes k ls) next_is (inl (h.node, node_at, some_of h.node.dropped_by dropped, before))
