-- From a node back to its opening node.
use Rattle.std.proofs.Common.{◌≡◌, ℕ, ◌+◌, ◌<◌, Option, Some, None, List, [], ◌∷◌, ◌++◌, length, refl, sym, ap, ◌∙◌, subst, arith, append_assoc}
use Rattle.std.specs.Prelude.{slice_get}
use Rattle.std.proofs.lemmas.List.{length-map}
use Rattle.std.proofs.lemmas.Option.{same_Some, slice_get_within}
use Rattle.drt_label.specs.Algebra.{Algebra, Laws}
use Rattle.drt_model.specs.Digraph.{edge_of, out_degree}
use Rattle.drt_table.specs.Node.{NodeOf, Held}
use Rattle.drt_table.specs.Machine.{Setting}
use Rattle.drt_table.specs.Walk.{WalkTo, IsWalkBack}
use Rattle.drt_table.specs.Facts.{Facts, IsRoot, IsChild}
use Rattle.drt_table.specs.View.{View, IsTable, setting_of, state_of}
use Rattle.drt_worklist.proofs.Lists.{get_within}
use Rattle.drt_table.proofs.Tables.{at_node, facts_of}
use Rattle.drt_table.proofs.Walks.{walk_vertex, walk_range}

-- how far back there still is to go
abbrev pub order_of : Option ℕ → ℕ
order_of None = 0
order_of (Some i) = i + 1

module _ {L : Type 0} (a : Algebra L) (t : Setting) (nodes : List (NodeOf L)) where
  -- these vertices, the last first, and then any walk to the node o are a walk with the label
  abbrev pub IsRest : List ℕ → Option ℕ → L → Type 0
  IsRest done None l = IsWalkBack a t done l
  IsRest done (Some i) l = (n : NodeOf L) × (slice_get nodes i ≡ Some n) × ((u : ℕ) (before : List ℕ) → WalkTo a t u before n.label → IsWalkBack a t (done ++ u ∷ before) l)

  pub rest_start : (i : ℕ) (n : NodeOf L) → slice_get nodes i ≡ Some n → IsRest [] (Some i) n.label
  rest_start i n at = (n, at, λ u before w. w)

  module _ (laws : Laws a) (facts : Facts a t nodes) where
    rest_at : (done : List ℕ) (i : ℕ) (l : L) (n : NodeOf L) → slice_get nodes i ≡ Some n
        → ((u : ℕ) (before : List ℕ) → WalkTo a t u before n.label → IsWalkBack a t (done ++ u ∷ before) l) → (o : Option ℕ) → n.parent ≡ o → IsRest (done ++ a.vertex n.label ∷ []) o l
    rest_at done i l n at h None e =
        let r : IsRoot a t n = facts.roots i n at e in
        let w = facts.walks i n at in
        let walk : WalkTo a t r.vertex [] n.label = (r.within, r.label, walk_range a laws t w.0 w.1 n.label w.2) in
        subst (λ (u : ℕ). IsWalkBack a t (done ++ u ∷ []) l) (sym (walk_vertex a laws t r.vertex [] n.label walk)) (h r.vertex [] walk)
    rest_at done i l n at h (Some p) e =
        let c : IsChild a t nodes i n p = facts.children i n p at e in
        let w = facts.walks i n at in
        let m : L = c.parent.label in (
          c.parent,
          c.at,
          λ u before walk.
              let same : a.vertex m ≡ u = walk_vertex a laws t u before m walk in
              let to : ℕ = (edge_of t.graph u c.edge).to in
              let longer : WalkTo a t to (u ∷ before) n.label =
              (c.edge, m, walk, subst (λ (x : ℕ). c.edge < out_degree t.graph x) same c.within, refl, c.label, walk_range a laws t w.0 w.1 n.label w.2) in
              let vertex : to ≡ a.vertex n.label = sym (walk_vertex a laws t to (u ∷ before) n.label longer) in
              subst (λ (ws : List ℕ). IsWalkBack a t ws l) (sym (append_assoc done (a.vertex n.label ∷ []) (u ∷ before)))
              (subst (λ (x : ℕ). IsWalkBack a t (done ++ x ∷ (u ∷ before)) l) vertex (h to (u ∷ before) longer)),
        )

    pub rest_more : (done : List ℕ) (i : ℕ) (l : L) (n : NodeOf L) → slice_get nodes i ≡ Some n → IsRest done (Some i) l → IsRest (done ++ a.vertex n.label ∷ []) n.parent l
    rest_more done i l n at r =
        let same : r.0 ≡ n = same_Some r.0 n (sym r.1 ∙ at) in
        rest_at done i l n at (subst (λ (x : NodeOf L). (u : ℕ) (before : List ℕ) → WalkTo a t u before x.label → IsWalkBack a t (done ++ u ∷ before) l) same r.2) n.parent refl

    order_at : (i : ℕ) (n : NodeOf L) → slice_get nodes i ≡ Some n → (o : Option ℕ) → n.parent ≡ o → order_of o < i + 1
    order_at i n at None e = omega arith
    order_at i n at (Some p) e = let c : IsChild a t nodes i n p = facts.children i n p at e in let h : p < i = c.earlier in omega arith

    pub order_less : (i : ℕ) (n : NodeOf L) → slice_get nodes i ≡ Some n → order_of n.parent < i + 1
    order_less i n at = order_at i n at n.parent refl

-- what is left from node `next` on of the walk to node id, these vertices being done
abbrev pub IsRestOf : {L : Type 0} → Algebra L → View L → ℕ → List ℕ → Option ℕ → Type 0
IsRestOf {L} a x id done next = (n : NodeOf L) → slice_get (state_of x).nodes id ≡ Some n → IsRest a (setting_of x) (state_of x).nodes done next n.label

-- the way back stands at node i: what each answer there rests on
pub record Returning {L : Type 0} (a : Algebra L) (v x : View L) (id : ℕ) (done : List ℕ) (i : ℕ) : Type 0 where
  pub facts : Facts a (setting_of x) (state_of x).nodes
  pub rest : IsRestOf a x id done (Some i)
  pub within : i < length v.nodes
  pub at : (h : Held L) → slice_get v.nodes i ≡ Some h → slice_get (state_of x).nodes i ≡ Some h.node

-- the fields of the table are v, and contracts see them as x
pub returning : {L : Type 0} (a : Algebra L) (laws : Laws a) (v x : View L) → IsTable a v → v ≡ x → (id : ℕ) → id < length x.nodes → (done : List ℕ)
    → (next : Option ℕ) → IsRestOf a x id done next → (i : ℕ) → next ≡ Some i → Returning a v x id done i
returning {L} a laws v x is_v same id id_within done next rest_next i e =
    let is : IsTable a x = subst (λ (y : View L). IsTable a y) same is_v in
    let rest : IsRestOf a x id done (Some i) = subst (λ o. IsRestOf a x id done o) e rest_next in
    let h : (h : Held L) × (slice_get x.nodes id ≡ Some h) = get_within x.nodes id id_within in
    let here = rest h.0.node (at_node a laws x is id h.0 h.1) in
    let within : i < length (state_of x).nodes = slice_get_within (state_of x).nodes i here.0 here.1 in
    let many : length (state_of x).nodes ≡ length v.nodes = length-map x.nodes (λ y. y.node) ∙ ap (λ (y : View L). length y.nodes) (sym same) in
    record {
      facts = facts_of a laws x is;
      rest = rest;
      within = subst (λ m. i < m) many within;
      at = λ y at. at_node a laws x is i y (subst (λ (z : View L). slice_get z.nodes i ≡ Some y) same at);
    }
