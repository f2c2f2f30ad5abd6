-- The conditions of calls, as a driver looks at them.
use Rattle.std.proofs.Common.{◌≡◌, ℕ, ◌+◌, ◌-◌, ◌<◌, Bool, true, false, refl, Option, Some, None, length, sym, ap, ◌∙◌, subst, arith}
use Rattle.std.specs.Prelude.{slice_get, option_map, is_none, ◌&&◌, ◌==◌, IfSome}
use Rattle.std.proofs.lemmas.Bool.Decides.{nat_tests}
use Rattle.std.proofs.lemmas.List.{length-map}
use Rattle.std.proofs.lemmas.Option.{none-some, same_Some, slice_get-map, slice_get_within}
use Rattle.drt_model.specs.Digraph.{out_degree}
use Rattle.drt_graph.specs.declared.front.FrontEntry.{FrontEntry}
use Rattle.drt_demand.specs.Demand.{demand_algebra}
use Rattle.drt_table.specs.Node.{NodeOf, Held, is_held_by, is_taken_by}
use Rattle.drt_table.specs.declared.node.NodeState.{NodeState}
use Rattle.drt_table.specs.declared.node.NodeState.TheVariants.{Pending, Taken as TakenBy, Done}
use Rattle.drt_table.specs.declared.step.TableStep.TheVariants.{Take, Offer, Close}
use Rattle.drt_table.specs.KeptOrder.{IsFirstKept, IsNextKept}
use Rattle.drt_worklist.specs.Places.{first}
use Rattle.drt_table.specs.Machine.{Holds, extended}
use Rattle.drt_table.specs.View.{View, CanApply, ComesWith, setting_of, state_of, kept_at}
use Rattle.drt_worklist.proofs.Lists.{Found, found, none_found}

-- A worker holds a node that is taken by it, and no other.
held_by_itself : (w : ℕ) (s : NodeState) → s ≡ TakenBy w → is_taken_by w s ≡ false → ⊥
held_by_itself w Pending e h = absurd (cc)
held_by_itself w (TakenBy x) e h = same w x h e
  where
    same : (w x : ℕ) → is_taken_by w (TakenBy x) ≡ false → TakenBy x ≡ TakenBy w → ⊥
    same w x h e = grind (arith, nat_tests)
held_by_itself w Done e h = absurd (cc)

state_held : (w : ℕ) (s : NodeState) → is_taken_by w s ≡ true → s ≡ TakenBy w
state_held w Pending h = absurd (cc)
state_held w (TakenBy x) h = ap TakenBy (same w x h)
  where
    same : (w x : ℕ) → is_taken_by w (TakenBy x) ≡ true → x ≡ w
    same w x h = grind (arith, nat_tests)
state_held w Done h = absurd (cc)

-- A worker that holds no node may take.
pub can_take : (v : View FrontEntry) (w : ℕ) → first (is_held_by w) (state_of v).nodes ≡ None → CanApply demand_algebra v w Take
can_take v w e id n at held = held_by_itself w n.state held (none_found (is_held_by w) (state_of v).nodes e id n at)

-- The node that a worker holds.
pub held_node : (v : View FrontEntry) (w id : ℕ) → first (is_held_by w) (state_of v).nodes ≡ Some id → (n : NodeOf FrontEntry) × Holds demand_algebra (setting_of v) (state_of v) w id n
held_node v w id e =
    let f : Found (is_held_by w) (state_of v).nodes id = found (is_held_by w) (state_of v).nodes id e in
    (f.item, record { at = f.at; held = state_held w f.item.state f.passes })

-- It is a node of the table.
pub held_within : (v : View FrontEntry) (w id : ℕ) → first (is_held_by w) (state_of v).nodes ≡ Some id → id < length v.nodes
held_within v w id e =
    let f = held_node v w id e in
    let l = slice_get_within (state_of v).nodes id f.0 f.1.at in
    let same = length-map v.nodes (λ h. h.node) in
    omega (arith, l, same)

-- The node of a number, as the table has it.
node_at : (v : View FrontEntry) (id : ℕ) (h : Held FrontEntry) → slice_get v.nodes id ≡ Some h → slice_get (state_of v).nodes id ≡ Some h.node
node_at v id h at = slice_get-map (λ x. x.node) v.nodes id ∙ ap (λ o. option_map (λ x. x.node) o) at

-- A worker holds the node that was read.
holds_read : (v : View FrontEntry) (w id : ℕ) (h : Held FrontEntry) → first (is_held_by w) (state_of v).nodes ≡ Some id → slice_get v.nodes id ≡ Some h
    → Holds demand_algebra (setting_of v) (state_of v) w id h.node
holds_read v w id h e at =
    let f = held_node v w id e in
    let same : f.0 ≡ h.node = same_Some f.0 h.node (sym f.1.at ∙ node_at v id h at) in
    subst (λ n. Holds demand_algebra (setting_of v) (state_of v) w id n) same f.1

-- Both times the same node was read.
read_again : (v : View FrontEntry) (id : ℕ) (h k : Held FrontEntry) → slice_get v.nodes id ≡ Some h → slice_get v.nodes id ≡ Some k → k.node.label.vertex ≡ h.node.label.vertex
read_again v id h k at again = ap (λ x. x.node.label.vertex) (same_Some k h (sym again ∙ at))

-- A worker may offer the next edge of the node that it holds.
pub can_offer : (v : View FrontEntry) (w id edge : ℕ) (h k : Held FrontEntry) → first (is_held_by w) (state_of v).nodes ≡ Some id → slice_get v.nodes id ≡ Some h
    → slice_get v.nodes id ≡ Some k → edge ≡ h.node.offered → edge < out_degree v.graph k.node.label.vertex → CanApply demand_algebra v w (Offer id edge)
can_offer v w id edge h k e at again next lt =
    let d = ap (λ x. out_degree v.graph x) (read_again v id h k at again) in
    (h.node, holds_read v w id h e at, next, omega (arith, lt, d))

-- It may close the node where all edges were offered.
pub can_close : (v : View FrontEntry) (w id : ℕ) (h k : Held FrontEntry) → first (is_held_by w) (state_of v).nodes ≡ Some id → slice_get v.nodes id ≡ Some h
    → slice_get v.nodes id ≡ Some k → h.node.offered ≡ out_degree v.graph k.node.label.vertex → CanApply demand_algebra v w (Close id)
can_close v w id h k e at again all =
    let d = ap (λ x. out_degree v.graph x) (read_again v id h k at again) in
    (h.node, holds_read v w id h e at, all ∙ d)

-- The label that comes with an offer.
pub comes_extended : (v : View FrontEntry) (id edge : ℕ) (h : Held FrontEntry) (read x : FrontEntry) → slice_get v.nodes id ≡ Some h → read ≡ h.node.label
    → x ≡ extended demand_algebra (setting_of v) read edge → ComesWith demand_algebra v (Offer id edge) (Some x)
comes_extended v id edge h read x at e is = (h.node, node_at v id h at, ap Some (is ∙ ap (λ l. extended demand_algebra (setting_of v) l edge) e))

-- Where there is a next node, it is kept.
abbrev pub IsKeptNext : View FrontEntry → Option ℕ → Type 0
IsKeptNext v o = (i : ℕ) → o ≡ Some i → (n : NodeOf FrontEntry) × (slice_get (state_of v).nodes i ≡ Some n) × (n.dropped_by ≡ None)

pub first_next : (v : View FrontEntry) (vertex : ℕ) (o : Option ℕ) → IsFirstKept demand_algebra (state_of v).nodes vertex o → IsKeptNext v o
first_next v vertex None first i is = absurd (none-some i is)
first_next v vertex (Some k) first i is = subst (λ j. (n : NodeOf FrontEntry) × (slice_get (state_of v).nodes j ≡ Some n) × (n.dropped_by ≡ None)) (same_Some k i is)
    (first.0, first.1.at, first.1.kept)

-- The node after a kept one is kept.
pub later_next : (v : View FrontEntry) (id : ℕ) (n : NodeOf FrontEntry) (o : Option ℕ) → IsNextKept demand_algebra (state_of v).nodes n.label.vertex id n o → IsKeptNext v o
later_next v id n None next i is = absurd (none-some i is)
later_next v id n (Some k) next i is = subst (λ j. (n : NodeOf FrontEntry) × (slice_get (state_of v).nodes j ≡ Some n) × (n.dropped_by ≡ None)) (same_Some k i is) (next.0, next.1.at, next.1.kept)
