-- What an offer rests on, and what it makes of a table. It stands on the facts that a table's invariant gives.
use Rattle.std.proofs.Common.{◌≡◌, ℕ, ◌+◌, ◌<◌, ◌≤◌, Some, List, [], ◌∷◌, ◌++◌, length, refl, sym, ap, ◌∙◌, subst}
use Rattle.std.proofs.lemmas.List.{length-map}
use Rattle.std.proofs.lemmas.Option.{same_Some, slice_get_within}
use Rattle.std.specs.Prelude.{slice_get, IsTrue}
use Rattle.drt_label.specs.Algebra.{Algebra, Laws}
use Rattle.drt_model.specs.Limits.{IsTime}
use Rattle.drt_model.specs.Digraph.{edge_of, out_degree, vertex_of}
use Rattle.drt_model.specs.declared.tasks.Edge.{Edge}
use Rattle.drt_worklist.specs.Places.{changed}
use Rattle.drt_table.specs.Held.{AllOf, count_offer, placed_nodes, placed_reply}
use Rattle.drt_table.specs.Links.{AreAlone}
use Rattle.drt_table.specs.Machine.{extended}
use Rattle.drt_table.specs.Node.{NodeOf, Held}
use Rattle.drt_table.specs.View.{View, CanApply, IsTableStep, IsTable, setting_of, state_of}
use Rattle.drt_table.specs.declared.step.Entry.{Entry}
use Rattle.drt_table.specs.declared.step.TableReply.{TableReply}
use Rattle.drt_table.specs.declared.step.TableStep.TheVariants.{Offer}
use Rattle.drt_table.proofs.Tables.{at_node, node_vertex, node_extendable, nodes_small, nodes_few, offer_vertex, offer_of, offer_label, offer_all_of, offer_alone, offer_placed, table_more, offer_held}

-- the label that comes with an offer by node id along its edge k
abbrev pub Comes : {L : Type 0} → Algebra L → View L → ℕ → ℕ → L → Type 0
Comes {L} a v id k l = (n : NodeOf L) × (slice_get (state_of v).nodes id ≡ Some n) × (l ≡ extended a (setting_of v) n.label k)

-- worker w offers a label by node id of the table, along its edge k
pub record Offering {L : Type 0} (a : Algebra L) (v : View L) (w id k : ℕ) (l : L) : Type 0 where
  pub is : IsTable a v
  pub can : CanApply a v w (Offer id k)
  pub node : Held L
  pub at : slice_get v.nodes id ≡ Some node
  pub offered : node.node.offered < 1000
  pub label : l ≡ extended a (setting_of v) node.node.label k
  pub vertex : a.vertex l < length v.graph.vertices
  pub of : IsTrue (a.is_of l v.bound)
  pub few : length v.nodes ≤ length v.graph.vertices + length v.log
  pub small : length v.nodes < 4294967296
  pub all_of : AllOf (λ (h : Held L). IsTrue (a.is_of h.node.label v.bound)) (changed id count_offer v.nodes)
  pub alone : AreAlone a (changed id count_offer v.nodes)

-- the fields of the table are v, and contracts see them as x
pub offering : {L : Type 0} (a : Algebra L) (laws : Laws a) (v x : View L) → IsTable a v → v ≡ x → (w id k : ℕ) (l : L)
    → CanApply a x w (Offer id k) → Comes a x id k l → Offering a v w id k l
offering {L} a laws v x is same w id k l can_x comes_x =
    let can : CanApply a v w (Offer id k) = subst (λ (y : View L). CanApply a y w (Offer id k)) (sym same) can_x in
    let comes : Comes a v id k l = subst (λ (y : View L). Comes a y id k l) (sym same) comes_x in
    let held : (h : Held L) × (slice_get v.nodes id ≡ Some h) × (h.node.offered < 1000) = offer_held a laws v is w id k can l comes in
    record {
      is = is;
      can = can;
      node = held.0;
      at = held.1;
      offered = held.2;
      label = offer_label a laws v is w id k can l comes held.0 held.1;
      vertex = offer_vertex a laws v is w id k can l comes;
      of = offer_of a laws v is w id k can l comes;
      few = nodes_few a laws v is;
      small = nodes_small a laws v is;
      all_of = offer_all_of a laws v is w id k can l comes;
      alone = offer_alone a laws v is id;
    }

-- the offer is counted, and then the label is placed
pub record IsPlaced {L : Type 0} (a : Algebra L) (v : View L) (w id k : ℕ) (l : L) (deadline : ℕ) (counted nodes : List (Held L)) (log : List Entry) (r : TableReply) : Type 0 where
  pub room : length v.log < v.budget
  pub deadline_is : deadline ≡ (vertex_of v.graph (a.vertex l)).deadline
  pub counted_is : counted ≡ changed id count_offer v.nodes
  pub nodes_are : nodes ≡ placed_nodes a l id deadline v.bound counted
  pub reply_is : r ≡ placed_reply a l deadline v.bound counted
  pub log_is : log ≡ v.log ++ record { worker = w; step = Offer id k } ∷ []

-- the table with other nodes and another log
abbrev pub with_nodes : {L : Type 0} → View L → List (Held L) → List Entry → View L
with_nodes v nodes log = record { graph = v.graph; bound = v.bound; budget = v.budget; nodes = nodes; log = log }

module _ {L : Type 0} (a : Algebra L) (v : View L) (w id k : ℕ) (l : L) (deadline : ℕ) (counted nodes : List (Held L)) (log : List Entry) (r : TableReply)
    (o : Offering a v w id k l) (p : IsPlaced a v w id k l deadline counted nodes log r) where
  -- this is the machine's step
  pub offer_step : IsTableStep a v (with_nodes v nodes log) w (Offer id k) r
  offer_step = offer_placed a v w id k l (with_nodes v nodes log) o.node deadline r o.at o.label p.deadline_is refl
      (p.nodes_are ∙ ap (λ xs. placed_nodes a l id deadline v.bound xs) p.counted_is)
      (p.reply_is ∙ ap (λ xs. placed_reply a l deadline v.bound xs) p.counted_is) p.log_is p.room

  pub offer_table : IsTable a (with_nodes v nodes log)
  offer_table = table_more a v (with_nodes v nodes log) w (Offer id k) r o.is o.can offer_step p.log_is

-- node id of a table has an edge k out of its label's vertex
abbrev pub CanExtend : {L : Type 0} → Algebra L → View L → ℕ → ℕ → Type 0
CanExtend {L} a v id k = (n : NodeOf L) × (slice_get (state_of v).nodes id ≡ Some n) × (k < out_degree v.graph (a.vertex n.label))

pub extends_within : {L : Type 0} (a : Algebra L) (v x : View L) → v ≡ x → (id k : ℕ) → CanExtend a x id k → id < length v.nodes
extends_within {L} a v x same id k can_x =
    let can : CanExtend a v id k = subst (λ (y : View L). CanExtend a y id k) (sym same) can_x in
    subst (λ n. id < n) (length-map v.nodes (λ h. h.node)) (slice_get_within (state_of v).nodes id can.0 can.1)

-- node id, h, is extended by its edge k, which is e: the facts that the extension rests on
pub record Extending {L : Type 0} (a : Algebra L) (v : View L) (id k : ℕ) (h : Held L) : Type 0 where
  pub at : slice_get (state_of v).nodes id ≡ Some h.node
  pub vertex : a.vertex h.node.label < length v.graph.vertices
  pub edge : k < out_degree v.graph (a.vertex h.node.label)
  pub extendable : IsTrue (a.is_extendable h.node.label)
  pub sep : (u : ℕ) (e : Edge) → u ≡ a.vertex h.node.label → e ≡ edge_of v.graph u k → IsTime e.sep
  pub to : (u : ℕ) (e : Edge) → u ≡ a.vertex h.node.label → e ≡ edge_of v.graph u k → e.to < length v.graph.vertices
  pub wcet : (u : ℕ) (e : Edge) → u ≡ a.vertex h.node.label → e ≡ edge_of v.graph u k → IsTime (vertex_of v.graph e.to).wcet

pub extending : {L : Type 0} (a : Algebra L) (laws : Laws a) (v x : View L) → IsTable a v → v ≡ x → (id k : ℕ) → CanExtend a x id k
    → (h : Held L) → slice_get v.nodes id ≡ Some h → Extending a v id k h
extending {L} a laws v x is same id k can_x h at_h =
    let can : CanExtend a v id k = subst (λ (y : View L). CanExtend a y id k) (sym same) can_x in
    let at : slice_get (state_of v).nodes id ≡ Some h.node = at_node a laws v is id h at_h in
    let node : can.0 ≡ h.node = same_Some can.0 h.node (sym can.1 ∙ at) in
    let vertex : a.vertex h.node.label < length v.graph.vertices = node_vertex a laws v is id h at_h in
    let edge : k < out_degree v.graph (a.vertex h.node.label) = subst (λ (n : NodeOf L). k < out_degree v.graph (a.vertex n.label)) node can.2 in
    let to : (u : ℕ) (e : Edge) → u ≡ a.vertex h.node.label → e ≡ edge_of v.graph u k → e.to < length v.graph.vertices = λ u e u_is e_is.
    subst (λ (y : Edge). y.to < length v.graph.vertices) (sym (e_is ∙ ap (λ n. edge_of v.graph n k) u_is)) (is.sound.to (a.vertex h.node.label) k vertex edge) in
    record {
      at = at;
      vertex = vertex;
      edge = edge;
      extendable = node_extendable a laws v is id h at_h;
      sep = λ u e u_is e_is. subst (λ (y : Edge). IsTime y.sep) (sym (e_is ∙ ap (λ n. edge_of v.graph n k) u_is)) (is.sound.sep (a.vertex h.node.label) k vertex edge);
      to = to;
      wcet = λ u e u_is e_is. is.sound.wcet e.to (to u e u_is e_is);
    }
