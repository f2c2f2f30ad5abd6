-- A driver's turn at the taken node of least offset, or where none is taken. It stands on the facts that a table's invariant gives.
use Rattle.std.proofs.Common.{◌≡◌, ℕ, ◌<◌, ◌≤◌, true, Option, Some, None, length, refl, sym, ap, ◌∙◌, subst}
use Rattle.std.specs.Prelude.{slice_get}
use Rattle.std.proofs.lemmas.Option.{slice_get_within, same_Some}
use Rattle.drt_label.specs.Algebra.{Algebra, Laws}
use Rattle.drt_model.specs.Digraph.{out_degree}
use Rattle.drt_table.specs.Earliest.{earliest}
use Rattle.drt_table.specs.Held.{held_offset}
use Rattle.drt_table.specs.Machine.{holder, offset}
use Rattle.drt_table.specs.Node.{NodeOf, Held, is_taken}
use Rattle.drt_table.specs.Turn.{Turn}
use Rattle.drt_table.specs.View.{View, IsTable, setting_of, state_of, CanApply, IsTableStep}
use Rattle.drt_table.specs.declared.node.NodeState.TheVariants.{Taken as TakenBy}
use Rattle.drt_table.specs.declared.step.TableReply.{TableReply}
use Rattle.drt_table.specs.declared.step.TableStep.TheVariants.{Take, Offer, Close}
use Rattle.drt_table.proofs.Earliest.{Earliest, found_earliest, earliest-map}
use Rattle.drt_table.proofs.Tables.{at_node, log_within, node_vertex, node_holds, node_all}
use Rattle.drt_table.proofs.Driving.{can_take, after_take, after_offer, after_close}

-- The fields of the table are v, and contracts see them as x. Its taken node of least offset is o.
module _ {L : Type 0} (a : Algebra L) (laws : Laws a) (v x : View L) (is : IsTable a v) (same : v ≡ x) (o : Option ℕ)
    (holder_is : o ≡ earliest (λ (h : Held L). is_taken h.node) (held_offset a) v.nodes) where
  -- the machine's holder
  held_is : holder a (setting_of x) (state_of x).nodes ≡ o
  held_is =
      ap (λ (y : View L). holder a (setting_of y) (state_of y).nodes) (sym same)
      ∙ (earliest-map is_taken (offset a (setting_of v)) (λ (h : Held L). h.node) v.nodes ∙ sym holder_is)

  log_in : length x.log ≤ x.budget
  log_in = subst (λ (y : View L). length y.log ≤ y.budget) same (log_within a laws v is)

  -- where none is taken, the driver may take
  pub may_take : (w : ℕ) → o ≡ None → CanApply a x w Take
  may_take w none = can_take a x w (held_is ∙ none)

  pub turn_take : (w : ℕ) (new : View L) (r : TableReply) → o ≡ None → IsTableStep a x new w Take r → Turn a w x new r
  turn_take w new r none step = after_take a w x new w r log_in refl (held_is ∙ none) (may_take w none) step

  module _ (id : ℕ) (some : o ≡ Some id) where
    holds : Earliest (λ (h : Held L). is_taken h.node) (held_offset a) v.nodes id
    holds = found_earliest (λ (h : Held L). is_taken h.node) (held_offset a) v.nodes id (sym holder_is ∙ some)

    pub turn_within : id < length v.nodes
    turn_within = slice_get_within v.nodes id holds.item holds.at

    module _ (h : Held L) (at : slice_get v.nodes id ≡ Some h) where
      pub turn_taken : is_taken h.node ≡ true
      turn_taken = subst (λ (y : Held L). is_taken y.node ≡ true) (same_Some holds.item h (sym holds.at ∙ at)) holds.passes

      -- the vertex of the node's label, and how many of its out-edges were offered
      module _ (u offered : ℕ) (vertex : u ≡ a.vertex h.node.label) (count : offered ≡ h.node.offered) where
        pub turn_vertex : u < length v.graph.vertices
        turn_vertex = subst (λ y. y < length v.graph.vertices) (sym vertex) (node_vertex a laws v is id h at)

        module _ (d : ℕ) (degree : d ≡ out_degree v.graph u) where
          degree_is : d ≡ out_degree v.graph (a.vertex h.node.label)
          degree_is = degree ∙ ap (λ y. out_degree v.graph y) vertex

          -- where an edge is left, it is offered for the worker that holds the node
          module _ (left : offered < d) where
            edge : offered < out_degree v.graph (a.vertex h.node.label)
            edge = subst (λ y. offered < y) degree_is left

            pub turn_extends : (n : NodeOf L) × (slice_get (state_of x).nodes id ≡ Some n) × (offered < out_degree x.graph (a.vertex n.label))
            turn_extends = subst (λ (y : View L). (n : NodeOf L) × (slice_get (state_of y).nodes id ≡ Some n) × (offered < out_degree y.graph (a.vertex n.label))) same
                (h.node, at_node a laws v is id h at, edge)

            pub may_offer : (w : ℕ) → h.node.state ≡ TakenBy w → CanApply a x w (Offer id offered)
            may_offer w taken = subst (λ (y : View L). CanApply a y w (Offer id offered)) same (h.node, node_holds a laws v is id h at w taken, count, edge)

            pub turn_offer : (driver w : ℕ) (new : View L) (r : TableReply) → h.node.state ≡ TakenBy w → IsTableStep a x new w (Offer id offered) r → Turn a driver x new r
            turn_offer driver w new r taken step = after_offer a driver x new w r log_in id offered id (held_is ∙ some) (may_offer w taken) step

          -- where none is left, the node is closed for the worker that holds it
          module _ (none_left : d ≤ offered) where
            all : h.node.offered ≡ out_degree v.graph (a.vertex h.node.label)
            all = node_all a laws v is id h at (subst (λ k. out_degree v.graph (a.vertex h.node.label) ≤ k) count (subst (λ y. y ≤ offered) degree_is none_left))

            pub may_close : (w : ℕ) → h.node.state ≡ TakenBy w → CanApply a x w (Close id)
            may_close w taken = subst (λ (y : View L). CanApply a y w (Close id)) same (h.node, node_holds a laws v is id h at w taken, all)

            pub turn_close : (driver w : ℕ) (new : View L) (r : TableReply) → h.node.state ≡ TakenBy w → IsTableStep a x new w (Close id) r → Turn a driver x new r
            turn_close driver w new r taken step = after_close a driver x new w r log_in id id (held_is ∙ some) (may_close w taken) step
