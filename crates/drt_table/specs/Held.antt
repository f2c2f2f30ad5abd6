-- Changes of nodes with their spares.
use Rattle.std.specs.Prelude.{◌≡◌, ℕ, ◌+◌, Bool, true, false, if◌then◌else◌, ◌&&◌, Option, Some, None, List, [], ◌∷◌, ◌++◌, length, map, slice_get}
use Rattle.drt_label.specs.Algebra.{Algebra}
use Rattle.drt_table.specs.Node.{Held, is_kept, fresh}
use Rattle.drt_worklist.specs.Places.{first}
use Rattle.drt_table.specs.declared.step.TableReply.{TableReply}
use Rattle.drt_table.specs.declared.step.TableReply.TheVariants.{Added, Dominated, OutOfRange}
use Rattle.drt_table.specs.declared.node.NodeState.TheVariants.{Taken, Done}

-- The fact holds of each element.
abbrev pub AllOf : {A : Type 0} → (A → Type 0) → List A → Type 0
AllOf {A} P xs = (k : ℕ) (x : A) → slice_get xs k ≡ Some x → P x

module _ {L : Type 0} where
  -- The worker takes the node.
  abbrev pub take_by : ℕ → Held L → Held L
  take_by w h = record h { node = record h.node { state = Taken w } }

  -- The node has made one more offer.
  abbrev pub count_offer : Held L → Held L
  count_offer h = record h { node = record h.node { offered = h.node.offered + 1 } }

  -- The node is done.
  abbrev pub close_node : Held L → Held L
  close_node h = record h { node = record h.node { state = Done } }

  -- The node's spare is handed out.
  abbrev pub hand_out : Held L → Held L
  hand_out h = record h { spare = false }

  -- A new node, with its spare.
  abbrev pub fresh_held : L → Option ℕ → Held L
  fresh_held l p = record { node = fresh l p; spare = true }

  -- The offset of the node's label.
  abbrev pub held_offset : Algebra L → Held L → ℕ
  held_offset a h = a.offset h.node.label

  -- The node is kept and dominates the label.
  abbrev pub dominates_held : Algebra L → L → Held L → Bool
  dominates_held a l h = is_kept h.node && a.dominates h.node.label l

  -- The node is dropped by the one of that number, where it is kept and the label dominates it.
  abbrev pub drop_held : Algebra L → L → ℕ → Held L → Held L
  drop_held a l number h =
      if is_kept h.node && a.dominates l h.node.label
      then record h { node = record h.node { dropped_by = Some number; state = Done } } else h

  -- The nodes after the label is compared, by the least node that dominates it, if there is one.
  abbrev pub compared_nodes : Algebra L → L → ℕ → List (Held L) → Option ℕ → List (Held L)
  compared_nodes a l parent xs None = map (drop_held a l (length xs)) xs ++ fresh_held l (Some parent) ∷ []
  compared_nodes a l parent xs (Some k) = xs

  -- The reply after the label is compared.
  abbrev pub compared_reply : List (Held L) → Option ℕ → TableReply
  compared_reply xs None = Added (length xs)
  compared_reply xs (Some k) = Dominated k

  -- The nodes after the label is offered.
  abbrev pub placed_nodes : Algebra L → L → ℕ → ℕ → ℕ → List (Held L) → List (Held L)
  placed_nodes a l parent deadline bound xs = if a.in_range l deadline bound then compared_nodes a l parent xs (first (dominates_held a l) xs) else xs

  -- The reply after the label is offered.
  abbrev pub placed_reply : Algebra L → L → ℕ → ℕ → List (Held L) → TableReply
  placed_reply a l deadline bound xs = if a.in_range l deadline bound then compared_reply xs (first (dominates_held a l) xs) else OutOfRange
