-- The next node, as a worker takes it: in the arena, and what the table found before.
use Rattle.std.proofs.Common.{◌≡◌, ◌+◌, ◌<◌, ℕ, Bool, true, Option, Some, get_or, length, refl, sym, ap, ◌∙◌, subst, set}
use Rattle.std.proofs.lemmas.Option.{same_Some, slice_get_read, slice_get_within}
use Rattle.std.specs.Prelude.{slice_get, nat_le, unwrap_or}
use Rattle.drt_label.specs.Algebra.{Algebra}
use Rattle.drt_worklist.specs.Places.{changed}
use Rattle.drt_worklist.proofs.Writes.{changed_set}
use Rattle.drt_table.specs.Arena.{Stock}
use Rattle.drt_table.specs.Earliest.{earliest}
use Rattle.drt_table.specs.Held.{take_by, held_offset}
use Rattle.drt_table.specs.Machine.{separation}
use Rattle.drt_table.specs.Node.{Held, is_node_pending, is_taken}
use Rattle.drt_table.specs.Taking.{take_reply, is_soon}
use Rattle.drt_table.specs.View.{View, setting_of}
use Rattle.drt_table.specs.declared.step.TableReply.{TableReply}
use Rattle.drt_table.proofs.Earliest.{Earliest, found_earliest}
use Rattle.drt_table.proofs.Tables.{Found-for-take}

-- node id is the next one
abbrev pub IsNextNode : {L : Type 0} → Algebra L → Stock L → ℕ → Type 0
IsNextNode {L} a v id = Some id ≡ earliest (λ (h : Held L). is_node_pending h.node) (held_offset a) v.nodes

-- worker w takes node id, the next one, which then is y
pub record TakesNext {L : Type 0} (a : Algebra L) (v : Stock L) (id w : ℕ) (y : Held L) : Type 0 where
  pub is_next : IsNextNode a v id
  pub within : id < length v.nodes
  pub nodes_are : set v.nodes id y ≡ changed id (take_by w) v.nodes

-- the fields of the arena are v, and contracts see them as x
module _ {L : Type 0} (a : Algebra L) (v x : Stock L) (same : v ≡ x) (id : ℕ) (next_x : IsNextNode a x id) where
  next_here : IsNextNode a v id
  next_here = subst (λ (y : Stock L). IsNextNode a y id) (sym same) next_x

  found : Earliest (λ (h : Held L). is_node_pending h.node) (held_offset a) v.nodes id
  found = found_earliest (λ (h : Held L). is_node_pending h.node) (held_offset a) v.nodes id (sym next_here)

  pub next_within : id < length v.nodes
  next_within = slice_get_within v.nodes id found.item found.at

  module _ (h : Held L) (is : h ≡ get_or v.nodes id h) where
    next_at : slice_get v.nodes id ≡ Some h
    next_at = slice_get_read v.nodes (length v.nodes) id h refl next_within is

    pub next_pending : is_node_pending h.node ≡ true
    next_pending = ap (λ (y : Held L). is_node_pending y.node) (same_Some h found.item (sym next_at ∙ found.at)) ∙ found.passes

    pub takes_next : (w : ℕ) (y : Held L) → y ≡ take_by w h → TakesNext a v id w y
    takes_next w y taken = record {
      is_next = next_here;
      within = next_within;
      nodes_are = ap (λ z. set v.nodes id z) taken ∙ sym (changed_set (take_by w) v.nodes id h next_at);
    }

-- what is found before a node is taken, where the table's shortest separation and the length of its log are these
pub found_for_take : {L : Type 0} (a : Algebra L) (v : View L) (short : Option ℕ) (n : ℕ) (p o : Option ℕ) (b c : Bool) (r : TableReply)
    → unwrap_or short (v.bound + 1) ≡ separation (setting_of v) → length v.log ≡ n
    → p ≡ earliest (λ (h : Held L). is_node_pending h.node) (held_offset a) v.nodes → o ≡ earliest (λ (h : Held L). is_taken h.node) (held_offset a) v.nodes
    → b ≡ nat_le v.budget n → c ≡ is_soon a v.nodes (unwrap_or short (v.bound + 1)) p o → r ≡ take_reply p o b c → Found-for-take a v p o b c r
found_for_take a v short n p o b c r sep_is count next_is holder_is full soon reply = record {
  next_is = next_is;
  holder_is = holder_is;
  full = ap (λ (m : ℕ). nat_le v.budget m) count ∙ sym full;
  soon = soon ∙ ap (λ s. is_soon a v.nodes s p o) sep_is;
  reply = reply;
}
