-- What contracts see of a pass, and what a pass holds after an answer.
use Rattle.std.specs.Prelude.{◌≡◌, ℕ, ◌+◌, ◌<◌, ◌≤◌, Bool, false, ◌||◌, IsTrue, Option, None, Some, option_map, List, [], ◌∷◌, length}
use Rattle.atomic_table.specs.Seated.{TableId}
use Rattle.drt_label.specs.Algebra.{Algebra}
use Rattle.drt_model.specs.Digraph.{out_degree}
use Rattle.drt_table.specs.Machine.{Setting, in_range, extended}
use Rattle.drt_table.specs.declared.step.TableReply.{TableReply}
use Rattle.drt_table.specs.declared.step.TableReply.TheVariants.{Taken, Busy, Finished, Added, Dominated, OutOfRange, Closed, Spent}
use Rattle.drt_shared.specs.Replies.{logged}
use Rattle.drt_shared.specs.declared.pass.Holding.{Holding}
use Rattle.drt_shared.specs.declared.reply.SharedReply.{SharedReply}
use Rattle.drt_shared.specs.declared.reply.SharedReply.TheVariants.{Step, Halted, Strange}

-- A pass is its number, the count of its logged steps, what it holds, whether it halted the search, and the table that it is
-- of: its name and what it was started with.
pub record PassOf (L : Type 0) : Type 0 where
  pub number : ℕ
  pub count : ℕ
  pub holding : Option (Holding L)
  pub halted : Bool
  pub name : TableId
  pub setting : Option Setting

-- A shared table is its name, what it was started with, and how many passes it has.
pub record SharedOf : Type 0 where
  pub name : TableId
  pub setting : Setting
  pub passes : ℕ

module _ {L : Type 0} where
  -- How many out-edges were offered.
  abbrev pub offers_of : Option (Holding L) → ℕ
  offers_of None = 0
  offers_of (Some h) = h.offered

  -- One more out-edge was offered.
  abbrev pub one_more : Holding L → Holding L
  one_more h = record { node = h.node; label = h.label; offered = h.offered + 1 }

  -- The pass holds that node, and has offered none of its out-edges.
  abbrev pub HoldsNew : ℕ → Option (Holding L) → Type 0
  HoldsNew k None = ⊥
  HoldsNew k (Some h) = (h.node ≡ k) × (h.offered ≡ 0)

  -- What a pass that held `old` holds after a reply of the table.
  abbrev pub HoldsAfter : TableReply → Option (Holding L) → Option (Holding L) → Type 0
  HoldsAfter (Taken k) old new = HoldsNew k new
  HoldsAfter (Busy k) old new = new ≡ old
  HoldsAfter Finished old new = new ≡ old
  HoldsAfter (Added k) old new = new ≡ option_map one_more old
  HoldsAfter (Dominated k) old new = new ≡ option_map one_more old
  HoldsAfter OutOfRange old new = new ≡ option_map one_more old
  HoldsAfter Closed old new = new ≡ None
  HoldsAfter Spent old new = new ≡ old

  -- What it holds after an answer.
  abbrev pub Keeps : SharedReply → Option (Holding L) → Option (Holding L) → Type 0
  Keeps (Step r) old new = HoldsAfter r old new
  Keeps Halted old new = new ≡ old
  Keeps (Strange f) old new = new ≡ old

  -- The same, where `taken` came with the answer.
  abbrev pub holding_by : TableReply → Option (Holding L) → Option (Holding L) → Option (Holding L)
  holding_by (Taken k) old taken = taken
  holding_by (Busy k) old taken = old
  holding_by Finished old taken = old
  holding_by (Added k) old taken = option_map one_more old
  holding_by (Dominated k) old taken = option_map one_more old
  holding_by OutOfRange old taken = option_map one_more old
  holding_by Closed old taken = None
  holding_by Spent old taken = old

  abbrev pub holding_after : SharedReply → Option (Holding L) → Option (Holding L) → Option (Holding L)
  holding_after (Step r) old taken = holding_by r old taken
  holding_after Halted old taken = old
  holding_after (Strange f) old taken = old

  -- What an answer does to a pass: it keeps its number and its mark, counts what was logged, and holds what the answer says.
  pub record HasMoved (old new : PassOf L) (reply : SharedReply) : Type 0 where
    pub number : new.number ≡ old.number
    pub halted : new.halted ≡ old.halted
    pub count : new.count ≡ old.count + logged reply
    pub holding : Keeps reply old.holding new.holding

  -- Whether one of the passes halted the search.
  abbrev pub is_any_halted : List (PassOf L) → Bool
  is_any_halted [] = false
  is_any_halted (p ∷ ps) = p.halted || is_any_halted ps

  module _ (a : Algebra L) where
    -- A label of a table: it is one of the table's bound and in range there, and its vertex is one of the graph.
    pub record IsLabel (t : Setting) (l : L) : Type 0 where
      pub vertex : a.vertex l < length t.graph.vertices
      pub of_bound : IsTrue (a.is_of l t.bound)
      pub range : IsTrue (in_range a t l)

    -- What a pass holds is of the table that it is of, and no more was offered than the label's vertex has out-edges.
    pub record IsHolding (t : Setting) (h : Holding L) : Type 0 where
      pub label : IsLabel t h.label
      pub offered : h.offered ≤ out_degree t.graph (a.vertex h.label)

    -- The same of what a pass holds, if anything.
    abbrev pub AreHeld : Setting → Option (Holding L) → Type 0
    AreHeld t o = (h : Holding L) → o ≡ Some h → IsHolding t h

    -- The pass is one of the shared table.
    pub record IsPassOf (s : SharedOf) (p : PassOf L) : Type 0 where
      pub name : p.name ≡ s.name
      pub setting : p.setting ≡ Some s.setting
      pub held : AreHeld s.setting p.holding

    -- The pass at that place, as `start` gives it.
    pub record IsNewPass (s : SharedOf) (place : ℕ) (p : PassOf L) : Type 0 where
      pub of_table : IsPassOf s p
      pub number : p.number ≡ place
      pub count : p.count ≡ 0
      pub holding : p.holding ≡ None
      pub halted : p.halted ≡ false

    -- The conditions of an offer, for what the pass holds: the next out-edge, and the label extended by it.
    pub record CanOffer (t : Setting) (h : Holding L) (edge : ℕ) (label : L) : Type 0 where
      pub next : edge ≡ h.offered
      pub within : edge < out_degree t.graph (a.vertex h.label)
      pub label_is : label ≡ extended a t h.label edge
