-- A table behind the lock, and one call on it.
use Rattle.std.specs.Prelude.{◌≡◌, ℕ, ◌+◌, ◌<◌, ◌≤◌, IsTrue, Option, None, Some, slice_get, length}
use Rattle.drt_effort.specs.Efforts.{most_budget}
use Rattle.drt_label.specs.Algebra.{Algebra}
use Rattle.drt_model.specs.Digraph.{out_degree}
use Rattle.drt_table.specs.Machine.{Setting}
use Rattle.drt_table.specs.Node.{Held, is_node_pending, is_taken}
use Rattle.drt_table.specs.View.{View, setting_of}
use Rattle.drt_table.specs.declared.step.TableStep.{TableStep}
use Rattle.drt_table.specs.declared.step.TableReply.{TableReply}
use Rattle.drt_table.specs.declared.step.TableReply.TheVariants.{Taken, Busy, Finished, Added, Dominated, OutOfRange, Closed, Spent}
use Rattle.drt_shared.specs.Finds.{DiffersIfStrange}
use Rattle.drt_shared.specs.Passes.{HoldsNew, AreHeld, CanOffer}
use Rattle.drt_shared.specs.Replies.{ForReply, IsOfTake, IsOfOffer, IsOfClose, IsReplyOf, logged, logged_by}
use Rattle.drt_shared.specs.declared.pass.Holding.{Holding}
use Rattle.drt_shared.specs.declared.reply.Move.{Move}
use Rattle.drt_shared.specs.declared.reply.Move.TheVariants.{Take, Offer, Close}
use Rattle.drt_shared.specs.declared.reply.SharedReply.{SharedReply}
use Rattle.drt_shared.specs.declared.reply.SharedReply.TheVariants.{Step, Halted, Strange}

module _ {L : Type 0} where
  -- Each pending node has its spare.
  abbrev pub HasSpares : View L → Type 0
  HasSpares v = (k : ℕ) (h : Held L) → slice_get v.nodes k ≡ Some h → IsTrue (is_node_pending h.node) → IsTrue h.spare

  -- The label of the node can be handed out.
  abbrev pub CanHandOut : View L → ℕ → Type 0
  CanHandOut v k = (h : Held L) × (slice_get v.nodes k ≡ Some h) × IsTrue h.spare × IsTrue (is_taken h.node)

  -- The same of the node that was taken.
  abbrev pub HandsOut : View L → TableReply → Type 0
  HandsOut v (Taken k) = CanHandOut v k
  HandsOut v (Busy k) = Unit {0}
  HandsOut v Finished = Unit {0}
  HandsOut v (Added k) = Unit {0}
  HandsOut v (Dominated k) = Unit {0}
  HandsOut v OutOfRange = Unit {0}
  HandsOut v Closed = Unit {0}
  HandsOut v Spent = Unit {0}

  -- With a node that was taken comes what the pass then holds.
  abbrev pub ComesTaken : TableReply → Option (Holding L) → Type 0
  ComesTaken (Taken k) o = HoldsNew k o
  ComesTaken (Busy k) o = Unit {0}
  ComesTaken Finished o = Unit {0}
  ComesTaken (Added k) o = Unit {0}
  ComesTaken (Dominated k) o = Unit {0}
  ComesTaken OutOfRange o = Unit {0}
  ComesTaken Closed o = Unit {0}
  ComesTaken Spent o = Unit {0}

  -- The replies to a move.
  abbrev pub IsReplyTo : Move L → TableReply → Type 0
  IsReplyTo Take r = IsOfTake r
  IsReplyTo (Offer k l) r = IsOfOffer r
  IsReplyTo Close r = IsOfClose r

  -- The conditions of a move, by what the pass holds.
  abbrev pub CanMove : Algebra L → Setting → Option (Holding L) → Move L → Type 0
  CanMove a t o Take = o ≡ None
  CanMove a t o (Offer k l) = (h : Holding L) × (o ≡ Some h) × CanOffer a t h k l
  CanMove a t o Close = (h : Holding L) × (o ≡ Some h) × (h.offered ≡ out_degree t.graph (a.vertex h.label))

-- The node that the pass holds has an out-edge that wasn't offered.
abbrev pub HasMore : {L : Type 0} → Algebra L → Setting → Option (Holding L) → Type 0
HasMore a t o = (h : Holding _) → o ≡ Some h → (h.offered < 1000) × (h.offered < out_degree t.graph (a.vertex h.label))

-- After an offer the pass can count it.
abbrev pub CanCount : {L : Type 0} → Algebra L → Setting → TableReply → Option (Holding L) → Type 0
CanCount a t (Taken k) o = Unit {0}
CanCount a t (Busy k) o = Unit {0}
CanCount a t Finished o = Unit {0}
CanCount a t (Added k) o = HasMore a t o
CanCount a t (Dominated k) o = HasMore a t o
CanCount a t OutOfRange o = HasMore a t o
CanCount a t Closed o = Unit {0}
CanCount a t Spent o = Unit {0}

-- One step of the machine, from old to new, as to its log, its reply, and the label that can then be handed out.
pub record IsLogged {L : Type 0} (old new : View L) (step : TableStep) (reply : TableReply) : Type 0 where
  pub setting : setting_of new ≡ setting_of old
  pub log : length new.log ≡ length old.log + logged_by reply
  pub few : length new.log ≤ most_budget
  pub kind : IsReplyOf step reply
  pub hands : HandsOut new reply

-- One call on the table, from old to new, of a worker that holds o and wants m, with its answer and what it then holds if it
-- took a node.
pub record IsCall {L : Type 0} (a : Algebra L) (old new : View L) (o : Option (Holding L)) (m : Move L) (reply : SharedReply) (taken : Option (Holding L)) : Type 0 where
  pub setting : setting_of new ≡ setting_of old
  pub log : length new.log ≡ length old.log + logged reply
  pub few : length new.log ≤ most_budget
  pub kind : ForReply (IsReplyTo m) reply
  pub differs : DiffersIfStrange o reply
  pub comes : ForReply (λ r. ComesTaken r taken) reply
  pub held : AreHeld a (setting_of old) taken
  pub next : ForReply (λ r. CanCount a (setting_of old) r o) reply

-- Where the search is halted, or what was found differs, the table is as it was.
abbrev pub StaysUnlessStepped : {L : Type 0} → SharedReply → View L → View L → Type 0
StaysUnlessStepped (Step r) old new = Unit {0}
StaysUnlessStepped Halted old new = new ≡ old
StaysUnlessStepped (Strange f) old new = new ≡ old
