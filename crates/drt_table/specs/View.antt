-- What contracts see of a table.
use Rattle.std.specs.Prelude.{◌≡◌, ℕ, ◌≤◌, Bool, true, IsTrue, Option, Some, None, List, [], ◌∷◌, ◌++◌, map, slice_get, ◌&&◌, ◌==◌}
use Rattle.drt_effort.specs.Efforts.{most_budget}
use Rattle.drt_label.specs.Algebra.{Algebra}
use Rattle.drt_model.specs.Digraph.{Digraph, IsSoundGraph}
use Rattle.drt_table.specs.Node.{NodeOf, Held, is_kept}
use Rattle.drt_table.specs.Machine.{Setting, State, Outcome, IsRun, replay, CanStep, step_of, extended}
use Rattle.drt_table.specs.declared.step.TableStep.{TableStep}
use Rattle.drt_table.specs.declared.step.TableStep.TheVariants.{Take, Offer, Close}
use Rattle.drt_table.specs.declared.step.TableReply.{TableReply}
use Rattle.drt_table.specs.declared.step.TableReply.TheVariants.{Taken, Busy, Finished, Added, Dominated, OutOfRange, Closed, Spent}
use Rattle.drt_table.specs.declared.step.Entry.{Entry}

-- A table is its graph, its bound, its budget, its nodes with their spares, and its log.
pub record View (L : Type 0) : Type 0 where
  pub graph : Digraph
  pub bound : ℕ
  pub budget : ℕ
  pub nodes : List (Held L)
  pub log : List Entry

module _ {L : Type 0} (v : View L) where
  -- What the table never changes.
  abbrev pub setting_of : Setting
  setting_of = record { graph = v.graph; bound = v.bound; budget = v.budget }

  -- The state of the machine: it has no spares.
  abbrev pub state_of : State L
  state_of = record { nodes = map (λ h. h.node) v.nodes; log = v.log }

-- What the type keeps: the log is a run, and the state is that after it.
pub record IsTable {L : Type 0} (a : Algebra L) (v : View L) : Type 0 where
  pub sound : IsSoundGraph v.graph
  pub bound : IsTrue (a.takes_bound v.bound)
  pub budget : v.budget ≤ most_budget
  pub run : IsRun a (setting_of v) v.log
  pub state : state_of v ≡ replay a (setting_of v) v.log

-- Which nodes have their spares.
abbrev pub spares_of : {L : Type 0} → View L → List Bool
spares_of v = map (λ h. h.spare) v.nodes

-- A new node has its spare, and no other spare changes.
abbrev pub spares_after : TableReply → List Bool → List Bool
spares_after (Added k) spares = spares ++ true ∷ []
spares_after (Taken k) spares = spares
spares_after (Busy k) spares = spares
spares_after Finished spares = spares
spares_after (Dominated k) spares = spares
spares_after OutOfRange spares = spares
spares_after Closed spares = spares
spares_after Spent spares = spares

module _ {L : Type 0} (a : Algebra L) (v : View L) where
  -- The conditions of a step.
  abbrev pub CanApply : ℕ → TableStep → Type 0
  CanApply w step = CanStep a (setting_of v) (state_of v) w step

  -- The label that comes with a step: with an offer the label of the node extended by the edge, and else none.
  abbrev pub ComesWith : TableStep → Option L → Type 0
  ComesWith Take o = o ≡ None
  ComesWith (Offer id k) o = (n : NodeOf L) × (slice_get (state_of v).nodes id ≡ Some n) × (o ≡ Some (extended a (setting_of v) n.label k))
  ComesWith (Close id) o = o ≡ None

  -- The outcome of a worker's step.
  abbrev pub outcome : ℕ → TableStep → Outcome L
  outcome w step = step_of a (setting_of v) (state_of v) w step

-- One step of the machine, from old to new, with its reply.
pub record IsTableStep {L : Type 0} (a : Algebra L) (old new : View L) (w : ℕ) (step : TableStep) (reply : TableReply) : Type 0 where
  pub setting : setting_of new ≡ setting_of old
  pub state : state_of new ≡ (outcome a old w step).state
  pub reply_is : reply ≡ (outcome a old w step).reply
  pub spares : spares_of new ≡ spares_after reply (spares_of old)

-- The node is kept, and its label is of the vertex.
abbrev pub kept_at : {L : Type 0} → Algebra L → ℕ → NodeOf L → Bool
kept_at a v n = is_kept n && (a.vertex n.label == v)
