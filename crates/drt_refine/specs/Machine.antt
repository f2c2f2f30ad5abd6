-- The frontier machine: states, steps, replies, runs.
use Rattle.std.specs.Prelude.{◌≡◌, ℕ, ◌+◌, nat_le, Bool, if◌then◌else◌, ◌&&◌, Option, None, Some, is_none, List, [], ◌∷◌, ◌++◌, length, slice_get, slice_set}
use Rattle.drt_steps.specs.Time.{Passes}
use Rattle.drt_tree.specs.Tree.{Plain, children}
use Rattle.drt_worklist.specs.Places.{first, changed}
use Rattle.drt_worklist.specs.Runs.{replay_from as replay_by, IsRunFrom as IsRunBy}
use Rattle.drt_refine.specs.Below.{IsConcrete}
use Rattle.drt_refine.specs.Combination.{Combination, is_combination_pending, is_combination_taken, is_failed, fresh_combination, with_state}
use Rattle.drt_refine.specs.declared.step.CombinationState.TheVariants.{Taken as TakenBy, Passed as PassedAt, Split as SplitAt, Failed as HasFailed}
use Rattle.drt_refine.specs.declared.step.FrontierStep.{FrontierStep}
use Rattle.drt_refine.specs.declared.step.FrontierStep.TheVariants.{Take, Pass, Split, Fail}
use Rattle.drt_refine.specs.declared.step.FrontierReply.{FrontierReply}
use Rattle.drt_refine.specs.declared.step.FrontierReply.TheVariants.{Taken, Busy, Finished, Passed, Halved, Failed, Spent}
use Rattle.drt_refine.specs.declared.step.FrontierEntry.{FrontierEntry}

-- What a frontier never changes: the forest, the roots, the job's wcet and its deadline, both in ticks, and the budget in steps.
pub record FrontierSetting : Type 0 where
  pub forest : Plain
  pub roots : List ℕ
  pub wcet : ℕ
  pub deadline : ℕ
  pub budget : ℕ

-- A state has combinations, and the log of the steps that led to it.
pub record FrontierState : Type 0 where
  pub combinations : List Combination
  pub log : List FrontierEntry

-- What a step gives: the state after it, and a reply.
pub record FrontierOutcome : Type 0 where
  pub state : FrontierState
  pub reply : FrontierReply

-- A step that changes nothing.
abbrev pub unchanged : FrontierState → FrontierReply → FrontierOutcome
unchanged s r = record { state = s; reply = r }

-- A step that is logged.
abbrev pub logged_outcome : FrontierState → FrontierEntry → List Combination → FrontierReply → FrontierOutcome
logged_outcome s e combinations r = record { state = record { combinations = combinations; log = s.log ++ e ∷ [] }; reply = r }

-- The combinations after that of number id was split at a place into two of these nodes, which come at the end.
abbrev pub halves : List Combination → ℕ → ℕ → List ℕ → List ℕ → List Combination
halves combinations id place left right =
    changed id (with_state (SplitAt place (length combinations) (length combinations + 1))) combinations ++ fresh_combination left ∷ fresh_combination right ∷ []

module _ (t : FrontierSetting) where
  -- The opening state has the roots as its one combination.
  abbrev pub opening_state : FrontierState
  opening_state = record { combinations = fresh_combination t.roots ∷ []; log = [] }

  -- The log has as many entries as the budget allows.
  abbrev pub is_full : FrontierState → Bool
  is_full s = nat_le t.budget (length s.log)

  -- The step Take, by the least pending combination and the least taken one, where there are.
  abbrev pub taken : FrontierState → ℕ → Option ℕ → Option ℕ → FrontierOutcome
  taken s w None None = unchanged s Finished
  taken s w None (Some h) = if is_full s then unchanged s Spent else unchanged s (Busy h)
  taken s w (Some k) h =
      if is_full s then unchanged s Spent else
      logged_outcome s (record { worker = w; step = Take }) (changed k (with_state (TakenBy w)) s.combinations) (Taken k)

  -- The children of a node, if it is there and is a pair.
  abbrev pub children_at : Option ℕ → Option (ℕ × ℕ)
  children_at None = None
  children_at (Some n) = children t.forest n

  -- The step Split of a combination of these nodes, by the children of the node at the place. (It is a pair.)
  abbrev pub halved : FrontierState → FrontierEntry → ℕ → ℕ → List ℕ → Option (ℕ × ℕ) → FrontierOutcome
  halved s e id place nodes None = unchanged s Spent
  halved s e id place nodes (Some p) =
      logged_outcome s e (halves s.combinations id place (slice_set nodes place p.0) (slice_set nodes place p.1))
      (Halved (length s.combinations) (length s.combinations + 1))

  -- The step Split of the combination of number id. (There is one.)
  abbrev pub halved_at : FrontierState → FrontierEntry → ℕ → ℕ → Option Combination → FrontierOutcome
  halved_at s e id place None = unchanged s Spent
  halved_at s e id place (Some c) = halved s e id place c.nodes (children_at (slice_get c.nodes place))

  -- The outcome of a worker's step where no combination has failed.
  abbrev pub stepped : FrontierState → ℕ → FrontierStep → FrontierOutcome
  stepped s w Take = taken s w (first is_combination_pending s.combinations) (first is_combination_taken s.combinations)
  stepped s w (Pass id time) = if is_full s then unchanged s Spent else logged_outcome s (record { worker = w; step = Pass id time }) (changed id (with_state (PassedAt time)) s.combinations) Passed
  stepped s w (Split id place) = if is_full s then unchanged s Spent else halved_at s (record { worker = w; step = Split id place }) id place (slice_get s.combinations id)
  stepped s w (Fail id) = if is_full s then unchanged s Spent else logged_outcome s (record { worker = w; step = Fail id }) (changed id (with_state HasFailed) s.combinations) (Failed id)

  -- The outcome of a worker's step, by the least combination that has failed, if there is one.
  abbrev pub step_by : FrontierState → ℕ → FrontierStep → Option ℕ → FrontierOutcome
  step_by s w step None = stepped s w step
  step_by s w step (Some id) = unchanged s (Failed id)

  -- The outcome of a worker's step.
  abbrev pub step_of : FrontierState → ℕ → FrontierStep → FrontierOutcome
  step_of s w step = step_by s w step (first is_failed s.combinations)

  -- A time passes for a combination of these nodes.
  abbrev pub PassesFor : List ℕ → ℕ → Type 0
  PassesFor nodes time = Passes t.wcet t.deadline t.forest.pool nodes time

  -- No time passes for a combination of these nodes.
  abbrev pub NonePasses : List ℕ → Type 0
  NonePasses nodes = (time : ℕ) → PassesFor nodes time → ⊥

  -- The nodes are leaves, and no time passes.
  abbrev pub IsHopeless : List ℕ → Type 0
  IsHopeless nodes = IsConcrete t.forest nodes × NonePasses nodes

  -- The worker holds the combination of that number.
  pub record Holds (s : FrontierState) (w id : ℕ) (c : Combination) : Type 0 where
    pub at : slice_get s.combinations id ≡ Some c
    pub held : c.state ≡ TakenBy w

  -- The node at the place is a pair.
  pub record IsPairAt (nodes : List ℕ) (place : ℕ) : Type 0 where
    pub node : ℕ
    pub left : ℕ
    pub right : ℕ
    pub at : slice_get nodes place ≡ Some node
    pub children : children t.forest node ≡ Some (left, right)

  -- The conditions of a step: a worker takes only where it holds none, and settles a combination that it holds. It passes with a
  -- time that passes, splits at a pair, and fails leaves for which no time passes.
  abbrev pub CanStep : FrontierState → ℕ → FrontierStep → Type 0
  CanStep s w Take = (id : ℕ) (c : Combination) → slice_get s.combinations id ≡ Some c → c.state ≡ TakenBy w → ⊥
  CanStep s w (Pass id time) = (c : Combination) × Holds s w id c × PassesFor c.nodes time
  CanStep s w (Split id place) = (c : Combination) × Holds s w id c × IsPairAt c.nodes place
  CanStep s w (Fail id) = (c : Combination) × Holds s w id c × IsHopeless c.nodes

  -- The state after an entry.
  abbrev pub after : FrontierState → FrontierEntry → FrontierState
  after s e = (step_of s e.worker e.step).state

  -- An entry meets the conditions of its step.
  abbrev pub CanEnter : FrontierState → FrontierEntry → Type 0
  CanEnter s e = CanStep s e.worker e.step

  -- The state after some entries.
  abbrev pub replay_from : FrontierState → List FrontierEntry → FrontierState
  replay_from s es = replay_by after s es

  -- The entries meet the conditions one after another, and each adds itself to the log.
  abbrev pub IsRunFrom : FrontierState → List FrontierEntry → Type 0
  IsRunFrom s es = IsRunBy after CanEnter (λ (s : FrontierState). s.log) s es

  -- The state after a log, from the opening state.
  abbrev pub replay : List FrontierEntry → FrontierState
  replay es = replay_from opening_state es

  -- A run: entries that are applied from the opening state.
  abbrev pub IsRun : List FrontierEntry → Type 0
  IsRun es = IsRunFrom opening_state es

  -- No combination is pending, none is taken and none has failed.
  abbrev pub is_finished : FrontierState → Bool
  is_finished s = is_none (first is_combination_pending s.combinations) && (is_none (first is_combination_taken s.combinations) && is_none (first is_failed s.combinations))
