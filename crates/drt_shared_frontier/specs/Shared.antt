-- Which passes and which seat are those of a lock.
use Rattle.std.specs.Prelude.{◌≡◌, ℕ, ◌+◌, ◌≤◌, None, Some, List, length}
use Rattle.drt_lock.specs.Rule.{all_parts}
use Rattle.drt_effort.specs.Efforts.{most_budget}
use Rattle.drt_model.specs.Numbers.{most_time}
use Rattle.atomic_table.specs.Seated.{TableId}
use Rattle.atomic_table.specs.declared.shared.Seat.{Seat}
use Rattle.drt_lock.specs.declared.view.SeatView.{SeatView}
use Rattle.drt_lock.specs.Seats.{Rests}
use Rattle.drt_pool.specs.Turns.{EachPlace}
use Rattle.drt_refine.specs.Machine.{FrontierSetting}
use Rattle.drt_frontier_board.specs.FrontierBoard.{BoardOf}
use Rattle.drt_shared_frontier.specs.Passes.{FrontierPassOf}

-- The pass at that place, as it is given out.
pub record IsFresh (name : TableId) (setting : FrontierSetting) (roots : List ℕ) (place : ℕ) (p : FrontierPassOf) : Type 0 where
  pub name_is : p.name ≡ name
  pub setting_is : p.setting ≡ Some setting
  pub number : p.number ≡ place
  pub count : p.count ≡ 0
  pub held : p.held ≡ None
  pub nodes : p.nodes ≡ roots

-- Each pass is of the lock of that name.
abbrev pub AreOf : TableId → FrontierSetting → List FrontierPassOf → Type 0
AreOf name setting ps = EachPlace (λ place p. (p.name ≡ name) × (p.setting ≡ Some setting)) ps

-- The seat has the parts that so many passes don't have.
abbrev pub IsFrontierOwner : TableId → FrontierSetting → ℕ → Seat BoardOf (SeatView FrontierSetting) → Type 0
IsFrontierOwner name setting n s = (s.table_id ≡ name) × (s.me.0.parts + n ≡ all_parts) × (n ≤ 16) × Rests setting s.me.0.parts 0 s.me

-- What a frontier was started with: few roots, this wcet and deadline, and a budget that is no greater than any may be.
pub record IsStarted (t : FrontierSetting) (wcet deadline : ℕ) : Type 0 where
  pub few : length t.roots ≤ 31
  pub wcet_is : t.wcet ≡ wcet
  pub deadline_is : t.deadline ≡ deadline
  pub wcet_least : wcet ≤ most_time
  pub budget : t.budget ≤ most_budget
