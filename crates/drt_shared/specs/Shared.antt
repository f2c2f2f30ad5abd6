-- Which passes and which seat are those of a lock.
use Rattle.std.specs.Prelude.{◌≡◌, ℕ, ◌+◌, ◌≤◌, None, Some, false, List}
use Rattle.drt_lock.specs.Rule.{all_parts}
use Rattle.atomic_table.specs.Seated.{TableId}
use Rattle.atomic_table.specs.declared.shared.Seat.{Seat}
use Rattle.drt_lock.specs.declared.view.SeatView.{SeatView}
use Rattle.drt_lock.specs.Seats.{Rests}
use Rattle.drt_pool.specs.Turns.{EachPlace}
use Rattle.drt_table.specs.Machine.{Setting}
use Rattle.drt_table.specs.View.{View}
use Rattle.drt_shared.specs.Passes.{PassOf}

module _ {L : Type 0} where
  -- The pass at that place, as it is given out.
  pub record IsFresh (name : TableId) (setting : Setting) (place : ℕ) (p : PassOf L) : Type 0 where
    pub name_is : p.name ≡ name
    pub setting_is : p.setting ≡ Some setting
    pub number : p.number ≡ place
    pub count : p.count ≡ 0
    pub holding : p.holding ≡ None
    pub halted : p.halted ≡ false

  -- Each pass is of the lock of that name.
  abbrev pub AreOf : TableId → Setting → List (PassOf L) → Type 0
  AreOf name setting ps = EachPlace (λ place p. (p.name ≡ name) × (p.setting ≡ Some setting)) ps

  -- The seat has the parts that so many passes don't have.
  abbrev pub IsOwner : TableId → Setting → ℕ → Seat (View L) (SeatView Setting) → Type 0
  IsOwner name setting n s = (s.table_id ≡ name) × (s.me.0.parts + n ≡ all_parts) × (n ≤ 16) × Rests setting s.me.0.parts 0 s.me
