-- What a seat is between two steps.
use Rattle.std.specs.Prelude.{◌≡◌, ℕ, [], ◌∷◌, Some}
use Rattle.atomic_table.specs.Table.{Me}
use Rattle.atomic_table.specs.Seated.{TableId}
use Rattle.drt_lock.specs.declared.view.SeatView.{SeatView}
use Rattle.drt_lock.specs.declared.view.Grip.TheVariants.{Away, Working}

-- A lock is its name, and the fixed values of its machine.
pub record LockOf (F : Type 0) : Type 0 where
  pub name : TableId
  pub fixed : F

module _ {F : Type 0} where
  -- The seat knows the fixed values, has so many parts, and counted so many steps.
  abbrev pub Knows : F → ℕ → ℕ → SeatView F → Type 0
  Knows key parts count v = (v.fixed ≡ Some key) × (v.parts ≡ parts) × (v.count ≡ count)

  -- The seat has the lock, and the machine is out with it.
  abbrev pub IsAtWork : SeatView F → Type 0
  IsAtWork v = v.grip ≡ Working

module _ {S F : Type 0} where
  -- The seat has neither the lock nor the machine.
  abbrev pub Rests : F → ℕ → ℕ → Me S (SeatView F) → Type 0
  Rests key parts count m = Knows key parts count m.0 × (m.0.grip ≡ Away) × (m.1 ≡ [])

  -- The seat has the machine y.
  abbrev pub HoldsMachine : S → Me S (SeatView F) → Type 0
  HoldsMachine y m = m.1 ≡ (0, y) ∷ []
