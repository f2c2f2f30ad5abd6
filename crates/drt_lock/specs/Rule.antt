-- The rule of the lock. Word 0 is 1 while a seat has the lock, and else 0. Word 1 is the length of the machine's log. Slot 0
-- has the machine while no seat works on it.
use Rattle.std.specs.Prelude.{◌≡◌, ◌≢◌, ℕ, ◌+◌, ◌-◌, ◌≤◌, ◌∷◌, length, slice_index, Some, None}
use mathlib.Core.Option.{some}
use lib.ListN.{get_elem?}
use Rattle.atomic_table.specs.Table.{State, Me, Step, rest}
use Rattle.drt_worklist.specs.Places.{total}
use Rattle.drt_lock.specs.declared.view.SeatView.{SeatView}
use Rattle.drt_lock.specs.declared.view.Grip.{Grip}
use Rattle.drt_lock.specs.declared.view.Grip.TheVariants.{Away, Locked, Working}

-- The parts of all seats together.
abbrev pub all_parts : ℕ
all_parts = 1024

-- 1 where the seat has the lock.
abbrev pub locking : Grip → ℕ
locking Away = 0
locking Locked = 1
locking Working = 1

-- 1 where the machine is out with the seat.
abbrev pub working : Grip → ℕ
working Away = 0
working Locked = 0
working Working = 1

-- A seat that works on the machine knows how many steps are logged.
abbrev pub Fits : ℕ → ℕ → Grip → Type 0
Fits logged read Away = Unit {0}
Fits logged read Locked = Unit {0}
Fits logged read Working = read ≡ logged

module _ {F : Type 0} where
  -- 1 where the seat has the lock.
  abbrev pub locks : SeatView F → ℕ
  locks v = locking v.grip

  -- 1 where the machine is out with the seat.
  abbrev pub works : SeatView F → ℕ
  works v = working v.grip

  -- The seat's hold of the lock and the machine becomes this one.
  abbrev pub with_grip : SeatView F → Grip → SeatView F
  with_grip v g = record { fixed = v.fixed; grip = g; read = v.read; count = v.count; parts = v.parts }

  -- A seat with so many parts that has done nothing yet.
  abbrev pub fresh : F → ℕ → SeatView F
  fresh f parts = record { fixed = Some f; grip = Away; read = 0; count = 0; parts = parts }

  -- A seat that was joined to another one.
  abbrev pub spent : SeatView F
  spent = record { fixed = None; grip = Away; read = 0; count = 0; parts = 0 }

  -- A seat that gave one part away, and the seat that got it.
  abbrev pub split_left : SeatView F → SeatView F
  split_left v = record { fixed = v.fixed; grip = v.grip; read = v.read; count = v.count; parts = v.parts - 1 }

  abbrev pub split_right : SeatView F → SeatView F
  split_right v = record { fixed = v.fixed; grip = Away; read = 0; count = 0; parts = 1 }

  -- A seat that took in the count and the parts of another one.
  abbrev pub joined : SeatView F → SeatView F → SeatView F
  joined v w = record { fixed = v.fixed; grip = v.grip; read = v.read; count = v.count + w.count; parts = v.parts + w.parts }

  -- The seat has the machine out, and read the length of its log.
  abbrev pub working_at : SeatView F → ℕ → SeatView F
  working_at v logged = record { fixed = v.fixed; grip = Working; read = logged; count = v.count; parts = v.parts }

  -- The seat has logged one more step.
  abbrev pub one_more : SeatView F → SeatView F
  one_more v = record { fixed = v.fixed; grip = v.grip; read = v.read + 1; count = v.count + 1; parts = v.parts }

  -- What is kept of each view, where so many steps are logged.
  pub record IsKnown (key : F) (logged : ℕ) (v : SeatView F) : Type 0 where
    -- a seat with no part has no lock, and counts nothing
    pub part : locks v ≤ v.parts
    pub idle : v.parts ≡ 0 → v.count ≡ 0
    -- the fixed values are those of the start
    pub same : (f : F) → v.fixed ≡ Some f → f ≡ key
    pub fits : Fits logged v.read v.grip

  -- The rule: at most one seat has the lock; the parts add up to 1,024, and the counts to the length of the log; a machine at
  -- home has the fixed values and a log of that length.
  pub record IsLocked {S : Type 0} (fixed : S → F) (entries : S → ℕ) (key : F) (s : State S (SeatView F)) : Type 0 where
    pub wide : length s.words ≡ 2
    pub single : slice_index s.words 0 ≤ 1
    pub held : total locks s.views ≡ slice_index s.words 0
    pub parts : total (λ v. v.parts) s.views ≡ all_parts
    pub counts : total (λ v. v.count) s.views ≡ slice_index s.words 1
    pub each : (i : ℕ) (v : SeatView F) → get_elem? s.views i ≡ some v → IsKnown key (slice_index s.words 1) v
    pub home : total works s.views ≡ 0 → (y : S) × (get_elem? s.homes 0 ≡ some (some y)) × (fixed y ≡ key) × (entries y ≡ slice_index s.words 1)

-- What a step tells: of the step, the seat before, the number found and the seat after.
abbrev pub Said : Type 0 → Type 0 → Type 1
Said S F = Step S → Me S (SeatView F) → ℕ → Me S (SeatView F) → Type 0

module _ {S F : Type 0} where
  -- The seat has the lock where it was free, and else nothing changed.
  abbrev pub grabbed : Said S F
  grabbed st m r n = (r ≡ 0 → n ≡ (with_grip m.0 Locked, m.1)) × (r ≢ 0 → n ≡ m)

  -- The seat has the machine, with the fixed values that it knows and a log of the length that it read.
  abbrev pub took : (S → F) → (S → ℕ) → Said S F
  took fixed entries st m r n = (y : S) × (n ≡ (working_at m.0 r, (0, y) ∷ m.1)) × ((f : F) → m.0.fixed ≡ Some f → fixed y ≡ f) × (entries y ≡ r) × (m.0.count ≤ r)

  -- The seat has logged one more step.
  abbrev pub counted : Said S F
  counted st m r n = n ≡ (one_more m.0, m.1)

  -- The seat has put the machine back and freed the lock.
  abbrev pub left : Said S F
  left st m r n = n ≡ (with_grip m.0 Away, rest m.1)
