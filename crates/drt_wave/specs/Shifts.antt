-- What a seat is between the turns of a wave, and what of a table is worked.
use Rattle.std.specs.Prelude.{◌≡◌, ℕ, ◌*◌, ◌<◌, ◌≤◌}
use Rattle.drt_lock.specs.Rule.{all_parts}
use Rattle.drt_wave.specs.declared.seat.WaveSeat.{WaveSeat}
use Rattle.drt_wave.specs.declared.table.WaveTable.{WaveTable}
use Rattle.drt_wave.specs.Cells.{net_of}
use Rattle.drt_wave.specs.Seats.{parts_held, KnowsTo, IsOfTable, AllExpanded, HasDrawn, HasDrawnBelow}

-- The seat has so many parts, and works wave j: it knows the earlier waves as final, and has expanded all that it drew.
pub record IsAtWork (t : WaveTable) (j count : ℕ) (s : WaveSeat) : Type 0 where
  pub of : IsOfTable t s
  pub parts : parts_held s ≡ count
  pub known : KnowsTo j s
  pub all : AllExpanded t.plan s

-- The seat drew wave j to its end.
pub record HasWorked (t : WaveTable) (j : ℕ) (s : WaveSeat) : Type 0 where
  pub blocks : ℕ
  pub drawn : HasDrawn j blocks s
  pub ended : (net_of t.plan).size j ≤ blocks * 64

-- The wave is one of the table's, and the seat is a worker's in it.
abbrev pub IsShift : WaveTable → ℕ → WaveSeat → Type 0
IsShift t j s = (j < (net_of t.plan).waves) × IsAtWork t j 1 s

-- The seat has so many parts. All waves below wave j are worked, and wave j is open, or none where they are all worked.
pub record IsWaveOwner (t : WaveTable) (j count waves : ℕ) (s : WaveSeat) : Type 0 where
  pub work : IsAtWork t j count s
  pub some : 0 < count
  pub few : count ≤ all_parts
  pub waves_are : waves ≡ (net_of t.plan).waves
  pub within : j ≤ waves
  pub drawn : HasDrawnBelow (net_of t.plan) j s
