-- What a seat is between drawing blocks in a row and expanding their cells.
use Rattle.std.specs.Prelude.{◌≡◌, ◌⊎◌, ℕ, ◌/◌, ◌<◌, List, slice_index}
use Rattle.drt_wave.specs.declared.plan.Plan.{Plan}
use Rattle.drt_wave.specs.declared.seat.WaveSeat.{WaveSeat}
use Rattle.drt_wave.specs.Net.{Among}
use Rattle.drt_wave.specs.Cells.{net_of}
use Rattle.drt_wave.specs.Seats.{draws_of, IsExpanded}

-- the number is one of the first n of a row
abbrev pub IsInRow : List ℕ → ℕ → ℕ → Type 0
IsInRow row n b = (k : ℕ) × (k < n) × (b ≡ slice_index row k)

-- Each cell of a block that the seat drew is expanded, but for those of the first n blocks of a row of wave j.
abbrev pub ExpandedBut : Plan → ℕ → List ℕ → ℕ → WaveSeat → Type 0
ExpandedBut p j row n s = (i c : ℕ) → c < (net_of p).size i → Among (i, c / 64) (draws_of s) → IsExpanded p s ((net_of p).cell i c) ⊎ ((i ≡ j) × IsInRow row n (c / 64))
