-- What a worker's seat is before and after a step.
use Rattle.std.specs.Prelude.{◌≡◌, ◌≢◌, ◌⊎◌, ℕ, ◌+◌, ◌*◌, ◌<◌, ◌≤◌, ◌%◌, ◌/◌, ◌^◌, List, [], length, Vec, vec_capacity}
use Rattle.drt_lock.specs.Rule.{all_parts}
use mathlib.Core.Option.{some}
use lib.ListN.{get_elem?}
use Rattle.drt_model.specs.Digraph.{edge_of}
use Rattle.drt_model.specs.Walk.{wcet, deadline}
use Rattle.drt_wave.specs.declared.plan.Plan.{Plan}
use Rattle.drt_wave.specs.declared.lane.Lane.{Lane}
use Rattle.drt_wave.specs.declared.seat.WaveSeat.{WaveSeat}
use Rattle.drt_wave.specs.declared.table.WaveTable.{WaveTable}
use Rattle.drt_wave.specs.Net.{Net, Among, IsGreatestReaching}
use Rattle.drt_wave.specs.Cells.{net_of, width}
use Rattle.drt_wave.specs.Lane.{LaneSeat, IsLaneSeat, IsClaimSeat}

-- its parts of 1,024
abbrev pub parts_held : WaveSeat → ℕ
parts_held s = s.claims.me.0.parts

-- each wave and number that it drew
abbrev pub draws_of : WaveSeat → List (ℕ × ℕ)
draws_of s = s.claims.me.0.draws

-- it contributed work x to the cell of vertex v at offset o
abbrev pub HasRaised : WaveSeat → ℕ → ℕ → ℕ → Type 0
HasRaised s v o x = (y : LaneSeat) × (get_elem? s.lanes.items v ≡ some y) × Among (o, x) y.me.0.raised

-- it knows the waves up to wave k as final
abbrev pub KnowsTo : ℕ → WaveSeat → Type 0
KnowsTo k s = (v : ℕ) (y : LaneSeat) → get_elem? s.lanes.items v ≡ some y → k ≤ y.me.0.known

-- It is of the table: it has a seat of the claim words and one of each lane, with as many parts.
pub record IsOfTable (t : WaveTable) (s : WaveSeat) : Type 0 where
  pub claims : IsClaimSeat t.claims s.claims
  pub count : length s.lanes.items ≡ length t.lanes
  pub room : length t.lanes ≤ vec_capacity s.lanes
  pub lane : (v : ℕ) (l : Lane) (y : LaneSeat) → get_elem? t.lanes v ≡ some l → get_elem? s.lanes.items v ≡ some y → IsLaneSeat l y × (y.me.0.parts ≡ parts_held s)

-- It has no element, and room for one of each lane.
abbrev pub HasRoomForLanes : {A : Type 0} → WaveTable → Vec LaneSeat A → Type 0
HasRoomForLanes t room = (room.items ≡ []) × (length t.lanes ≤ vec_capacity room)

-- from s to n it contributed nothing
abbrev pub HasNoMore : WaveSeat → WaveSeat → Type 0
HasNoMore s n = (v o x : ℕ) → HasRaised n v o x → HasRaised s v o x

-- It contributed something, or nothing, and did nothing else.
pub record IsSeatKept (s n : WaveSeat) : Type 0 where
  pub parts : parts_held n ≡ parts_held s
  pub draws : draws_of n ≡ draws_of s
  pub known : (k : ℕ) → KnowsTo k s → KnowsTo k n
  pub raised : (v o x : ℕ) → HasRaised s v o x → HasRaised n v o x

-- It went on with its wave.
pub record Turned (s n : WaveSeat) : Type 0 where
  pub parts : parts_held n ≡ parts_held s
  pub draws : (j k : ℕ) → Among (j, k) (draws_of s) → Among (j, k) (draws_of n)
  pub known : (k : ℕ) → KnowsTo k s → KnowsTo k n
  pub raised : (v o x : ℕ) → HasRaised s v o x → HasRaised n v o x

-- One part of it went to another seat.
pub record IsSeatCut (s left right : WaveSeat) : Type 0 where
  pub parts : parts_held left + 1 ≡ parts_held s
  pub draws : draws_of left ≡ draws_of s
  pub known : (k : ℕ) → KnowsTo k s → KnowsTo k left
  pub raised : (v o x : ℕ) → HasRaised s v o x → HasRaised left v o x
  pub same : HasNoMore s left
  pub right_parts : parts_held right ≡ 1
  pub right_draws : draws_of right ≡ []
  pub right_raised : (v o x : ℕ) → HasRaised right v o x → ⊥
  pub right_known : (k : ℕ) → KnowsTo k s → KnowsTo k right

-- It took in another seat.
pub record IsGlued (s other n : WaveSeat) : Type 0 where
  pub parts : parts_held n ≡ parts_held s + parts_held other
  pub draws : (j k : ℕ) → Among (j, k) (draws_of s) → Among (j, k) (draws_of n)
  pub other_draws : (j k : ℕ) → Among (j, k) (draws_of other) → Among (j, k) (draws_of n)
  pub no_more : (j k : ℕ) → Among (j, k) (draws_of n) → Among (j, k) (draws_of other) ⊎ Among (j, k) (draws_of s)
  pub known : (k : ℕ) → KnowsTo k s → KnowsTo k n
  pub other_known : (k : ℕ) → KnowsTo k other → KnowsTo k n
  pub raised : (v o x : ℕ) → HasRaised s v o x → HasRaised n v o x
  pub other_raised : (v o x : ℕ) → HasRaised other v o x → HasRaised n v o x
  pub only : (v o x : ℕ) → HasRaised n v o x → HasRaised other v o x ⊎ HasRaised s v o x

-- Number t of wave j was drawn, which is above those of the wave that the seat drew before, and r told of it. The seat with every part has drawn
-- all numbers below it.
pub record HasClaimed (j r : ℕ) (s n : WaveSeat) : Type 0 where
  pub number : ℕ
  pub told : r ≡ number % 2 ^ 64
  pub drawn : Among (j, number) (draws_of n)
  pub whole : parts_held s ≡ all_parts → (k : ℕ) → k < number → Among (j, k) (draws_of s)
  pub above : (k : ℕ) → Among (j, k) (draws_of s) → k < number
  pub no_more : (i k : ℕ) → Among (i, k) (draws_of n) → ((i ≡ j) × (k ≡ number)) ⊎ Among (i, k) (draws_of s)

module _ (p : Plan) where
  -- The cell has its greatest work, and the seat passed that on along each arc.
  abbrev pub IsExpanded : WaveSeat → ℕ → Type 0
  IsExpanded s c = (x : ℕ) × IsGreatestReaching (net_of p) c x × (x ≢ 0 → (t w : ℕ) → Among (t, w) ((net_of p).arcs c) → HasRaised s (t / width p) (t % width p) (x + w))

  -- Each cell of a block that the seat drew is expanded. A block has 64 cells, the last one of a wave what is left.
  abbrev pub AllExpanded : WaveSeat → Type 0
  AllExpanded s = (j n : ℕ) → n < (net_of p).size j → Among (j, n / 64) (draws_of s) → IsExpanded s ((net_of p).cell j n)

  -- Each cell up to wave j is expanded.
  abbrev pub ExpandedTo : ℕ → WaveSeat → Type 0
  ExpandedTo j s = (c : ℕ) → c < (net_of p).cells → (net_of p).wave c ≤ j → IsExpanded s c

  -- work x of vertex u at offset s was passed on along out-edge k, where its target is in range
  abbrev pub PassedOn : WaveSeat → ℕ → ℕ → ℕ → ℕ → Type 0
  PassedOn n u s x k = s + (edge_of p.graph u k).sep + deadline p.graph (edge_of p.graph u k).to ≤ p.bound
      → HasRaised n (edge_of p.graph u k).to (s + (edge_of p.graph u k).sep) (x + wcet p.graph (edge_of p.graph u k).to)

  -- it was so along the first n out-edges
  abbrev pub Passed : WaveSeat → ℕ → ℕ → ℕ → ℕ → Type 0
  Passed v u s x n = (k : ℕ) → k < n → PassedOn v u s x k

-- the seat drew a number past the end of wave j
abbrev pub IsPast : Net → ℕ → WaveSeat → Type 0
IsPast g j s = (t : ℕ) × Among (j, t) (draws_of s) × (g.size j ≤ t * 64)

-- the seat drew the first b numbers of wave j
abbrev pub HasDrawn : ℕ → ℕ → WaveSeat → Type 0
HasDrawn j b s = (k : ℕ) → k < b → Among (j, k) (draws_of s)

-- the seat drew each block of the waves below wave j
abbrev pub HasDrawnBelow : Net → ℕ → WaveSeat → Type 0
HasDrawnBelow g j s = (i n : ℕ) → i < j → n < g.size i → Among (i, n / 64) (draws_of s)
