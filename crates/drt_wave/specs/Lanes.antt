-- The rule of a lane. Its words are the cells of one vertex, by offset.
use Rattle.std.specs.Prelude.{◌≡◌, ◌≢◌, ℕ, ◌+◌, ◌-◌, ◌<◌, ◌≤◌, max, ◌==◌, if◌then◌else◌, List, [], ◌∷◌, ◌++◌, length, slice_index, Some, None}
use Rattle.drt_lock.specs.Rule.{all_parts}
use mathlib.Core.Option.{some}
use lib.ListN.{get_elem?}
use Rattle.atomic_table.specs.Table.{State, Me, Step}
use Rattle.drt_wave.specs.declared.view.LaneView.{LaneView}
use Rattle.drt_wave.specs.Net.{Net, IsNet, Among, Reached, IsGreatestReaching}
use Rattle.drt_wave.specs.Sums.{total_by, greatest_by}

-- the greatest contribution at offset o
abbrev pub most : ℕ → List (ℕ × ℕ) → ℕ
most o raised = greatest_by (λ r. if r.0 == o then r.1 else 0) raised

module _ {F : Type 0} where
  -- a seat that has so many parts and did nothing
  abbrev pub fresh_lane : F → ℕ → LaneView F
  fresh_lane f parts = record { fixed = Some f; parts = parts; raised = []; known = 0 }

  -- a seat that was joined to another one
  abbrev pub spent_lane : LaneView F
  spent_lane = record { fixed = None; parts = 0; raised = []; known = 0 }

  -- what is left of a seat of which one part is split off
  abbrev pub lane_left : LaneView F → LaneView F
  lane_left v = record { fixed = v.fixed; parts = v.parts - 1; raised = v.raised; known = v.known }

  -- the part that is split off, which knows the same waves
  abbrev pub lane_right : LaneView F → LaneView F
  lane_right v = record { fixed = v.fixed; parts = 1; raised = []; known = v.known }

  -- a seat that took in another one
  abbrev pub lane_joined : LaneView F → LaneView F → LaneView F
  lane_joined v w = record { fixed = v.fixed; parts = v.parts + w.parts; raised = w.raised ++ v.raised; known = max v.known w.known }

  -- a seat that contributed work x at offset o
  abbrev pub lane_raised : LaneView F → ℕ → ℕ → LaneView F
  lane_raised v o x = record { fixed = v.fixed; parts = v.parts; raised = (o, x) ∷ v.raised; known = v.known }

  -- a seat that knows the waves up to wave k as final
  abbrev pub lane_knowing : LaneView F → ℕ → LaneView F
  lane_knowing v k = record { fixed = v.fixed; parts = v.parts; raised = v.raised; known = k }

  -- from v to w the seat got to know some waves as final, or none, and did nothing else
  abbrev pub Learns : LaneView F → LaneView F → Type 0
  Learns v w = (k : ℕ) × (w ≡ lane_knowing v k) × (v.known ≤ k)

-- A lane has so many cells of a net, from its first one on.
module _ {F : Type 0} (net : F → Net) (first count : F → ℕ) where
  -- Each cell up to wave j has its greatest work, and the seat passed that on along each arc into the lane.
  abbrev pub Settled : F → LaneView F → ℕ → Type 0
  Settled key v j = (b : ℕ) → b < (net key).cells → (net key).wave b ≤ j
      → (x : ℕ) × IsGreatestReaching (net key) b x × (x ≢ 0 → (o w : ℕ) → o < count key → Among (first key + o, w) ((net key).arcs b) → Among (o, x + w) v.raised)

  -- What a seat did and knows is true of the words.
  pub record Knows (key : F) (ws : List ℕ) (v : LaneView F) : Type 0 where
    -- a seat that was not joined to another one has a part
    pub some : (f : F) → v.fixed ≡ Some f → 0 < v.parts
    -- a seat with no part has contributed nothing
    pub idle : v.parts ≡ 0 → v.raised ≡ []
    pub same : (f : F) → v.fixed ≡ Some f → f ≡ key
    pub reached : (o x : ℕ) → Among (o, x) v.raised → Reached (net key) (first key + o) x
    pub final : (o : ℕ) → o < count key → (net key).wave (first key + o) ≤ v.known → IsGreatestReaching (net key) (first key + o) (slice_index ws o)

  -- The rule: the seats have 1,024 parts together, each word is the greatest of what its cell opened with and what all seats contributed to it,
  -- and what each seat knows is true.
  pub record InLane {S : Type 0} (key : F) (s : State S (LaneView F)) : Type 0 where
    pub lawful : IsNet (net key)
    pub wide : length s.words ≡ count key
    pub within : first key + count key ≤ (net key).cells
    pub parts : total_by (λ v. v.parts) s.views ≡ all_parts
    pub cell : (o : ℕ) → o < count key → slice_index s.words o ≡ max ((net key).opens (first key + o)) (greatest_by (λ v. most o v.raised) s.views)
    pub each : (i : ℕ) (v : LaneView F) → get_elem? s.views i ≡ some v → Knows key s.words v

-- what a step tells: of the step, the seat before, the number found and the seat after
abbrev pub LaneSaid : Type 0 → Type 0 → Type 1
LaneSaid S F = Step S → Me S (LaneView F) → ℕ → Me S (LaneView F) → Type 0

module _ {F : Type 0} (net : F → Net) (first : F → ℕ) where
  -- Number r, which was read at offset o, is no less than what the cell opened with and what the seat contributed to it, where it isn't 0 the work
  -- of a chain, and where the cell's wave is known the greatest one.
  pub record IsRead (key : F) (v : LaneView F) (o r : ℕ) : Type 0 where
    pub opened : (net key).opens (first key + o) ≤ r
    pub own : (x : ℕ) → Among (o, x) v.raised → x ≤ r
    pub reached : r ≢ 0 → Reached (net key) (first key + o) r
    pub best : (net key).wave (first key + o) ≤ v.known → IsGreatestReaching (net key) (first key + o) r

module _ {S F : Type 0} (net : F → Net) (first count : F → ℕ) where
  -- A cell was read, and nothing else done. A seat that passed on all that the cells up to that cell's wave have for the lane knows the next wave as
  -- final too.
  abbrev pub glanced : LaneSaid S F
  glanced st m r n = (k : ℕ) × (n ≡ (lane_knowing m.0 k, m.1)) × (m.0.known ≤ k)
      × ((f : F) → m.0.fixed ≡ Some f → IsRead net first f m.0 st.word r
      × (Settled net first count f m.0 ((net f).wave (first f + st.word)) → (net f).wave (first f + st.word) + 1 ≤ k))

-- A work was contributed to a cell.
abbrev pub raises : {S F : Type 0} → LaneSaid S F
raises st m r n = n ≡ (lane_raised m.0 st.word st.first, m.1)
