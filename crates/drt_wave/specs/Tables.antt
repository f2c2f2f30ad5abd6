-- What the parts of a table are to its plan.
use Rattle.std.specs.Prelude.{◌≡◌, ℕ, ◌+◌, ◌<◌, List, length, slice_index}
use Rattle.drt_lock.specs.Rule.{all_parts}
use mathlib.Core.Option.{some}
use lib.ListN.{get_elem?}
use Rattle.drt_model.specs.Digraph.{vertex_count}
use Rattle.drt_wave.specs.declared.plan.Plan.{Plan}
use Rattle.drt_wave.specs.declared.lane.Lane.{Lane}
use Rattle.drt_wave.specs.Cells.{width}
use Rattle.drt_wave.specs.Lane.{LaneSeat, IsLane, IsLaneSeat}
use Rattle.drt_wave.specs.Lanes.{fresh_lane}

-- They are the lanes of the plan, by vertex.
pub record AreLanes (p : Plan) (lanes : List Lane) : Type 0 where
  pub count : length lanes ≡ vertex_count p.graph
  pub each : (v : ℕ) (l : Lane) → get_elem? lanes v ≡ some l → IsLane p v l

-- They are lanes of the plan from vertex `first` on, and the seats have all their parts.
pub record AreOpened (p : Plan) (first : ℕ) (lanes : List Lane) (seats : List LaneSeat) : Type 0 where
  pub count : length seats ≡ length lanes
  pub lane : (i : ℕ) (l : Lane) → get_elem? lanes i ≡ some l → IsLane p (first + i) l
  pub seat : (i : ℕ) (l : Lane) (y : LaneSeat) → get_elem? lanes i ≡ some l → get_elem? seats i ≡ some y → IsLaneSeat l y × (y.me.0 ≡ fresh_lane l.table.shared.key all_parts)

-- A list of words that lanes open from: as many as there are offsets, and zeros from the second one on.
pub record IsBlank (p : Plan) (words : List ℕ) : Type 0 where
  pub count : length words ≡ width p
  pub zeros : (k : ℕ) → 0 < k → slice_index words k ≡ 0
