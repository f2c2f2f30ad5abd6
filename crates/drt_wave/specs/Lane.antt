-- What lanes, claim words and their seats are to a plan.
use Rattle.std.specs.Prelude.{◌≡◌, ℕ, ◌+◌, ◌<◌, List, [], length, slice_index, Some}
use Rattle.atomic_table.specs.declared.shared.Seat.{Seat}
use Rattle.drt_wave.specs.declared.plan.Plan.{Plan}
use Rattle.drt_wave.specs.declared.view.ClaimView.{ClaimView}
use Rattle.drt_wave.specs.declared.view.LaneKey.{LaneKey}
use Rattle.drt_wave.specs.declared.view.LaneView.{LaneView}
use Rattle.drt_wave.specs.declared.lane.Lane.{Lane}
use Rattle.drt_wave.specs.declared.claims.Claims.{Claims}
use Rattle.drt_wave.specs.Net.{IsGreatestReaching}
use Rattle.drt_wave.specs.Cells.{width}
use Rattle.drt_wave.specs.Keys.{lane_net, lane_first}

-- what works a lane
abbrev pub LaneSeat : Type 0
LaneSeat = Seat (Unit {0}) (LaneView LaneKey)

-- what draws numbers
abbrev pub ClaimSeat : Type 0
ClaimSeat = Seat (Unit {0}) ClaimView

-- The lane is that of vertex v.
pub record IsLane (p : Plan) (v : ℕ) (l : Lane) : Type 0 where
  pub plan : l.table.shared.key.plan.value ≡ p
  pub vertex : l.table.shared.key.vertex ≡ v
  pub words : l.table.shared.table_id.words ≡ width p

-- The seat is of the lane.
pub record IsLaneSeat (l : Lane) (y : LaneSeat) : Type 0 where
  pub id : y.table_id ≡ l.table.shared.table_id
  pub fixed : y.me.0.fixed ≡ Some l.table.shared.key
  pub slots : y.me.1 ≡ []

-- The seat is of the claim words.
pub record IsClaimSeat (c : Claims) (y : ClaimSeat) : Type 0 where
  pub id : y.table_id ≡ c.table.shared.table_id
  pub slots : y.me.1 ≡ []

-- Each word of a lane is the greatest work of its cell.
abbrev pub AreFinal : LaneKey → List ℕ → Type 0
AreFinal key ws = (o : ℕ) → o < length ws → IsGreatestReaching (lane_net key) (lane_first key + o) (slice_index ws o)
