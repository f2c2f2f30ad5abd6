-- What the key of a lane says.
use Rattle.std.specs.Prelude.{ℕ, ◌*◌}
use Rattle.drt_wave.specs.declared.view.LaneKey.{LaneKey}
use Rattle.drt_wave.specs.Net.{Net}
use Rattle.drt_wave.specs.Cells.{net_of, width}

-- the net that the lane is of
abbrev pub lane_net : LaneKey → Net
lane_net key = net_of key.plan.value

-- how many cells it has
abbrev pub lane_count : LaneKey → ℕ
lane_count key = width key.plan.value

-- its first cell
abbrev pub lane_first : LaneKey → ℕ
lane_first key = key.vertex * width key.plan.value
