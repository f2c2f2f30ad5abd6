-- So many blocks are drawn, and stand in the row.
use Rattle.std.proofs.Common.{ℕ, ◌*◌, ◌<◌, slice_index}
use Rattle.drt_wave.specs.Cells.{net_of}
use Rattle.drt_wave.specs.Seats.{IsOfTable, Turned}
use Rattle.drt_wave.specs.Rows.{ExpandedBut}
use Rattle.drt_wave.proofs.drawing.draw_row.Given as goal

abbrev pub invariant-draws : goal.invariant-draws
invariant-draws l = IsOfTable l.table l.seat × Turned l.fn.seat l.seat × ExpandedBut l.table.plan l.wave l.row l.k l.seat
    × ((i : ℕ) → i < l.k → slice_index l.row i * 64 < (net_of l.table.plan).size l.wave)
