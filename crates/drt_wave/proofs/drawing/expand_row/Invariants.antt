-- The cells of the blocks so far are expanded.
use Rattle.std.proofs.Common.{◌≡◌, ℕ, ◌/◌, ◌<◌, slice_index}
use Rattle.drt_wave.specs.Cells.{net_of}
use Rattle.drt_wave.specs.Seats.{IsOfTable, IsSeatKept, IsExpanded}
use Rattle.drt_wave.proofs.drawing.expand_row.Given as goal

abbrev pub invariant-drawn : goal.invariant-drawn
invariant-drawn l = IsOfTable l.table l.seat × IsSeatKept l.fn.seat l.seat
    × ((i n : ℕ) → i < l.k → n < (net_of l.table.plan).size l.wave → n / 64 ≡ slice_index l.row i → IsExpanded l.table.plan l.seat ((net_of l.table.plan).cell l.wave n))
