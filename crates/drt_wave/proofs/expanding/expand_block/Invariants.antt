-- The place is that of the number, and the cells of the numbers before it are expanded.
use Rattle.std.proofs.Common.{◌≡◌, ℕ, ◌*◌, ◌/◌, ◌%◌, ◌<◌, ◌≤◌}
use Rattle.drt_wave.specs.Cells.{net_of, offsets}
use Rattle.drt_wave.specs.Seats.{IsOfTable, IsSeatKept, IsExpanded}
use Rattle.drt_wave.proofs.expanding.expand_block.Given as goal

abbrev pub invariant-cells : goal.invariant-cells
invariant-cells l = IsOfTable l.table l.seat × IsSeatKept l.fn.seat l.seat
    × (l.vertex ≡ l._number / offsets l.table.plan l.wave) × (l.at ≡ l._number % offsets l.table.plan l.wave)
    × ((n : ℕ) → l.block * 64 ≤ n → n < l._number → IsExpanded l.table.plan l.seat ((net_of l.table.plan).cell l.wave n))
