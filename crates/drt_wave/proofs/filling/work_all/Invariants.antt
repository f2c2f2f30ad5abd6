-- The waves so far are drawn to their ends and known as final, and all that was drawn is expanded.
use Rattle.std.proofs.Common.{◌≡◌}
use Rattle.drt_wave.specs.Cells.{net_of}
use Rattle.drt_wave.specs.Seats.{parts_held, KnowsTo, IsOfTable, AllExpanded, HasDrawnBelow}
use Rattle.drt_wave.proofs.filling.work_all.Given as goal

abbrev pub invariant-waves : goal.invariant-waves
invariant-waves l = IsOfTable l.table l.seat × (parts_held l.seat ≡ 1024) × AllExpanded l.table.plan l.seat × KnowsTo l.wave l.seat × HasDrawnBelow (net_of l.table.plan) l.wave l.seat
