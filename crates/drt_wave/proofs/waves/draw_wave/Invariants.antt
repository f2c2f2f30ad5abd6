-- So many blocks are drawn, and all that was drawn is expanded.
use Rattle.drt_wave.specs.Seats.{IsOfTable, AllExpanded, HasDrawn, Turned}
use Rattle.drt_wave.proofs.waves.draw_wave.Given as goal

abbrev pub invariant-turns : goal.invariant-turns
invariant-turns l = IsOfTable l.table l.seat × Turned l.fn.seat l.seat × AllExpanded l.table.plan l.seat × HasDrawn l.wave l._block l.seat
