-- The seat has looked at some cells, and done nothing else.
use Rattle.std.proofs.Common.{◌≤◌}
use Rattle.drt_wave.specs.Seats.{IsOfTable, IsSeatKept}
use Rattle.drt_wave.proofs.crew.load_of.Given as goal

abbrev pub invariant-looks : goal.invariant-looks
invariant-looks l = IsOfTable l.table l.seat × IsSeatKept l.fn.seat l.seat × (l.full ≤ l.look)
