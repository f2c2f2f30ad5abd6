-- The value is passed on along the edges so far.
use Rattle.drt_wave.specs.Seats.{IsOfTable, IsSeatKept, Passed}
use Rattle.drt_wave.proofs.expanding.pass_on.Given as goal

abbrev pub invariant-edges : goal.invariant-edges
invariant-edges l = IsOfTable l.table l.seat × IsSeatKept l.fn.seat l.seat × Passed l.table.plan l.seat l.vertex l.offset l.value l.k
