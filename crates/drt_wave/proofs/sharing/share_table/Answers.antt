use Rattle.std.proofs.Common.{subst}
use Rattle.std.specs.Prelude.{IfSome}
use Rattle.drt_wave.specs.declared.table.WaveTable.{WaveTable}
use Rattle.drt_wave.specs.Cells.{net_of}
use Rattle.drt_wave.specs.Seats.{KnowsTo, IsOfTable}
use Rattle.drt_wave.proofs.sharing.share_table.Goals as goal

pub returns-clause-seat : goal.returns-clause-seat
returns-clause-seat g c = subst (λ (t : WaveTable). IfSome c.into_seat.result (λ seat. IsOfTable t seat)) c.in_ok-desk.ensures c.into_seat.ensures.seat

pub returns-clause-known : goal.returns-clause-known
returns-clause-known g c =
    subst (λ (t : WaveTable). IfSome c.into_seat.result (λ seat. KnowsTo (net_of t.plan).waves seat)) c.in_ok-desk.ensures c.into_seat.ensures.known
