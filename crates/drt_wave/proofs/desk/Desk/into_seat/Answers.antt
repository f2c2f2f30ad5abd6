use Rattle.std.proofs.Common.{◌∙◌, arith, subst}
use Rattle.drt_wave.specs.declared.table.WaveTable.{WaveTable}
use Rattle.drt_wave.specs.Cells.{net_of}
use Rattle.drt_wave.specs.Seats.{KnowsTo, IsOfTable}
use Rattle.drt_wave.proofs.Dealing.{owner_done}
use Rattle.drt_wave.proofs.desk.Desk.into_seat.Goals as goal

pub returns-clause-seat : goal.returns-clause-seat
returns-clause-seat c =
    let d = c.desk-2.inside in subst (λ (t : WaveTable). IsOfTable t d.owner) (c.desk-2.view_is ∙ c.waves.invariant) c.desk-2.invariant.work.of

pub returns-clause-known : goal.returns-clause-known
returns-clause-known c =
    let d = c.desk-2.inside in
    let known = owner_done d.table.now d.wave d.parts d.waves d.owner c.desk-2.invariant (omega (arith, c.if-desk.false)) in
    subst (λ (t : WaveTable). KnowsTo (net_of t.plan).waves d.owner) (c.desk-2.view_is ∙ c.waves.invariant) known
