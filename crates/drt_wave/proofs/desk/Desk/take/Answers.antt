use Rattle.std.proofs.Common.{◌-◌, subst, arith}
use Rattle.drt_wave.specs.declared.table.WaveTable.{WaveTable}
use Rattle.drt_wave.specs.Shifts.{IsShift}
use Rattle.drt_wave.proofs.Dealing.{owner_left, shift_right}
use Rattle.drt_wave.proofs.desk.Desk.take.Goals as goal

pub invariant_of-self : goal.invariant_of-self
invariant_of-self c =
    let d = c.self.inside in let e = c.split_into-seat.ensures in
    owner_left d.table.now d.wave d.parts d.waves (d.parts - 1) d.owner c.split_into-seat.new.seat c.split_into-seat.result c.self.invariant (omega arith) (omega arith) e.seat e.cut

pub returns-clause-shift : goal.returns-clause-shift
returns-clause-shift c =
    let d = c.self.inside in let e = c.split_into-seat.ensures in
    let shift = shift_right d.table.now d.wave d.parts d.waves d.owner c.split_into-seat.new.seat c.split_into-seat.result c.self.invariant (omega arith) e.new e.cut in
    subst (λ (t : WaveTable). IsShift t d.wave c.split_into-seat.result) c.self.view_is shift
