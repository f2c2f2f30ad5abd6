use Rattle.std.proofs.Common.{arith, sym, subst}
use Rattle.drt_wave.specs.declared.table.WaveTable.{WaveTable}
use Rattle.drt_wave.specs.Shifts.{IsShift}
use Rattle.drt_wave.proofs.Dealing.{owner_joined}
use Rattle.drt_wave.proofs.desk.Desk.give_back.Goals as goal

pub invariant_of-self : goal.invariant_of-self
invariant_of-self c =
    let d = c.self.inside in let e = c.join_back-room.ensures in let other = c.args.shift.seat in
    let shift = subst (λ (t : WaveTable). IsShift t c.args.shift.wave other) (sym c.self.view_is) c.requires in
    owner_joined d.table.now d.wave d.parts d.waves c.args.shift.wave d.owner other c.join_back-room.new.seat c.self.invariant shift (omega arith) e.seat e.glued
