use Rattle.std.proofs.Common.{arith}
use Rattle.drt_wave.proofs.Dealing.{owner_next}
use Rattle.drt_wave.proofs.desk.Desk.work_open.Goals as goal

pub invariant_of-self : goal.invariant_of-self
invariant_of-self c =
    let d = c.self.inside in let e = c.work_wave.ensures in
    owner_next d.table.now d.wave d.parts d.waves d.owner c.work_wave.new.seat c.self.invariant (omega arith) (omega arith) e.seat e.whole e.all e.drawn e.known
