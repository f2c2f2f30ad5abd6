use Rattle.drt_wave.proofs.Dealing.{owner_kept}
use Rattle.drt_wave.proofs.desk.Desk.is_shared.Goals as goal

pub invariant_of-self : goal.invariant_of-self
invariant_of-self c =
    let d = c.self.inside in let e = c.shares.ensures in
    owner_kept d.table.now d.wave d.parts d.waves d.owner c.shares.new.seat c.self.invariant e.seat e.kept
