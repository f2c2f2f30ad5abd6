use Rattle.std.proofs.Common.{◌-◌, length}
use Rattle.drt_table.specs.Drive.{Drives}
use Rattle.drt_table.proofs.table.Table.drive.Given as goal

-- the driver went on so far
abbrev pub invariant-loop-self : goal.invariant-loop-self
invariant-loop-self g l = Drives g.L.Label.algebra l.worker l.fn.self l.self

-- the room in the log
abbrev pub decreases-loop-self : goal.decreases-loop-self
decreases-loop-self g l = l.self.budget - length l.self.log
