use Rattle.std.proofs.Common.{◌-◌, length}
use Rattle.drt_refine.specs.View.{IsFrontier}
use Rattle.drt_refine.specs.Drive.{DrivesFrontier}
use Rattle.drt_refine.proofs.frontier.Frontier.drive.Given as goal

abbrev pub invariant-loop-reply : goal.invariant-loop-reply
invariant-loop-reply l = IsFrontier l.forest l.self × DrivesFrontier l.forest l.worker l.initial.self l.self

abbrev pub decreases-loop-reply : goal.decreases-loop-reply
decreases-loop-reply l = l.self.budget - length l.self.log
