-- What is left, and the joints of the others.
use Rattle.std.proofs.Common.{All, length}
use Rattle.drt_sp.specs.Attempts.{HaveParts, IsAttempt}
use Rattle.drt_sp.specs.Joints.{AreJoints}
use Rattle.drt_sp.proofs.parts.joints_of.Given as goal

abbrev pub invariant-loop-attempt : goal.invariant-loop-attempt
invariant-loop-attempt l = record {
  each : All (IsAttempt l.posed.forest.now l.posed.roots.now l.posed.graph.now) l.spent.items;
  tables : HaveParts l.posed.forest.now l.spent.items l.tables.items;
  joints : AreJoints l.posed.forest.now l.posed.roots.now l.posed.graph.now l.joints.items;
}

abbrev pub decreases-loop-attempt : goal.decreases-loop-attempt
decreases-loop-attempt l = length l.spent.items
