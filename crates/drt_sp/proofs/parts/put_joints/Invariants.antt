-- What is left to put to its vertices.
use Rattle.std.proofs.Common.{length}
use Rattle.drt_sp.specs.Attempts.{AreGiven}
use Rattle.drt_sp.specs.Joints.{AreJoints}
use Rattle.drt_sp.proofs.parts.put_joints.Given as goal

abbrev pub invariant-loop-joint : goal.invariant-loop-joint
invariant-loop-joint l = record {
  joints : AreJoints l.posed.forest.now l.posed.roots.now l.posed.graph.now l.joints.items;
  given : AreGiven l.posed.forest.now l.posed.roots.now l.posed.graph.now l.proofs.items;
}

abbrev pub decreases-loop-joint : goal.decreases-loop-joint
decreases-loop-joint l = length l.joints.items
