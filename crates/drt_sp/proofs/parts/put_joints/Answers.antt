use Rattle.std.proofs.Common.{Some}
use Rattle.std.proofs.lemmas.List.Elements.{All-pop}
use Rattle.drt_sp.specs.Joints.{IsJointOf}
use Rattle.drt_sp.proofs.parts.put_joints.Goals as goal

pub put_joint-requires-clause-joint : goal.put_joint-requires-clause-joint
put_joint-requires-clause-joint c =
    let Is = IsJointOf c.args.posed.now.forest.now c.args.posed.now.roots.now c.args.posed.now.graph.now in
    (All-pop Is c.loop-joint.joints.items c.pop.new.self.items (Some c.in-Some.joint) c.in-Some.ensures.items c.loop-joint.invariant.joints).1

pub loop-joint-preserved : goal.loop-joint-preserved
loop-joint-preserved c =
    let Is = IsJointOf c.args.posed.now.forest.now c.args.posed.now.roots.now c.args.posed.now.graph.now in
    record {
      joints = (All-pop Is c.loop-joint.joints.items c.pop.new.self.items (Some c.in-Some.joint) c.in-Some.ensures.items c.loop-joint.invariant.joints).0;
      given = c.in_ok-put_joint.ensures;
    }
