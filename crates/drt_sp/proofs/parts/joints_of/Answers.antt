use Rattle.std.proofs.Common.{sym, subst}
use Rattle.std.proofs.lemmas.List.Elements.{All-push}
use Rattle.drt_sp.specs.Joints.{AreJoints, IsJointOf}
use Rattle.drt_sp.proofs.Attempted.{last_of}
use Rattle.drt_sp.proofs.Joined.{joint_of}
use Rattle.drt_sp.proofs.parts.joints_of.Goals as goal

pub loop-attempt-preserved : goal.loop-attempt-preserved
loop-attempt-preserved c =
    let f = c.args.posed.now.forest.now in
    let roots = c.args.posed.now.roots.now in
    let graph = c.args.posed.now.graph.now in
    let inv = c.loop-attempt.invariant in
    let joint = c.of.result in
    let last = last_of f roots graph c.loop-attempt.spent.items c.pop.new.self.items c.loop-attempt.tables.items c.pop-in-Some.new.self.items c.in-Some.attempt c.in-Some-pop.parts
    c.in-Some.ensures.items c.in-Some-pop.ensures.items inv.each inv.tables in
    let is : IsJointOf f roots graph joint
    = joint_of f roots graph c.in-Some.attempt c.in-Some-pop.parts joint last.attempt last.parts c.of.ensures.attempt c.of.ensures.parts c.of.ensures.items in
    record {
      each = last.each;
      tables = last.have;
      joints = subst (AreJoints f roots graph) (sym c.in_ok-push.ensures.items) (All-push (IsJointOf f roots graph) c.loop-attempt.joints.items joint inv.joints is);
    }
