-- The parts of the attempts are put together.
use Rattle.std.proofs.Common.{List, All, rules, sym, subst}
use Rattle.std.proofs.lemmas.List.Elements.{All-weaker}
use Rattle.drt_sp.specs.Attempts.{CanBeEnded, IsAttempt}
use Rattle.drt_sp.specs.declared.attempts.Attempt.{Attempt}
use Rattle.drt_sp.specs.Joints.{AreJoints}
use Rattle.drt_sp.specs.declared.joints.Joint.{Joint}
use Rattle.drt_sp.proofs.Attempted.{can_be_ended}
use Rattle.drt_sp.proofs.Joined.{joints_kept, written_whole}
use Rattle.drt_sp.proofs.parts.prove_by_parts.Goals as goal

pub end_attempts-requires-after_bounds : goal.end_attempts-requires-after_bounds
end_attempts-requires-after_bounds g c κs within =
    let f = c.args.posed.now.forest.now in
    let Is : Attempt → Type 0 = IsAttempt f c.args.posed.now.roots.now c.args.posed.now.graph.now in
    let can : (a : Attempt) → Is a → CanBeEnded f a = λ a is. can_be_ended f c.args.posed.now.roots.now c.args.posed.now.graph.now a is c.over_every_interleaving.ensures.facts in
    subst (λ (l : List Attempt). All (CanBeEnded f) l) (sym c.as_slice.ensures.value) (All-weaker Is (CanBeEnded f) can c.in_ok-attempts.attempts.spent.items c.in_ok-attempts.ensures.spent)

pub put_joints-requires-clause-joints : goal.put_joints-requires-clause-joints
put_joints-requires-clause-joints g c =
    let f = c.args.posed.now.forest.now in
    let roots = c.args.posed.now.roots.now in
    let graph = c.args.posed.now.graph.now in
    let old : List Joint = c.in_ok-joints.joints.items in
    let new : List Joint = c.join_all.new.joints in
    let lent : List Joint = c.as_mut_slice.result.now in
    let before : AreJoints f roots graph lent = subst (AreJoints f roots graph) (sym c.as_mut_slice.ensures.value) c.in_ok-joints.ensures in
    subst (AreJoints f roots graph) (sym (written_whole new old c.in_ok-joints.joints.len (search rules) (search rules)))
    (joints_kept f roots graph lent new c.join_all.ensures.attempts before c.join_all.ensures.joints)
