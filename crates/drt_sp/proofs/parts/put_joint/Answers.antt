use Rattle.std.proofs.Common.{List}
use Rattle.std.specs.Prelude.{IfSome}
use Rattle.std.proofs.lemmas.Result.{IfOk-at_ok}
use Rattle.drt_claims.specs.Ranges.{IsCounted}
use Rattle.drt_claims.specs.declared.evidence.Item.{Item}
use Rattle.drt_sp.specs.Attempts.{AreGiven}
use Rattle.drt_sp.specs.declared.proving.VertexProof.TheVariants.{Passes as PassesBy}
use Rattle.drt_sp.specs.Parts.{AreEndOf}
use Rattle.drt_sp.proofs.Attempted.{AreAbove, given_with, parts_pass}
use Rattle.drt_sp.proofs.parts.put_joint.Goals.{in-Some, in_default}
use Rattle.drt_sp.proofs.parts.put_joint.Goals as goal

pub returns : goal.returns
returns c =
    let f = c.args.posed.now.forest.now in
    let roots = c.args.posed.now.roots.now in
    let graph = c.args.posed.now.graph.now in
    let a = c.args.joint.attempt in
    let v = a.frontier in
    let is = c.requires.joint in
    let above : AreAbove f = λ leaf n t under. c.every_forest.ensures.below f leaf n t is.attempt.spent.frontier.forest under in
    let AreWhole : List Item → Type 0 = λ items. AreEndOf f v.wcet v.deadline v.roots items × IsCounted items in
    let made : IfSome c.in_ok-items.field-0 AreWhole = IfOk-at_ok (λ some. IfSome some AreWhole) c.in_ok-items.was is.joint.items in
    elim c.match-branch-2.branch as (λ _. AreGiven f roots graph c.match-branch-2.proofs.items) [
      | in-Some w ↦ (
          let items = w.in-Some.items in
          let whole = rw w.in-Some.is at made in
          let passes = parts_pass f roots graph a is.attempt items above whole.0 whole.1 in
          rw w.proofs-is (given_with f roots graph a.vertex (PassesBy items) c.args.proofs.now.items w.put_proof.new.proofs.items c.requires.given w.put_proof.ensures passes))
      | in_default w ↦ rw w.proofs-is c.requires.given
    ]
