-- The items that were made alone are the proof of the vertex; else what the frontier says holds.
use Rattle.drt_claims.specs.Ranges.{IsCounted}
use Rattle.drt_sp.specs.Parts.{AreEndOf}
use Rattle.drt_sp.proofs.Attempted.{AreAbove}
use Rattle.drt_sp.proofs.Joining.{items_prove}
use Rattle.drt_sp.proofs.proving.prove_vertex.Goals as goal

pub returns-in-Some : goal.returns-in-Some
returns-in-Some c =
    let f = c.args.vertex.now.forest.now in
    let w = c.args.vertex.now.wcet in
    let d = c.args.vertex.now.deadline in
    let roots = c.args.vertex.now.roots.now in
    let items = c.in-Some.items in
    let above : AreAbove f = λ leaf n t under. c.every_forest.ensures.below f leaf n t c.show_sound.ensures under in
    let whole : AreEndOf f w d roots items × IsCounted items = rw c.in-Some.is at c.in_ok-items.ensures in
    (items_prove f w d above roots items whole.0.items_are, whole.0.in_range, whole.1)
