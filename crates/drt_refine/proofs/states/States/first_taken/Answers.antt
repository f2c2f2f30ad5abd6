use Rattle.std.proofs.Common.{ap, ◌∙◌}
use Rattle.std.specs.Prelude.{slice_get}
use Rattle.drt_worklist.specs.Places.{first}
use Rattle.drt_worklist.proofs.Places.{first_place}
use Rattle.drt_refine.specs.Combination.{is_taken_combination}
use Rattle.drt_refine.specs.States.{CombinationStock}
use Rattle.drt_refine.proofs.states.States.first_taken.Goals as goal

pub returns : goal.returns
returns c =
    c.copied.ensures ∙ (c.first.ensures.value ∙ (ap (λ xs. slice_get xs 0) c.deref.ensures.value ∙ (ap (λ xs. slice_get xs 0) c.self.invariant.0.taken_are
    ∙ (first_place is_taken_combination c.self.inside.items.items ∙ ap (λ (v : CombinationStock). first is_taken_combination v.items) c.self.view_is))))
