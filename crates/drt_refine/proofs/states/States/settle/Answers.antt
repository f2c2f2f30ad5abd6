use Rattle.std.proofs.Common.{◌≡◌, ℕ, Some, None, ap, sym, ◌∙◌, subst, arith, length, set, List}
use Rattle.std.specs.Prelude.{slice_get}
use Rattle.drt_worklist.specs.Places.{first}
use Rattle.drt_worklist.proofs.Writes.{length_set}
use Rattle.drt_refine.specs.Combination.{is_failed_state}
use Rattle.drt_refine.specs.States.{CombinationStock, AreSorted}
use Rattle.drt_refine.specs.declared.step.CombinationState.{CombinationState}
use Rattle.drt_refine.proofs.Sorted.{settle_unfailed, settle_failed}
use Rattle.drt_refine.proofs.states.States.settle.Goals as goal

pub invariant_of-self : goal.invariant_of-self
invariant_of-self c =
    let items : List CombinationState = c.self.inside.items.items in
    let at : slice_get items c.args.id ≡ Some c.requires.taken.0 = ap (λ (v : CombinationStock). slice_get v.items c.args.id) c.self.view_is ∙ c.requires.taken.1 in
    let none : first is_failed_state items ≡ None = ap (λ (v : CombinationStock). first is_failed_state v.items) c.self.view_is ∙ c.requires.none in
    let l : length (set items c.args.id c.args.state) ≡ length items = length_set items c.args.id c.args.state in (
      subst (λ (xs : List ℕ). AreSorted (set items c.args.id c.args.state) c.self.inside.next xs (Some c.args.id)) (sym c.forget.ensures.items)
          (settle_failed items c.self.inside.next c.self.inside.taken.items c.self.inside.failed c.self.invariant.0 c.args.id c.requires.taken.0 c.args.state at
          c.requires.taken.2 c.requires.settled.0 c.requires.settled.1 (sym c.has_failed.ensures ∙ c.if-has_failed.true) none),
      omega (arith, c.self.invariant.1),
      c.self.invariant.2,
      omega (arith, c.self.invariant.3),
      omega (arith, c.forget.ensures.capacity, c.self.invariant.4),
    )

pub invariant_of-self-else-has_failed : goal.invariant_of-self-else-has_failed
invariant_of-self-else-has_failed c =
    let items : List CombinationState = c.self.inside.items.items in
    let at : slice_get items c.args.id ≡ Some c.requires.taken.0 = ap (λ (v : CombinationStock). slice_get v.items c.args.id) c.self.view_is ∙ c.requires.taken.1 in
    let l : length (set items c.args.id c.args.state) ≡ length items = length_set items c.args.id c.args.state in (
      subst (λ (xs : List ℕ). AreSorted (set items c.args.id c.args.state) c.self.inside.next xs c.self.inside.failed) (sym c.forget.ensures.items)
          (settle_unfailed items c.self.inside.next c.self.inside.taken.items c.self.inside.failed c.self.invariant.0 c.args.id c.requires.taken.0 c.args.state at
          c.requires.taken.2 c.requires.settled.0 c.requires.settled.1 (sym c.has_failed.ensures ∙ c.if-has_failed.false)),
      omega (arith, c.self.invariant.1),
      c.self.invariant.2,
      omega (arith, c.self.invariant.3),
      omega (arith, c.forget.ensures.capacity, c.self.invariant.4),
    )
