use Rattle.std.proofs.Common.{◌≡◌, ◌+◌, ◌∷◌, [], ap, sym, ◌∙◌, subst, arith, length, length-append, List}
use Rattle.drt_refine.specs.States.{CombinationStock, AreSorted}
use Rattle.drt_refine.specs.declared.step.CombinationState.{CombinationState}
use Rattle.drt_refine.specs.declared.step.CombinationState.TheVariants.{Pending}
use Rattle.drt_refine.proofs.Sorted.{push_sorted}
use Rattle.drt_refine.proofs.states.States.push.Goals as goal

pub invariant_of-self : goal.invariant_of-self
invariant_of-self c =
    let items : List CombinationState = c.self.inside.items.items in
    let n : length items ≡ length c.args.self.now.items = ap (λ (v : CombinationStock). length v.items) c.self.view_is in
    let r : c.self.inside.room ≡ c.args.self.now.room = ap (λ (v : CombinationStock). v.room) c.self.view_is in
    let l : length c.push_within.new.items.items ≡ length items + 1 = ap length c.push_within.ensures.items ∙ length-append items (Pending ∷ []) in (
      subst (λ (xs : List CombinationState). AreSorted xs c.self.inside.next c.self.inside.taken.items c.self.inside.failed) (sym c.push_within.ensures.items)
          (push_sorted items c.self.inside.next c.self.inside.taken.items c.self.inside.failed c.self.invariant.0),
      omega (arith, c.requires),
      c.self.invariant.2,
      omega (arith, c.push_within.ensures.capacity, c.self.invariant.3),
      c.self.invariant.4,
    )
