use Rattle.std.proofs.Common.{◌≡◌, ℕ, ◌+◌, ◌≤◌, ◌<◌, Some, ap, sym, ◌∙◌, subst, arith, length, set, List}
use Rattle.drt_worklist.specs.Places.{first}
use Rattle.drt_worklist.proofs.Writes.{length_set}
use Rattle.drt_refine.specs.Combination.{is_pending_combination}
use Rattle.drt_refine.specs.States.{CombinationStock, AreSorted}
use Rattle.drt_refine.specs.declared.step.CombinationState.{CombinationState}
use Rattle.drt_refine.specs.declared.step.CombinationState.TheVariants.{Taken}
use Rattle.drt_refine.proofs.Sorted.{next_is, take_room, take_sorted}
use Rattle.drt_refine.proofs.states.States.take.Goals as goal

pub index_mut-requires : goal.index_mut-requires
index_mut-requires c =
    let h : first is_pending_combination c.self.inside.items.items ≡ Some c.args.id = ap (λ (v : CombinationStock). first is_pending_combination v.items) c.self.view_is ∙ c.requires in
    let lt : c.args.id < length c.self.inside.items.items = (next_is c.self.inside.items.items c.self.inside.next c.self.inside.taken.items c.self.inside.failed c.self.invariant.0 c.args.id h).1 in
    omega (arith, c.self.inside.items.ok.0, lt)

pub push_within-requires : goal.push_within-requires
push_within-requires c =
    let h : first is_pending_combination c.self.inside.items.items ≡ Some c.args.id = ap (λ (v : CombinationStock). first is_pending_combination v.items) c.self.view_is ∙ c.requires in
    let room : length c.self.inside.taken.items + 1 ≤ length c.self.inside.items.items = take_room c.self.inside.items.items c.self.inside.next c.self.inside.taken.items
    c.self.inside.failed c.self.invariant.0 c.args.id c.args.worker h in
    omega (arith, c.self.inside.taken.ok.0, c.self.invariant.1, c.self.invariant.4, room)

pub invariant_of-self : goal.invariant_of-self
invariant_of-self c =
    let items : List CombinationState = c.self.inside.items.items in
    let h : first is_pending_combination items ≡ Some c.args.id = ap (λ (v : CombinationStock). first is_pending_combination v.items) c.self.view_is ∙ c.requires in
    let l : length (set items c.args.id (Taken c.args.worker)) ≡ length items = length_set items c.args.id (Taken c.args.worker) in (
      subst (λ (xs : List ℕ). AreSorted (set items c.args.id (Taken c.args.worker)) (c.self.inside.next + 1) xs c.self.inside.failed) (sym c.push_within.ensures.items)
          (take_sorted items c.self.inside.next c.self.inside.taken.items c.self.inside.failed c.self.invariant.0 c.args.id c.args.worker h),
      omega (arith, c.self.invariant.1),
      c.self.invariant.2,
      omega (arith, c.self.invariant.3),
      omega (arith, c.push_within.ensures.capacity, c.self.invariant.4),
    )
