use Rattle.std.proofs.Common.{◌≡◌, ap, ◌∙◌, arith, length}
use Rattle.drt_worklist.specs.Places.{first}
use Rattle.drt_refine.specs.Combination.{is_pending_combination}
use Rattle.drt_refine.specs.States.{CombinationStock}
use Rattle.drt_refine.proofs.Sorted.{pending_first, pending_none}
use Rattle.drt_refine.proofs.states.States.first_pending.Goals as goal

pub returns-then-self-count : goal.returns-then-self-count
returns-then-self-count c =
    let e : length c.self.inside.items.items ≡ length c.args.self.now.items = ap (λ (v : CombinationStock). length v.items) c.self.view_is in
    pending_first c.self.inside.items.items c.self.inside.next c.self.inside.taken.items c.self.inside.failed c.self.invariant.0 (omega (arith, c.count.ensures.value, c.if-self-count.true))
    ∙ ap (λ (v : CombinationStock). first is_pending_combination v.items) c.self.view_is

pub returns-else-self-count : goal.returns-else-self-count
returns-else-self-count c =
    let e : length c.self.inside.items.items ≡ length c.args.self.now.items = ap (λ (v : CombinationStock). length v.items) c.self.view_is in
    pending_none c.self.inside.items.items c.self.inside.next c.self.inside.taken.items c.self.inside.failed c.self.invariant.0 (omega (arith, c.count.ensures.value, c.if-self-count.false))
    ∙ ap (λ (v : CombinationStock). first is_pending_combination v.items) c.self.view_is
