-- The items so far end the stack, whose numbers are those of combinations that were not read yet.
use Rattle.std.proofs.Common.{◌≡◌, ℕ, ◌+◌, ◌≤◌, ◌<◌, List, [], ◌∷◌, ◌++◌, length, sym, ap, ◌∙◌, subst, arith, All, Some}
use Rattle.std.specs.Prelude.{slice_get, IsTrue}
use Rattle.std.proofs.lemmas.Option.{slice_get_within}
use Rattle.drt_claims.specs.Ranges.{IsInRangeItem}
use Rattle.drt_claims.specs.declared.evidence.Item.{Item}
use Rattle.drt_refine.specs.Combination.{Combination}
use Rattle.drt_refine.specs.Machine.{FrontierState, is_finished}
use Rattle.drt_refine.specs.Settled.{AreSettled}
use Rattle.drt_refine.specs.View.{setting_of}
use Rattle.drt_sp.specs.Items.{AreItems}
use Rattle.drt_sp.proofs.Joining.{empty_of}
use Rattle.drt_sp.proofs.ItemLists.{IsReading, reading_start, reading_end, reading_more, top}
use Rattle.drt_sp.proofs.Visits.{visit_few}
use Rattle.drt_worklist.proofs.Lists.{get_within, length_join}
use Rattle.drt_sp.proofs.proving.items_of.Goals as goal

pub loop-id-init : goal.loop-id-init
loop-id-init c =
    let t = setting_of c.args.forest.now c.args.frontier.now in
    let cs = c.args.frontier.now.combinations in
    let law = c.eager_settles.ensures.settled t c.args.frontier.now.log c.requires.frontier.run c.requires.eager in
    let settled : AreSettled t cs = subst (λ (s : FrontierState). AreSettled t s.combinations) (sym c.requires.frontier.state) law in
    let some : 1 ≤ length cs = slice_get_within cs 0 settled.opening.combination settled.opening.at in
    let stack : c.push.new.self.items ≡ 0 ∷ [] = c.in_ok-push.ensures.items ∙ ap (λ (l : List ℕ). l ++ 0 ∷ []) c.new-stack.ensures.items in
    subst (λ (l : List Item). IsReading t.forest t.wcet t.deadline t.roots cs l c.push.new.self.items) (sym c.in_ok-items.ensures.items)
    (subst (λ (l : List ℕ). IsReading t.forest t.wcet t.deadline t.roots cs [] l) (sym stack) (reading_start t cs settled some))

pub take_item-requires-clause-within : goal.take_item-requires-clause-within
take_item-requires-clause-within c =
    top c.args.frontier.now.combinations c.loop-id.stack.items c.pop.new.self.items c.in-Some.id (length c.loop-id.items.items) c.in-Some.ensures.items c.loop-id.invariant.visit

pub take_item-requires-clause-done : goal.take_item-requires-clause-done
take_item-requires-clause-done c x at =
    let t = setting_of c.args.forest.now c.args.frontier.now in
    c.eager_settles.ensures.finished t c.args.frontier.now.log (subst (λ (s : FrontierState). IsTrue (is_finished t s)) c.requires.frontier.state c.requires.finished) c.in-Some.id x
    (subst (λ (s : FrontierState). slice_get s.combinations c.in-Some.id ≡ Some x) c.requires.frontier.state at)

pub loop-id-smaller : goal.loop-id-smaller
loop-id-smaller c =
    let few : length c.loop-id.items.items + length c.loop-id.stack.items ≤ length c.args.frontier.now.combinations
    = visit_few c.args.frontier.now.combinations c.loop-id.stack.items (length c.loop-id.items.items) c.loop-id.invariant.visit in
    let stack : length c.loop-id.stack.items ≡ length c.pop.new.self.items + 1 = ap length c.in-Some.ensures.items ∙ length_join c.pop.new.self.items (c.in-Some.id ∷ []) in
    let more : length c.push-in-Some.new.self.items ≡ length c.loop-id.items.items + 1 = ap length c.in_ok-push-2.ensures.items ∙ length_join c.loop-id.items.items (c.in_ok-item.item ∷ []) in
    omega arith

pub loop-id-preserved : goal.loop-id-preserved
loop-id-preserved c =
    let t = setting_of c.args.forest.now c.args.frontier.now in
    let cs = c.args.frontier.now.combinations in
    let law = c.eager_settles.ensures.settled t c.args.frontier.now.log c.requires.frontier.run c.requires.eager in
    let settled : AreSettled t cs = subst (λ (s : FrontierState). AreSettled t s.combinations) (sym c.requires.frontier.state) law in
    let lt : c.in-Some.id < length cs = top cs c.loop-id.stack.items c.pop.new.self.items c.in-Some.id (length c.loop-id.items.items) c.in-Some.ensures.items c.loop-id.invariant.visit in
    let x : (x : Combination) × (slice_get cs c.in-Some.id ≡ Some x) = get_within cs c.in-Some.id lt in
    let before : IsReading t.forest t.wcet t.deadline t.roots cs c.loop-id.items.items (c.pop.new.self.items ++ c.in-Some.id ∷ [])
    = subst (λ (l : List ℕ). IsReading t.forest t.wcet t.deadline t.roots cs c.loop-id.items.items l) c.in-Some.ensures.items c.loop-id.invariant in
    subst (λ (l : List Item). IsReading t.forest t.wcet t.deadline t.roots cs l c.take_item.new.stack.items) (sym c.in_ok-push-2.ensures.items)
    (reading_more t cs settled c.loop-id.items.items c.pop.new.self.items c.in-Some.id x.0 x.1 c.in_ok-item.item c.take_item.new.stack.items c.requires.deadline (c.in_ok-item.ensures x.0 x.1) before)

pub returns-clause-are : goal.returns-clause-are
returns-clause-are c =
    let t = setting_of c.args.forest.now c.args.frontier.now in
    let cs = c.args.frontier.now.combinations in
    let none : length c.loop-id.stack.items ≡ 0 = omega (arith, c.in_default.ensures.cases.0) in
    let empty : c.loop-id.stack.items ≡ [] = empty_of c.loop-id.stack.items none in
    subst (λ (l : List Item). AreItems t.forest t.wcet t.deadline l (t.roots ∷ [])) (sym c.from_vec.ensures)
    (reading_end t cs c.loop-id.items.items (subst (λ (l : List ℕ). IsReading t.forest t.wcet t.deadline t.roots cs c.loop-id.items.items l) empty c.loop-id.invariant))

pub returns-clause-in_range : goal.returns-clause-in_range
returns-clause-in_range c =
    let few : length c.loop-id.items.items + length c.loop-id.stack.items ≤ length c.args.frontier.now.combinations
    = visit_few c.args.frontier.now.combinations c.loop-id.stack.items (length c.loop-id.items.items) c.loop-id.invariant.visit in
    let n : length c.from_vec.result ≡ length c.loop-id.items.items = ap length c.from_vec.ensures in
    (subst (λ (l : List Item). All IsInRangeItem l) (sym c.from_vec.ensures) c.loop-id.invariant.read.in_range, omega (arith, c.count.ensures))
