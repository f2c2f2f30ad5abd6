-- The items so far, and whatever ends the stack, end the nodes.
use Rattle.std.proofs.Common.{◌≡◌, List, [], ◌∷◌, ◌++◌, ℕ, length, sym, subst, arith}
use Rattle.std.proofs.lemmas.List.Elements.{All-pop}
use Rattle.drt_claims.specs.declared.evidence.Item.{Item}
use Rattle.drt_sp.specs.Parts.{AreEndOf, CanEnd, IsNextItem}
use Rattle.drt_sp.proofs.Joining.{IsEnding, empty_of, ending_end, ending_more}
use Rattle.drt_sp.proofs.parts.end_combination.Goals as goal

pub returns-in_default : goal.returns-in_default
returns-in_default c =
    let f = c.args.forest.now in
    let w = c.args.wcet in
    let d = c.args.deadline in
    let nodes = c.args.nodes.now in
    let none : length c.loop.stack.items ≡ 0 = omega (arith, c.in_default.ensures.cases.0) in
    let empty : c.loop.stack.items ≡ [] = empty_of c.loop.stack.items none in
    subst (λ (l : List Item). AreEndOf f w d nodes l) (sym c.from_vec-in_default.ensures)
    (ending_end f w d nodes c.loop.items.items (subst (λ (s : List (List ℕ)). IsEnding f w d nodes c.loop.items.items s) empty c.loop.invariant))

pub take_next-requires-clause-can : goal.take_next-requires-clause-can
take_next-requires-clause-can c =
    let f = c.args.forest.now in
    let w = c.args.wcet in
    let d = c.args.deadline in
    let two = All-pop (CanEnd f w d) c.loop.stack.items c.pop.new.self.items c.pop.result c.pop.ensures.items c.loop.invariant.can in
    rw c.in-Some.is at two.1

pub loop-preserved : goal.loop-preserved
loop-preserved c =
    let f = c.args.forest.now in
    let w = c.args.wcet in
    let d = c.args.deadline in
    let nodes = c.args.nodes.now in
    let stack : c.loop.stack.items ≡ c.pop.new.self.items ++ c.in-Some.top ∷ [] = c.in-Some.ensures.items in
    let before : IsEnding f w d nodes c.loop.items.items (c.pop.new.self.items ++ c.in-Some.top ∷ []) = subst
    (λ (s : List (List ℕ)). IsEnding f w d nodes c.loop.items.items s) stack c.loop.invariant in
    let next : IsNextItem f w d c.in-Some.top c.pop.new.self.items c.take_next.new.stack.items c.in-Some-2.item = rw c.in-Some-2.is at c.in_ok-item.ensures in
    let more : c.loop.items.items ++ c.in-Some-2.item ∷ [] ≡ c.push-in-Some-2.new.self.items = sym c.in_ok-push-in-Some-2.ensures.items in
    subst (λ (l : List Item). IsEnding f w d nodes l c.take_next.new.stack.items) more
    (ending_more f w d nodes c.loop.items.items c.pop.new.self.items c.take_next.new.stack.items c.in-Some.top c.in-Some-2.item before next)
