-- The items so far, and whatever ends the stack, end the roots.
use Rattle.std.proofs.Common.{◌≡◌, ℕ, ◌<◌, List, [], ◌∷◌, ◌++◌, All, Option, Some, length, sym, ap, subst, arith, ◌∙◌}
use Rattle.std.specs.Prelude.{slice_get}
use Rattle.std.proofs.lemmas.List.Elements.{All-pop, All-cons, All-nil}
use Rattle.std.proofs.lemmas.Option.{slice_get_within}
use Rattle.drt_worklist.proofs.Lists.{get_within}
use Rattle.drt_claims.specs.declared.evidence.Item.{Item}
use Rattle.drt_refine.specs.Combination.{Combination}
use Rattle.drt_refine.specs.Machine.{FrontierState}
use Rattle.drt_refine.specs.Settled.{AreSettled}
use Rattle.drt_refine.specs.View.{setting_of}
use Rattle.std.proofs.lemmas.Option.{IfSome_then}
use Rattle.drt_sp.specs.Parts.{AreAdded, AreEndOf, HasParts}
use Rattle.drt_sp.proofs.Joining.{empty_of}
use Rattle.drt_sp.proofs.ItemLists.{IsRead, read_end, read_more, read_start, within_more}
use Rattle.drt_sp.proofs.joints.join_parts.Goals.{else-loop-test, then-loop-test+in-Some+in_ok-add_items+else-not-branch+else-counter-end}
use Rattle.drt_sp.proofs.joints.join_parts.Goals as goal

pub loop-init : goal.loop-init
loop-init c =
    let t = setting_of c.args.forest.now c.args.frontier.now in
    let cs = c.args.frontier.now.combinations in
    let law = c.eager_settles.ensures.settled t c.args.frontier.now.log c.requires.frontier.run c.requires.eager in
    let settled : AreSettled t cs = subst (λ (s : FrontierState). AreSettled t s.combinations) (sym c.requires.frontier.state) law in
    let some : 0 < length cs = slice_get_within cs 0 settled.opening.combination settled.opening.at in
    let stack : c.push.new.self.items ≡ 0 ∷ [] = c.in_ok-push.ensures.items ∙ ap (λ (l : List ℕ). l ++ 0 ∷ []) c.new-stack.ensures.items in
    record {
      read =
          subst (λ (l : List Item). IsRead t.forest t.wcet t.deadline t.roots cs l c.push.new.self.items) (sym c.in_ok-items.ensures.items)
          (subst (λ (l : List ℕ). IsRead t.forest t.wcet t.deadline t.roots cs [] l) (sym stack) (read_start t cs settled));
      within = subst (λ (l : List ℕ). All (λ n. n < length cs) l) (sym stack) (All-cons (λ n. n < length cs) 0 [] some (All-nil (λ n. n < length cs)));
      parts = c.requires.parts;
    }

pub returns-clause-parts : goal.returns-clause-parts
returns-clause-parts c =
    let v = c.args.frontier.now in
    let Have : List (Option (List Item)) → Type 0 = HasParts c.args.forest.now v.wcet v.deadline v.combinations in
    elim c.loop-test.branch as (λ _. Have c.loop-test.parts.items) [
      | else-loop-test w ↦ rw w.parts-is c.loop.invariant.parts
      | then-loop-test+in-Some+in_ok-add_items+else-not-branch+else-counter-end w ↦ rw w.parts-is w.add_items.ensures.parts
    ]

pub returns-in_default-clause-parts : goal.returns-in_default-clause-parts
returns-in_default-clause-parts c = c.loop.invariant.parts

pub returns-in_default-clause-items : goal.returns-in_default-clause-items
returns-in_default-clause-items c =
    let f = c.args.forest.now in
    let t = setting_of f c.args.frontier.now in
    let cs = c.args.frontier.now.combinations in
    let none : length c.loop.stack.items ≡ 0 = omega (arith, c.in_default.ensures.cases.0) in
    let empty : c.loop.stack.items ≡ [] = empty_of c.loop.stack.items none in
    let read : IsRead t.forest t.wcet t.deadline t.roots cs c.loop.items.items []
    = subst (λ (l : List ℕ). IsRead t.forest t.wcet t.deadline t.roots cs c.loop.items.items l) empty c.loop.invariant.read in
    let ends : AreEndOf t.forest t.wcet t.deadline t.roots c.loop.items.items = record { items_are = read_end t cs c.loop.items.items read; in_range = read.in_range } in
    IfSome_then c.within_budget.result c.within_budget.ensures (λ row is. (subst (λ (l : List Item). AreEndOf t.forest t.wcet t.deadline t.roots l) (sym is.0) ends, is.1))

pub add_items-requires-clause-within : goal.add_items-requires-clause-within
add_items-requires-clause-within c =
    let cs = c.args.frontier.now.combinations in
    let two = All-pop (λ n. n < length cs) c.loop.stack.items c.pop.new.self.items c.pop.result c.pop.ensures.items c.loop.invariant.within in
    rw c.in-Some.is at two.1

pub loop-preserved : goal.loop-preserved
loop-preserved c =
    let t = setting_of c.args.forest.now c.args.frontier.now in
    let cs = c.args.frontier.now.combinations in
    let law = c.eager_settles.ensures.settled t c.args.frontier.now.log c.requires.frontier.run c.requires.eager in
    let settled : AreSettled t cs = subst (λ (s : FrontierState). AreSettled t s.combinations) (sym c.requires.frontier.state) law in
    let two = All-pop (λ n. n < length cs) c.loop.stack.items c.pop.new.self.items c.pop.result c.pop.ensures.items c.loop.invariant.within in
    let lt : c.in-Some.id < length cs = rw c.in-Some.is at two.1 in
    let x : (x : Combination) × (slice_get cs c.in-Some.id ≡ Some x) = get_within cs c.in-Some.id lt in
    let before : IsRead t.forest t.wcet t.deadline t.roots cs c.loop.items.items (c.pop.new.self.items ++ c.in-Some.id ∷ [])
    = subst (λ (l : List ℕ). IsRead t.forest t.wcet t.deadline t.roots cs c.loop.items.items l) c.in-Some.ensures.items c.loop.invariant.read in
    let added : (added : List Item) × (c.add_items.new.items.items ≡ c.loop.items.items ++ added)
    × ((x : Combination) → slice_get cs c.in-Some.id ≡ Some x → AreAdded c.args.forest.now c.args.frontier.now.wcet c.args.frontier.now.deadline x.state x.nodes added
    c.pop.new.self.items c.add_items.new.stack.items)
    = c.in_ok-add_items.ensures.added c.if-not-branch.false in
    record {
      read =
          subst (λ (l : List Item). IsRead t.forest t.wcet t.deadline t.roots cs l c.add_items.new.stack.items) (sym added.1)
          (read_more t cs settled c.loop.items.items c.pop.new.self.items c.in-Some.id x.0 x.1 added.0 c.add_items.new.stack.items c.requires.deadline (added.2 x.0 x.1) before);
      within = within_more t cs settled c.loop.items.items c.pop.new.self.items c.in-Some.id x.0 x.1 added.0 c.add_items.new.stack.items (added.2 x.0 x.1) two.0;
      parts = c.add_items.ensures.parts;
    }
