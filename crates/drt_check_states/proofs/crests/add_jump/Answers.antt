use Rattle.std.proofs.Common.{◌≡◌, ◌++◌, [], ◌∷◌, List, length, ap, subst, ◌∙◌, arith, rules}
use Rattle.drt_states.specs.declared.claims.Jump.{Jump}
use Rattle.drt_check_states.specs.Crests.{AreUpTo}
use Rattle.drt_check_states.specs.Curves.{IsRising}
use Rattle.drt_check_states.proofs.Jumps.{has_by, jump_first, jump_over, jump_past, jump_under}
use Rattle.drt_check_states.proofs.crests.add_jump.Goals as goal

pub returns-in_default : goal.returns-in_default
returns-in_default c =
    let none : length c.args.joined.now.items ≡ 0 = search rules in
    let rest : length c.pop.new.self.items ≡ 0 = search rules in
    jump_first c.args.joined.now.items c.pop.new.self.items c.push.new.self.items c.args.jump none rest c.in_ok-push.ensures.items

pub returns-then-jump-last : goal.returns-then-jump-last
returns-then-jump-last c =
    let xs : List Jump = c.pop.new.self.items in
    let old : c.args.joined.now.items ≡ xs ++ c.in-Some.last ∷ [] = c.in-Some.ensures.items in
    has_by c.args.joined.now.items c.push-then-jump-last.new.self.items (xs ++ c.in-Some.last ∷ []) (xs ++ c.in-Some.last ∷ []) c.args.jump old c.in_ok-push-2.ensures.items
    (jump_under xs c.in-Some.last c.args.jump (subst IsRising old c.requires.rising) (subst (AreUpTo c.args.jump.offset) old c.requires.last) c.if-jump-last.true)

pub returns-then-last-jump : goal.returns-then-last-jump
returns-then-last-jump c =
    let xs : List Jump = c.pop.new.self.items in
    let old : c.args.joined.now.items ≡ xs ++ c.in-Some.last ∷ [] = c.in-Some.ensures.items in
    let new = c.in_ok-push-4.ensures.items ∙ ap (λ (js : List Jump). js ++ c.args.jump ∷ []) c.in_ok-push-3.ensures.items in
    has_by c.args.joined.now.items c.push-then-last-jump-2.new.self.items (xs ++ c.in-Some.last ∷ []) ((xs ++ c.in-Some.last ∷ []) ++ c.args.jump ∷ []) c.args.jump old new
    (jump_past xs c.in-Some.last c.args.jump (subst IsRising old c.requires.rising) (subst (AreUpTo c.args.jump.offset) old c.requires.last) c.if-last-jump.true (omega (arith, c.if-jump-last.false)))

pub returns : goal.returns
returns c =
    let xs : List Jump = c.pop.new.self.items in
    let old : c.args.joined.now.items ≡ xs ++ c.in-Some.last ∷ [] = c.in-Some.ensures.items in
    has_by c.args.joined.now.items c.push-2.new.self.items (xs ++ c.in-Some.last ∷ []) (xs ++ c.args.jump ∷ []) c.args.jump old c.in_ok-push-5.ensures.items
    (jump_over xs c.in-Some.last c.args.jump (subst IsRising old c.requires.rising) (subst (AreUpTo c.args.jump.offset) old c.requires.last)
    (omega (arith, c.if-last-jump.false)) (omega (arith, c.if-jump-last.false)))
