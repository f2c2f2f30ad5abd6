-- Each answer stands on what the way back has come to where it stands (Returning of Back.antt).
use Rattle.std.proofs.Common.{◌≡◌, ◌<◌, ◌+◌, Some, List, [], ◌∷◌, ◌++◌, reverse, sym, ap, ◌∙◌, subst, arith}
use Rattle.std.specs.Prelude.{slice_get}
use Rattle.std.proofs.lemmas.List.{reverse-reverse}
use Rattle.drt_table.specs.Node.{NodeOf}
use Rattle.drt_table.specs.Walk.{IsWalkBack}
use Rattle.drt_table.specs.View.{View, setting_of, state_of}
use Rattle.drt_table.proofs.Back.{IsRest, returning, order_of, rest_start, rest_more, order_less}
use Rattle.drt_table.proofs.table.Table.walk.Goals as goal

pub loop-next-init : goal.loop-next-init
loop-next-init g c n at =
    let nodes = (state_of c.args.self.now).nodes in
    subst (λ ws. IsRest g.L.Label.algebra (setting_of c.args.self.now) nodes ws (Some c.args.id) n.label) (sym c.new-walk.ensures.items)
    (rest_start g.L.Label.algebra (setting_of c.args.self.now) nodes c.args.id n at)

pub node-node-requires-after_bounds : goal.node-node-requires-after_bounds
node-node-requires-after_bounds g c κs within =
    let laws = (g.met.L.Label g.world.𝓛 g.world.𝓜 g.world.𝓡 ((λ s x. x), (λ x. x), (λ x. x), λ x. x)).laws in
    let s = returning g.L.Label.algebra laws _ _ c.self.invariant.0 c.self.view_is c.args.id c.requires _ _ c.loop-next.invariant c.in-Some.i c.in-Some.is in
    s.within

pub loop-next-smaller : goal.loop-next-smaller
loop-next-smaller g c =
    let a = g.L.Label.algebra in
    let laws = (g.met.L.Label g.world.𝓛 g.world.𝓜 g.world.𝓡 ((λ s x. x), (λ x. x), (λ x. x), λ x. x)).laws in
    let s = returning a laws _ _ c.self.invariant.0 c.self.view_is c.args.id c.requires _ _ c.loop-next.invariant c.in-Some.i c.in-Some.is in
    let node = c.node-node.result.now.node in
    let at_i : slice_get (state_of c.args.self.now).nodes c.in-Some.i ≡ Some node = s.at c.node-node.result.now c.node-node.ensures in
    let less : order_of node.parent < c.in-Some.i + 1 = order_less a _ _ laws s.facts c.in-Some.i node at_i in
    let from : order_of c.loop-next.next ≡ c.in-Some.i + 1 = ap order_of c.in-Some.is in
    let to : order_of c.parent-next.result ≡ order_of node.parent = ap order_of c.parent-next.ensures in
    omega arith

pub loop-next-preserved : goal.loop-next-preserved
loop-next-preserved g c n at =
    let a = g.L.Label.algebra in
    let laws = (g.met.L.Label g.world.𝓛 g.world.𝓜 g.world.𝓡 ((λ s x. x), (λ x. x), (λ x. x), λ x. x)).laws in
    let s = returning a laws _ _ c.self.invariant.0 c.self.view_is c.args.id c.requires _ _ c.loop-next.invariant c.in-Some.i c.in-Some.is in
    let node = c.node-node.result.now.node in
    let at_i : slice_get (state_of c.args.self.now).nodes c.in-Some.i ≡ Some node = s.at c.node-node.result.now c.node-node.ensures in
    let set = setting_of c.args.self.now in
    let nodes : List (NodeOf _) = (state_of c.args.self.now).nodes in
    let done = c.loop-next.walk.items in
    let next : IsRest a set nodes (done ++ a.vertex node.label ∷ []) node.parent n.label =
    rest_more a set nodes laws s.facts done c.in-Some.i n.label node at_i (s.rest n at) in
    subst (λ ws. IsRest a set nodes ws c.parent-next.result n.label) (sym (c.in_ok-push.ensures.items ∙ ap (λ v. done ++ v ∷ []) c.vertex.ensures))
    (subst (λ o. IsRest a set nodes (done ++ a.vertex node.label ∷ []) o n.label) (sym c.parent-next.ensures) next)

pub returns : goal.returns
returns g c n at =
    let a = g.L.Label.algebra in
    let s : View _ = c.args.self.now in
    let back : IsWalkBack a (setting_of s) c.loop-next.walk.items n.label =
    subst (λ o. IsRest a (setting_of s) (state_of s).nodes c.loop-next.walk.items o n.label) c.in_default.is (c.loop-next.invariant n at) in
    subst (λ ws. IsWalkBack a (setting_of s) (reverse ws) n.label) (sym (c.from_vec.ensures ∙ c.reverse.ensures.items))
    (subst (λ ws. IsWalkBack a (setting_of s) ws n.label) (sym (reverse-reverse c.loop-next.walk.items)) back)
