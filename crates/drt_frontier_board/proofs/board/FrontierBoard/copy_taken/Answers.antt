use Rattle.std.proofs.Common.{◌<◌, length, ap, sym, ◌∙◌, subst, arith}
use Rattle.drt_refine.specs.Facts.{AreInPlace}
use Rattle.drt_frontier_board.specs.FrontierBoard.{BoardOf, terms_of}
use Rattle.drt_frontier_board.proofs.Calls.{in_place}
use Rattle.drt_frontier_board.proofs.board.FrontierBoard.copy_taken.Goals as goal

pub copy_from_slice-requires : goal.copy_from_slice-requires
copy_from_slice-requires c =
    let lt = subst (λ (b : BoardOf). c.in-Some.id < length b.frontier.combinations) (sym c.self.view_is) (c.requires.taken c.in-Some.id (sym c.taken_by.ensures ∙ c.in-Some.is)) in
    let are = in_place c.self.inside.forest.value c.self.inside.frontier c.in-Some.id c.combination.result.now c.self.invariant.0 lt c.combination.ensures in
    let roots = ap (λ (b : BoardOf). length b.frontier.roots) c.self.view_is in
    omega (arith, are.1, roots, c.requires.nodes.1, c.args.nodes.now.ok.0)

pub returns-in-Some-clause-nodes : goal.returns-in-Some-clause-nodes
returns-in-Some-clause-nodes c =
    let lt = subst (λ (b : BoardOf). c.in-Some.id < length b.frontier.combinations) (sym c.self.view_is) (c.requires.taken c.in-Some.id (sym c.taken_by.ensures ∙ c.in-Some.is)) in
    let are = in_place c.self.inside.forest.value c.self.inside.frontier c.in-Some.id c.combination.result.now c.self.invariant.0 lt c.combination.ensures in
    subst (λ ns. AreInPlace (terms_of c.args.self.now) ns) (sym c.copy_from_slice.ensures.items)
    (subst (λ (b : BoardOf). AreInPlace (terms_of b) c.combination.result.now) c.self.view_is are)
