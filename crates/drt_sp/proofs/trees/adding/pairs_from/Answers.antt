use Rattle.std.proofs.Common.{◌≡◌, ◌+◌, ◌-◌, ◌++◌, [], ◌∷◌, sym, ap, ◌∙◌, arith}
use Rattle.std.proofs.lemmas.List.FromFn.{map-range_with_len_more}
use Rattle.drt_tree.specs.Tree.{children}
use Rattle.drt_sp.specs.TaskTrees.{pair_of, pairs_from}
use Rattle.drt_sp.proofs.trees.adding.pairs_from.Goals as goal

pub pairs-preserved : goal.pairs-preserved
pairs-preserved c =
    let i = c.pairs.invariant in
    let a = i.0 in
    let f = c.args.forest.now in
    let low = c.args.low in
    let first = c.args.first in
    let n : (c.pairs.node - first) + 1 ≡ c.pairs.node + 1 - first = omega (arith, a) in (
      omega (arith, a),
      omega (arith, c.pairs-test.true),
      c.in_ok-push.ensures.items
          ∙ (ap (λ p. c.pairs.pairs.items ++ p ∷ []) c.pair_of.ensures
          ∙ (ap (λ ps. ps ++ pair_of low (children f c.pairs.node) ∷ []) i.2
          ∙ (sym (map-range_with_len_more (λ k. pair_of low (children f k)) first (c.pairs.node - first) c.pairs.node (omega (arith, a)))
          ∙ ap (λ k. pairs_from f low first k) n))),
    )

pub returns : goal.returns
returns c =
    let i = c.pairs.invariant in
    let a = i.0 in
    let b = i.1 in
    let e : c.pairs.node - c.args.first ≡ c.args.count = omega (arith, a, b, c.pairs-test.false) in
    c.from_vec.ensures ∙ (i.2 ∙ ap (λ k. pairs_from c.args.forest.now c.args.low c.args.first k) e)
