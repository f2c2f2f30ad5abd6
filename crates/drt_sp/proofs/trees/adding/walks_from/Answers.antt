use Rattle.std.proofs.Common.{◌≡◌, ◌+◌, ◌-◌, ◌++◌, [], ◌∷◌, sym, ap, ◌∙◌, arith}
use Rattle.std.proofs.lemmas.List.FromFn.{map-range_with_len_more}
use Rattle.drt_tree.specs.Tree.{walk}
use Rattle.drt_sp.specs.TaskTrees.{walks_from}
use Rattle.drt_sp.proofs.trees.adding.walks_from.Goals as goal

pub leaves-preserved : goal.leaves-preserved
leaves-preserved c =
    let i = c.leaves.invariant in
    let a = i.0 in
    let low = c.args.low in
    let made : c.in_ok-walk.walk.items ≡ walk c.args.forest.now c.leaves.leaf = c.in_ok-walk.ensures.items ∙ (c.as_slice.ensures ∙ c.walk.ensures) in
    let n : (c.leaves.leaf - low) + 1 ≡ c.leaves.leaf + 1 - low = omega (arith, a) in (
      omega (arith, a),
      omega (arith, c.leaves-test.true),
      c.in_ok-push.ensures.items
          ∙ (ap (λ w. c.leaves.walks.items ++ w ∷ []) (c.from_vec.ensures ∙ made)
          ∙ (ap (λ ws. ws ++ walk c.args.forest.now c.leaves.leaf ∷ []) i.2
          ∙ (sym (map-range_with_len_more (λ k. walk c.args.forest.now k) low (c.leaves.leaf - low) c.leaves.leaf (omega (arith, a)))
          ∙ ap (λ k. walks_from c.args.forest.now low k) n))),
    )

pub returns : goal.returns
returns c =
    let i = c.leaves.invariant in
    let a = i.0 in
    let b = i.1 in
    let low = c.args.low in
    let e : c.leaves.leaf - low ≡ c.args.count = omega (arith, a, c.leaves-test.false, b) in
    c.from_vec-2.ensures ∙ (i.2 ∙ ap (λ k. walks_from c.args.forest.now low k) e)
