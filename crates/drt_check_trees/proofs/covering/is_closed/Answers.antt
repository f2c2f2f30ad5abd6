use Rattle.std.proofs.Common.{ℕ, ap, arith, refl}
use Rattle.drt_model.specs.Digraph.{out_degree}
use Rattle.drt_check_trees.proofs.Extending.{closed_all}
use Rattle.drt_check_trees.proofs.Dominators.{short_last, short_within}
use Rattle.drt_check_trees.proofs.covering.is_closed.Goals as goal

pub measure-extent-requires-clause-within : goal.measure-extent-requires-clause-within
measure-extent-requires-clause-within c = short_within c.args.bounded.now.graph.now c.keep_limits.ensures c.args.bounded.now.bound c.args.walk.now c.requires.bounded.bound c.requires.walk

pub out_degree-k-end-requires : goal.out_degree-k-end-requires
out_degree-k-end-requires c =
    let l = short_last c.args.bounded.now.graph.now c.keep_limits.ensures c.args.bounded.now.bound c.args.walk.now c.requires.walk in
    omega (arith, l, c.last_in-last.ensures)

pub returns : goal.returns
returns c =
    let same = ap (λ (v : ℕ). out_degree c.args.bounded.now.graph.now v) c.last_in-last.ensures in (
      λ t. (closed_all c.args.bounded.now.graph.now c.args.bounded.now.bound c.args.catalogue.now.tree.now c.args.walk.now c.requires.walk).1
          (λ k l. c.loop-k.invariant k (omega (arith, l, c.loop-k-test.false, c.out_degree-k-end.ensures, same))),
      λ is. refl,
    )
