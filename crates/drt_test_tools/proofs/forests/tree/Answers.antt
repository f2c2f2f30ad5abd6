use Rattle.std.proofs.Common.{◌≡◌, ℕ, true, List, sym, subst, rules}
use Rattle.drt_tree.specs.Leaf.{leaves_of}
use Rattle.drt_tree.specs.Tree.{HaveOneBound}
use Rattle.drt_test_tools.proofs.forests.tree.Goals as goal

pub add-requires-clause-bound : goal.add-requires-clause-bound
add-requires-clause-bound c =
    let yes : c.go_to.result ≡ true = search rules in
    subst (λ (pool : List (List ℕ)). HaveOneBound pool (leaves_of c.args.labels.now c.args.walks.now)) (sym c.empty-forest.ensures.pool) (c.go_to.ensures yes c.args.walks.now)
