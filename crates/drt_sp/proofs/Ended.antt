-- The trees that an analysis hands over.
use Rattle.std.proofs.Common.{ℕ, List, arith}
use Rattle.drt_model.specs.Contents.{Contents}
use Rattle.drt_model.specs.Constrained.{AreConstrained}
use Rattle.drt_model.specs.Limits.{IsTaskSet}
use Rattle.drt_busy.specs.Decide.{TimesDecide}
use Rattle.drt_tree.specs.Tree.{IsForest}
use Rattle.drt_claims.specs.Trees.{greatest_deadline}
use Rattle.drt_sp.specs.Claims.{begins}
use Rattle.drt_sp.specs.Grown.{AreProvedTrees}
use Rattle.drt_sp.specs.Progress.{AreTreesComplete}
use Rattle.drt_sp.specs.declared.progress.Progress.{Progress}
use Rattle.drt_sp.proofs.ExactTrees.{grown_exact}
use Rattle.drt_sp.proofs.Passing.{claimed_nodes}
use Rattle.drt_sp.proofs.Yes.{is_yes}

-- the trees of an analysis that proved all vertices
pub proved_trees : (set : Contents) (order : List ℕ) (p : Progress) → IsTaskSet set.version set.tasks → AreConstrained set.tasks → TimesDecide → IsForest p.forest
    → AreTreesComplete set.tasks order p.forest p.roots.items p.trees.items p.proofs.items
    → AreProvedTrees set (record { forest = p.forest; roots = p.roots.items; order = order })
proved_trees set order p limits constrained decides forest is =
    let yes = is_yes set.tasks order is.order_is set.version limits is.last is.whole p.forest p.roots.items p.trees.items is.grown p.proofs.items is.proved constrained decides in
    record {
      schedulable = yes.schedulable;
      limits = limits;
      order_is = is.order_is;
      count = omega (arith, is.grown.count, is.whole);
      passed = is.proved.passed;
      forest = forest;
      nodes = claimed_nodes (greatest_deadline set.tasks) p.forest _ (begins 0 p.roots.items) p.roots.items p.trees.items is.grown.claimed;
      one_bound = is.grown.one_bound;
      stand = is.grown.stand;
      few = is.grown.few_leaves;
      exact = grown_exact set.tasks order is.last p.forest p.roots.items p.trees.items is.grown;
    }
