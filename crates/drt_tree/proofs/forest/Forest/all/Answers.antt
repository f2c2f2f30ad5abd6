use Rattle.std.proofs.Common.{subst}
use Rattle.drt_tree.specs.Tree.{Plain, IsForest}
use Rattle.drt_tree.proofs.Trees.{leaf_below}
use Rattle.drt_tree.proofs.forest.Forest.all.Goals as goal

pub returns-clause-below : goal.returns-clause-below
returns-clause-below c leaf n t h =
    leaf_below c.args.self.now n h.0 leaf t (subst (λ (f : Plain). IsForest f) c.self.view_is c.self.invariant) h.1
