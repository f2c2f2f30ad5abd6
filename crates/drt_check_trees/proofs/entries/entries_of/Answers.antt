use Rattle.drt_check_trees.proofs.Dominators.{entries_sorted}
use Rattle.drt_check_trees.proofs.entries.entries_of.Goals as goal

pub thinned-requires-clause-all : goal.thinned-requires-clause-all
thinned-requires-clause-all c =
    entries_sorted c.args.bounded.now.bound c.args.bounded.now.graph.now c.args.tree.now.walks c.in_ok-entries.entries.items c.sort_unstable.new.self.items c.requires.short
    c.in_ok-entries.ensures c.sort_unstable.ensures.permutation c.sort_unstable.ensures.sorted
