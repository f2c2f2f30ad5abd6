use Rattle.std.proofs.Common.{refl}
use Rattle.drt_sp.proofs.TreeSearches.{searched_leaves}
use Rattle.drt_sp.proofs.trees.end_of.Goals as goal

pub returns : goal.returns
returns c =
    let v = c.args.table in
    let e = c.in_ok-leaves.ensures in
    let leaves = c.in_ok-leaves.leaves in
    searched_leaves v.graph v.bound v.budget v refl e.table c.requires.few leaves e.same e.few e.leaves
