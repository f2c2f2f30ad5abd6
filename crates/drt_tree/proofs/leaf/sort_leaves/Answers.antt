use Rattle.std.proofs.Common.{ap}
use Rattle.std.specs.Ordering.{is_lt}
use Rattle.std.specs.Cmp.Lexicographic.{nat_list_cmp_total}
use Rattle.std.proofs.lemmas.Result.{on_ok_weaker}
use Rattle.std.proofs.lemmas.List.Sorted.{answers_always}
use Rattle.std.proofs.lemmas.List.MinMax.{ranks_by}
use Rattle.drt_tree.specs.Leaf.{is_leaf_before, leaf_key}
use Rattle.drt_tree.proofs.leaf.sort_leaves.Goals as goal

pub returns-clause-sorted : goal.returns-clause-sorted
returns-clause-sorted c = on_ok_weaker c.sort_by.result (λ h. h is_leaf_before (ranks_by nat_list_cmp_total leaf_key) (answers_always _ _ _ (λ f a r f' k. ap is_lt k.met))) c.sort_by.ensures.sorted
