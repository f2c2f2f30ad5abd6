use Rattle.drt_check_tests.proofs.Claims.{is_in_range, is_short, is_tree}
use Rattle.drt_check_tests.proofs.worked.tree_is_claimed.Goals as goal

pub returns-clause-tree : goal.returns-clause-tree
returns-clause-tree c = is_tree

pub returns-clause-short : goal.returns-clause-short
returns-clause-short c = is_short

pub returns-clause-ranges : goal.returns-clause-ranges
returns-clause-ranges c = is_in_range
