use Rattle.drt_sp_tests.proofs.tree_tests.+assert_part.Given as goal

abbrev pub decreases-assert_part : goal.decreases-assert_part
decreases-assert_part g l = l.count
