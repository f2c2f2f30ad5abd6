use Rattle.drt_tree.proofs.Labels.{GoTo}
use Rattle.drt_test_tools.proofs.forests.go_to.Given as goal

abbrev pub invariant-loop-i : goal.invariant-loop-i
invariant-loop-i l = GoTo l.bound l.labels l.i
