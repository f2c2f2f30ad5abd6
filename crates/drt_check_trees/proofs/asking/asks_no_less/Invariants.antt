-- What is known of the comparison so far.
use Rattle.drt_check_trees.proofs.Asks.{IsSettled}
use Rattle.drt_check_trees.proofs.asking.asks_no_less.Given as goal

abbrev pub invariant-loop-i : goal.invariant-loop-i
invariant-loop-i l = IsSettled l.graph l.bound l.other l.walk l.i l.offset l.work l.cursor
