-- The walk is short exactly where its rest is.
use Rattle.drt_check_trees.proofs.Shorts.{GoesOn}
use Rattle.drt_check_trees.proofs.short.is_short.Given as goal

abbrev pub invariant-loop-i : goal.invariant-loop-i
invariant-loop-i l = GoesOn l.bound l.graph l.walk l.at l.span l.i
