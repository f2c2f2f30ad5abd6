-- All so far are marked.
use Rattle.std.proofs.Common.{◌≡◌, ℕ, ◌<◌, get_or, false, true}
use Rattle.drt_check_trees.proofs.shapes.all_marked.Given as goal

abbrev pub invariant-loop-mark : goal.invariant-loop-mark
invariant-loop-mark l = (n : ℕ) → n < l.mark-index → get_or l.marks n false ≡ true
