-- The entries so far are in order.
use Rattle.std.proofs.Common.{ℕ, ◌+◌, ◌<◌, get_or}
use Rattle.drt_graph.specs.FrontEntry.{IsNextEntry}
use Rattle.drt_graph.specs.declared.front.FrontEntry.{FrontEntry}
use Rattle.drt_check_fronts.proofs.order.are_sorted.Given as goal

abbrev pub invariant-loop-i : goal.invariant-loop-i
invariant-loop-i l = (k : ℕ) (d : FrontEntry) → k + 1 < l.i → IsNextEntry (get_or l.front k d) (get_or l.front (k + 1) d)
