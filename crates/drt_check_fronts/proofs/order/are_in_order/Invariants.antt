-- The fronts so far are in order.
use Rattle.std.proofs.Common.{ℕ, ◌<◌, List, get_or}
use Rattle.drt_graph.specs.Graphs.{graph_of}
use Rattle.drt_graph.specs.declared.front.FrontEntry.{FrontEntry}
use Rattle.drt_claims.specs.Fronts.{IsOrdered}
use Rattle.drt_check_fronts.proofs.order.are_in_order.Given as goal

abbrev pub invariant-loop-i : goal.invariant-loop-i
invariant-loop-i l = (k : ℕ) (d : List FrontEntry) → k < l.i → IsOrdered l.bound (graph_of l.graphs k) (get_or l.fronts k d)
