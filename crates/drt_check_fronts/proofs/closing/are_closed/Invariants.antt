-- The fronts so far cover their entries' extensions.
use Rattle.std.proofs.Common.{ℕ, ◌<◌, List, get_or}
use Rattle.drt_graph.specs.Graphs.{graph_of}
use Rattle.drt_graph.specs.declared.front.FrontEntry.{FrontEntry}
use Rattle.drt_claims.specs.Fronts.{IsClosedFront}
use Rattle.drt_check_fronts.proofs.closing.are_closed.Given as goal

abbrev pub invariant-loop-i : goal.invariant-loop-i
invariant-loop-i l = (k : ℕ) (d : List FrontEntry) → k < l.i → IsClosedFront l.bound (graph_of l.graphs k) (get_or l.fronts k d)
