-- The extensions of the entries so far are covered, or due past the bound.
use Rattle.std.proofs.Common.{ℕ, ◌<◌, get_or}
use Rattle.drt_model.specs.Digraph.{out_degree}
use Rattle.drt_graph.specs.declared.front.FrontEntry.{FrontEntry}
use Rattle.drt_claims.specs.Fronts.{IsExtended}
use Rattle.drt_check_fronts.proofs.closing.is_closed.Given as goal

abbrev pub invariant-loop-i : goal.invariant-loop-i
invariant-loop-i l = (j : ℕ) (d : FrontEntry) → j < l.i → (k : ℕ) → k < out_degree l.graph (get_or l.front j d).vertex → IsExtended l.bound l.graph l.front (get_or l.front j d) k
