-- No entry of a vertex so far is a prefix.
use Rattle.std.proofs.Common.{◌≤◌}
use Rattle.std.specs.Prelude.{Contains}
use Rattle.drt_graph.specs.declared.front.FrontEntry.{FrontEntry}
use Rattle.drt_edf_fronts.specs.DemandWalk.{IsPrefixLabel}
use Rattle.drt_edf_fronts.proofs.walks.predecessor.Given as goal

abbrev pub invariant-vertices : goal.invariant-vertices
invariant-vertices l = (d : FrontEntry) → Contains l.front d → IsPrefixLabel l.graph d l.entry → l.u ≤ d.vertex
