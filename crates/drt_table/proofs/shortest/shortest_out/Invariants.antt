use Rattle.std.proofs.Common.{◌≡◌, true, drop}
use Rattle.drt_model.specs.Digraph.{out_edges}
use Rattle.drt_model.specs.declared.tasks.Edge.{Edge}
use Rattle.drt_table.specs.Earliest.{smaller, least_of}
use Rattle.drt_table.proofs.shortest.shortest_out.Given as goal

-- the least so far and the least of the edges that are left make that of all
abbrev pub invariant-loop-k : goal.invariant-loop-k
invariant-loop-k l = smaller l.least (least_of (λ (e : Edge). true) (λ e. e.sep) (drop l.k (out_edges l.graph l.v))) ≡ least_of (λ (e : Edge). true) (λ e. e.sep) (out_edges l.graph l.v)
