use Rattle.drt_table.specs.Node.{Held, is_taken}
use Rattle.drt_table.specs.Held.{held_offset}
use Rattle.drt_table.proofs.Scan.{IsBestOf}
use Rattle.drt_table.proofs.holding.first_taken.Given as goal

-- the best of the nodes so far
abbrev pub invariant-loop-j : goal.invariant-loop-j
invariant-loop-j g l = IsBestOf (λ (h : Held _). is_taken h.node) l.nodes l.taken (held_offset g.L.Label.algebra) l.j l.best
