use Rattle.drt_table.specs.Node.{Held, is_held_by}
use Rattle.drt_table.proofs.Scan.{IsLeastOf}
use Rattle.drt_table.proofs.holding.first_held.Given as goal

-- the least of the nodes so far
abbrev pub invariant-loop-j : goal.invariant-loop-j
invariant-loop-j g l = IsLeastOf (λ (h : Held _). is_held_by l.worker h.node) l.nodes l.taken l.j l.least
