use Rattle.drt_table.proofs.Start.{IsOpened}
use Rattle.drt_table.proofs.table.opening_arena.Given as goal

-- the nodes so far, and those of the vertices that are left, are the opening nodes
abbrev pub invariant-loop-v : goal.invariant-loop-v
invariant-loop-v g l = IsOpened g.L.Label.algebra (record { graph = l.graph; bound = l.bound; budget = l.budget }) l.count l.v l.arena
