use Rattle.drt_table.proofs.Sweep.{to_go}
use Rattle.drt_table.proofs.Sweeping.{IsSwept}
use Rattle.drt_table.proofs.kept.drop_all_below.Given as goal

abbrev pub invariant-loop-next : goal.invariant-loop-next
invariant-loop-next g l = IsSwept g.L.Label.algebra l.label l.number l.fn.nodes l.nodes l.links l.heads l.last l.next

abbrev pub decreases-loop-next : goal.decreases-loop-next
decreases-loop-next g l = to_go g.L.Label.algebra l.fn.nodes l.next
