use Rattle.drt_table.proofs.Seeking.{IsSought}
use Rattle.drt_table.proofs.Sweep.{to_go}
use Rattle.drt_table.proofs.kept.first_in_chain.Given as goal

abbrev pub invariant-loop-next : goal.invariant-loop-next
invariant-loop-next g l = IsSought g.L.Label.algebra l.label l.nodes l.next l.least

abbrev pub decreases-loop-next : goal.decreases-loop-next
decreases-loop-next g l = to_go g.L.Label.algebra l.nodes l.next
