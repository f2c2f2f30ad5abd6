-- What is known of the vertices so far.
use Rattle.drt_sp.proofs.Attempted.{AreAttempted}
use Rattle.drt_sp.proofs.attempts.attempt_vertices.Given as goal

abbrev pub invariant-loop-vertex : goal.invariant-loop-vertex
invariant-loop-vertex l = AreAttempted l.posed.forest.now l.posed.roots.now l.posed.graph.now l.vertex l.proofs.items l.spent.items
