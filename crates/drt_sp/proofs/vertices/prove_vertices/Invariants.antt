-- The proofs so far, and what is known of the other vertices.
use Rattle.drt_sp.specs.Attempts.{AreGiven}
use Rattle.drt_sp.specs.Vertices.{AreVertexProofs}
use Rattle.drt_sp.proofs.vertices.prove_vertices.Given as goal

abbrev pub invariant-vertices : goal.invariant-vertices
invariant-vertices g l = record {
  proofs : AreVertexProofs l.forest l.roots l.graph l.task l.vertex l.proofs.items;
  found : AreGiven l.forest l.roots l.graph l.ahead.found.items;
}
