-- The vertices so far, each by its two draws.
use Rattle.std.proofs.Common.{◌≡◌, ◌*◌}
use Rattle.drt_gen.specs.Draws.{state_after}
use Rattle.drt_gen.proofs.Made.{vertices_to}
use Rattle.drt_gen.proofs.generating.draw_vertices.Given as goal

abbrev pub invariant-vertices : goal.invariant-vertices
invariant-vertices l = record {
  made : l.vertices.items ≡ vertices_to l.period l.fn.draws l.j;
  state : l.draws ≡ state_after l.fn.draws (2 * l.j);
}
