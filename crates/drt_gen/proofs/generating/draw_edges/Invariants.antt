-- The edges so far, those out of each vertex by their three draws.
use Rattle.std.proofs.Common.{◌≡◌, ◌*◌}
use Rattle.drt_gen.specs.Draws.{state_after}
use Rattle.drt_gen.proofs.Made.{edges_to}
use Rattle.drt_gen.proofs.generating.draw_edges.Given as goal

abbrev pub invariant-edges : goal.invariant-edges
invariant-edges l = record {
  made : l.edges.items ≡ edges_to l.period l.fn.draws l.j;
  state : l.draws ≡ state_after l.fn.draws (3 * l.j);
}
