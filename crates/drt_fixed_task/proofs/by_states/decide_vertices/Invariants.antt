-- A time passes at each vertex so far.
use Rattle.std.proofs.Common.{ℕ, ◌<◌}
use Rattle.drt_sp.specs.Choices.{VertexPasses}
use Rattle.drt_fixed_task.proofs.by_states.decide_vertices.Given as goal

abbrev pub invariant-vertices : goal.invariant-vertices
invariant-vertices g l = (v : ℕ) → v < l.vertex → VertexPasses l.given.set.now.tasks l.given.task v
