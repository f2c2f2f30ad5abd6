use Rattle.std.proofs.Common.{◌≡◌, ℕ, ◌<◌, ◌-◌}
use Rattle.drt_ratio.specs.Levels.{height, level_of}
use Rattle.drt_model.specs.Digraph.{vertex_count}
use Rattle.drt_ratio.proofs.traces.risen.Given as goal

abbrev pub invariant-vertices : goal.invariant-vertices
invariant-vertices l = (w : ℕ) → w < l.v → height (level_of l.levels (vertex_count l.graph)) w ≡ height (level_of l.levels (vertex_count l.graph - 1)) w
