use Rattle.std.proofs.Common.{◌≡◌, ℕ, ◌<◌, pos, length}
use Rattle.drt_graph.specs.Potential.{potential_of}
use Rattle.drt_ratio.specs.Levels.{height}
use Rattle.drt_ratio.proofs.improving.potentials.Given as goal

abbrev pub invariant-vertices : goal.invariant-vertices
invariant-vertices l = record {
  counted : length l.out.items ≡ l.v;
  heights : (w : ℕ) → w < l.v → potential_of l.out.items w ≡ pos (height l.level w);
}
