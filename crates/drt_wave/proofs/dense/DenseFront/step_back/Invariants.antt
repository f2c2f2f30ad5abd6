-- There is no step from a vertex so far.
use Rattle.std.proofs.Common.{ℕ, ◌<◌}
use Rattle.drt_wave.specs.Backwards.{IsBackStep}
use Rattle.drt_wave.proofs.dense.DenseFront.step_back.Given as goal

abbrev pub invariant-vertices : goal.invariant-vertices
invariant-vertices l = (v r : ℕ) → v < l.u → IsBackStep l.self v r l.vertex l.offset → ⊥
